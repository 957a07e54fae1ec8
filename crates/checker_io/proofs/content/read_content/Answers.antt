use Rattle.checker_io.proofs.Readings.{content_ok, content_none, content_long}
use Rattle.checker_io.proofs.content.read_content.Goals as goal

pub returns-in-Ok-clause-reads : goal.returns-in-Ok-clause-reads
returns-in-Ok-clause-reads g c = λ named e.
    record {
      kept = c.read.ensures.kept;
      ends = (c.in-Ok.ensures.cause, content_ok named _ c.args.file c.args.max c.args.too_long c.args.name.now _ e c.in-Ok.ensures.fits c.in-Ok.ensures.gives);
    }

pub returns-in-Err-Missing-clause-reads : goal.returns-in-Err-Missing-clause-reads
returns-in-Err-Missing-clause-reads g c = λ named e.
    record {
      kept = c.read.ensures.kept;
      ends = (
        rw c.in-Err-Missing.field-0-is at c.in-Err-Missing.ensures.cause,
        content_none named _ c.args.file c.args.max c.args.too_long c.args.name.now e (rw c.in-Err-Missing.field-0-is at c.in-Err-Missing.ensures.gives),
      );
    }

pub returns-in-Err-TooLong-clause-reads : goal.returns-in-Err-TooLong-clause-reads
returns-in-Err-TooLong-clause-reads g c = λ named e.
    record {
      kept = c.read.ensures.kept;
      ends = (
        rw c.in-Err-TooLong.field-0-is at c.in-Err-TooLong.ensures.cause,
        content_long named _ c.args.file c.args.max c.args.too_long c.args.name.now e (rw c.in-Err-TooLong.field-0-is at c.in-Err-TooLong.ensures.gives),
      );
    }

use Rattle.std.proofs.Common.{Err, ap, sym}
use Rattle.package_lists.proofs.Names.{no_names}
use Rattle.package_lists.proofs.paths.read_names.Goals as goal

pub returns-in-Err-Bad : goal.returns-in-Err-Bad
returns-in-Err-Bad c =
    sym (no_names c.args.parts.now c.loop-part.part-index _ c.loop-part-test.true (c.in-Err-Bad.ensures.bad.0 (ap Err c.in-Err-Bad.field-0-is)))

use Rattle.std.proofs.Common.{refl, sym}
use Rattle.checker_input.proofs.Files.{named_failed, named_long, named_nothing, named_ok}
use Rattle.checker_input.proofs.read_file.read_within.Goals as goal

pub returns-in-Ok : goal.returns-in-Ok
returns-in-Ok g c =
    (refl, named_ok c.args.most c.args.name _ _ c.in-Ok.content (c.in-Ok.ensures.reads (λ _. c.args.name) (sym c.as_str.ensures)))

pub returns-in-Err-Refused : goal.returns-in-Err-Refused
returns-in-Err-Refused g c =
    named_long c.args.most c.args.name _ _ _ ((rw c.in-Err-Refused.field-0-is at c.in-Err-Refused.ensures.reads) (λ _. c.args.name) (sym c.as_str.ensures))

pub returns-in-Err-ReadFailed : goal.returns-in-Err-ReadFailed
returns-in-Err-ReadFailed g c =
    named_failed c.args.most c.args.name _ _ _ ((rw c.in-Err-ReadFailed.field-0-is at c.in-Err-ReadFailed.ensures.reads) (λ _. c.args.name) (sym c.as_str.ensures))

pub returns-in-Err-NoMemory : goal.returns-in-Err-NoMemory
returns-in-Err-NoMemory g c =
    named_nothing c.args.most c.args.name _ _ ((rw c.in-Err-NoMemory.field-0-is at c.in-Err-NoMemory.ensures.reads) (λ _. c.args.name) (sym c.as_str.ensures))

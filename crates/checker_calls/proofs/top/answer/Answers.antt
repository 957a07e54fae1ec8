use Rattle.std.proofs.Common.{refl}
use Rattle.checker_calls.proofs.Calls.{usage_said}
use Rattle.checker_calls.proofs.InRange.{in_range}
use Rattle.checker_calls.proofs.top.answer.Goals as goal

pub reply-requires : goal.reply-requires
reply-requires g c = (
  c.type_bounds.sync-R,
  (c.type_bounds.sync-G, in_range c.loads_are_small.ensures c.args.words.now c.in-Ok.request c.in-Ok.ensures),
)

pub returns-in-Ok-usage_line-clause-replies : goal.returns-in-Ok-usage_line-clause-replies
returns-in-Ok-usage_line-clause-replies g c =
    (record { count = refl; name = refl }, usage_said _ _ c.in-Err-Usage.word _ (rw c.in-Err-Usage.field-0-is at c.in-Err-Usage.ensures) c.in-Ok-usage_line.ensures)

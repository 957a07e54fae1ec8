use Rattle.std.proofs.Common.{refl}
use Rattle.checker_calls.proofs.Took.{takes_part}
use Rattle.checker_calls.proofs.deliver.write_no_memory.Goals as goal

pub returns : goal.returns
returns g c = (refl, takes_part _ _ _ c.write_text.result c.write_text.ensures.takes)

use Rattle.std.proofs.Common.{arith}
use Rattle.text_tests.proofs.shared_lists.one_set_takes_three_steps.Goals as goal

pub returns : goal.returns
returns g c = omega (arith, c.set.ensures.cost 2 (omega arith) (omega arith))

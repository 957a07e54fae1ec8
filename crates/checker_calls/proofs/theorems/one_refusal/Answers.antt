use Rattle.checker_calls.proofs.OneRefusal.{one_refusal}
use Rattle.checker_calls.proofs.Works.{one_work}
use Rattle.checker_calls.proofs.theorems.one_refusal.Goals as goal

pub returns : goal.returns
returns c = one_refusal one_work

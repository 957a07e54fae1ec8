use Rattle.checker_input.proofs.OneAnswer.{one_answer}
use Rattle.checker_input.proofs.theorems.one_answer.Goals as goal

pub returns : goal.returns
returns c = one_answer

use Rattle.shell_grammar.proofs.Limits.{not_spelled, not_stopped, one_fault}
use Rattle.shell_grammar.proofs.theorems.one_fault.Goals as goal

pub returns-clause-one : goal.returns-clause-one
returns-clause-one c = one_fault

pub returns-clause-no_script : goal.returns-clause-no_script
returns-clause-no_script c = λ end ts a f x. not_stopped end ts a x.rest x.reads f

pub returns-clause-not_spelled : goal.returns-clause-not_spelled
returns-clause-not_spelled c = λ end ts at a s. not_spelled end ts at s a

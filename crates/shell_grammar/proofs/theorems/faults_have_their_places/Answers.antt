use Rattle.std.proofs.Common.{arith}
use Rattle.shell_grammar.proofs.Faults.{first_of_stopped, none_within, one_first, pass_whole}
use Rattle.shell_grammar.proofs.theorems.faults_have_their_places.Goals as goal

pub returns-clause-first : goal.returns-clause-first
returns-clause-first c = first_of_stopped

pub returns-clause-one : goal.returns-clause-one
returns-clause-one c = one_first

pub returns-clause-none : goal.returns-clause-none
returns-clause-none c = λ end ts body s. (pass_whole 0 end ts body s.rest (omega arith) s.reads, none_within end ts body s)

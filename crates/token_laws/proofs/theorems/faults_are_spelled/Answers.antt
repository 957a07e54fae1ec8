use Rattle.std.proofs.Common.{false, true}
use Rattle.shell_lexer.proofs.FaultPlaces.{faults_stand}
use Rattle.shell_lexer.proofs.SpelledFaults.{bad_is, bad_seen, nul_is, nul_seen, line_refused, refused_line}
use Rattle.shell_lexer.proofs.SpelledWrong.{wrong_is, wrong_seen}
use Rattle.token_laws.proofs.theorems.faults_are_spelled.Goals as goal

pub returns-clause-token : goal.returns-clause-token
returns-clause-token c = λ len text fault. (wrong_is len text fault, wrong_seen len text fault)

pub returns-clause-outside : goal.returns-clause-outside
returns-clause-outside c = λ len text fault. (bad_is false len text fault, bad_seen false len text fault)

pub returns-clause-inside : goal.returns-clause-inside
returns-clause-inside c = λ len text fault. (bad_is true len text fault, bad_seen true len text fault)

pub returns-clause-nul : goal.returns-clause-nul
returns-clause-nul c = λ text at. (nul_is text at, nul_seen text at)

pub returns-clause-first_line : goal.returns-clause-first_line
returns-clause-first_line c = λ line. (refused_line line, line_refused line)

pub returns-clause-places : goal.returns-clause-places
returns-clause-places c = faults_stand

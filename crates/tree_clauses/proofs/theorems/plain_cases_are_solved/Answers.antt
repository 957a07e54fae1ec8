use Rattle.tree_clauses.proofs.PlainCases.{plain_solved}
use Rattle.tree_clauses.proofs.theorems.plain_cases_are_solved.Goals as goal

pub returns : goal.returns
returns c = plain_solved

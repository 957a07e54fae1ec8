use Rattle.tree_clauses.proofs.ClauseLaw.{read_back, one_told}
use Rattle.tree_clauses.proofs.theorems.clauses_read_back.Goals as goal

pub returns-clause-back : goal.returns-clause-back
returns-clause-back c = read_back

pub returns-clause-one : goal.returns-clause-one
returns-clause-one c = one_told

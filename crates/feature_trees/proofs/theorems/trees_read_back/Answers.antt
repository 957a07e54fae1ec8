use Rattle.feature_trees.proofs.FirstVersion.{says_same}
use Rattle.feature_trees.proofs.ReadBack.{read_back, first_read_back}
use Rattle.feature_trees.proofs.theorems.trees_read_back.Goals as goal

pub returns-clause-now : goal.returns-clause-now
returns-clause-now c v t d b = read_back v t d b

pub returns-clause-line : goal.returns-clause-line
returns-clause-line c line = says_same line

pub returns-clause-first : goal.returns-clause-first
returns-clause-first c v t d b = first_read_back v t d b

use Rattle.feature_trees.proofs.Kept.{same_dirs}
use Rattle.feature_trees.proofs.theorems.entries_determine.Goals as goal

pub returns : goal.returns
returns c v w s t d e h = same_dirs v w s t d e h

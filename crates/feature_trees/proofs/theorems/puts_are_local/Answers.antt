use Rattle.feature_trees.proofs.Laws.{at-put_same, at-put_other, at-put_below, at-put_above}
use Rattle.feature_trees.proofs.Kept.{sound-put}
use Rattle.feature_trees.proofs.theorems.puts_are_local.Goals as goal

pub returns-clause-same : goal.returns-clause-same
returns-clause-same c v w p s h = at-put_same v p w s h

pub returns-clause-other : goal.returns-clause-other
returns-clause-other c v w above f g p q s differ = at-put_other above v f g p q w s differ

pub returns-clause-below : goal.returns-clause-below
returns-clause-below c v w p q s h = at-put_below v p q w s h

pub returns-clause-above : goal.returns-clause-above
returns-clause-above c v w p q s h = at-put_above v p q w s h

pub returns-clause-sound : goal.returns-clause-sound
returns-clause-sound c v w p s t names = sound-put v p w s t names

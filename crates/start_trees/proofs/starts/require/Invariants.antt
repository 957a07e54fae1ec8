use Rattle.std.proofs.Common.{take}
use Rattle.start_trees.proofs.Walks.{Walked}
use Rattle.start_trees.proofs.starts.require.Given as goal

abbrev pub invariant-loop-f : goal.invariant-loop-f
invariant-loop-f l = Walked l.fn.store l.store (take l.f-index l.f-items) l.x.0

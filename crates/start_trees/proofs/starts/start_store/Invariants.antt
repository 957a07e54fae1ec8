use Rattle.std.proofs.Common.{take}
use Rattle.start_trees.proofs.NeedByNeed.{StartsWith}
use Rattle.start_trees.proofs.starts.start_store.Given as goal

abbrev pub invariant-loop-need : goal.invariant-loop-need
invariant-loop-need l = StartsWith l.store (take l.need-index l.need-items)

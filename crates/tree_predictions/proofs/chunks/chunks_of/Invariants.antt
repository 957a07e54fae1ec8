use Rattle.std.proofs.Common.{List, ◌++◌, ◌≤◌}
use Rattle.std.specs.Prelude.{◌-◌}
use Rattle.tree_predictions.specs.declared.chunks.Chunk.{Chunk}
use Rattle.tree_predictions.specs.Chunks.{Follow}
use Rattle.tree_predictions.proofs.chunks.chunks_of.Given as goal

abbrev pub invariant-loop-from : goal.invariant-loop-from
invariant-loop-from l =
    (l.from ≤ l.count) × ((rest : List Chunk) → Follow l.from l.count rest → Follow 0 l.count (l.chunks ++ rest))

abbrev pub decreases-loop-from : goal.decreases-loop-from
decreases-loop-from l = l.count - l.from

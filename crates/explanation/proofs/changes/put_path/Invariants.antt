use Rattle.std.proofs.Common.{◌≡◌, ◌++◌, length}
use Rattle.explanation.specs.Changes.{path_bytes}
use Rattle.explanation.proofs.changes.put_path.Given as goal

abbrev pub invariant-loop-left : goal.invariant-loop-left
invariant-loop-left l = l.path ++ path_bytes l.left ≡ l.initial.path ++ path_bytes l.names

abbrev pub decreases-loop-left : goal.decreases-loop-left
decreases-loop-left l = length l.left

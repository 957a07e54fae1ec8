use Rattle.std.proofs.Common.{◌≡◌, take}
use Rattle.feature_trees.proofs.same.+equal.Given as goal

abbrev pub invariant-same_entries-loop-i : goal.invariant-same_entries-loop-i
invariant-same_entries-loop-i l = take l.i l.a ≡ take l.i l.b

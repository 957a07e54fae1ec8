use Rattle.std.proofs.Common.{◌≡◌, ◌+◌, ◌*◌, ◌++◌, drop}
use Rattle.feature_trees.specs.Shape.{weight, count_all}
use Rattle.feature_trees.specs.View.{node_of}
use Rattle.tree_pictures.specs.Placed.{entries_places}
use Rattle.tree_pictures.proofs.placed.+placing.Given as goal

abbrev pub decreases-add_entries : goal.decreases-add_entries
decreases-add_entries l = 2 * count_all l.entries.now

abbrev pub decreases-add_value : goal.decreases-add_value
decreases-add_value l = 2 * weight (node_of l.value.now) + 1

abbrev pub invariant-add_entries-loop-at : goal.invariant-add_entries-loop-at
invariant-add_entries-loop-at l =
    l.places ++ entries_places (drop l.at l.entries) l.path ≡ l.initial.places ++ entries_places l.entries l.path

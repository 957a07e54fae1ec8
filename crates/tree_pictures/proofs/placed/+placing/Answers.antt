use Rattle.std.proofs.Common.{◌++◌, arith, add-one, drop, ap, ◌∙◌}
use Rattle.feature_trees.specs.View.{node_of}
use Rattle.tree_pictures.specs.Placed.{entries_places, value_places}
use Rattle.tree_pictures.proofs.Placing.{directory_weight, entry_lighter, added_behind}
use Rattle.tree_pictures.proofs.placed.+placing.Goals as goal

pub add_entries-add_value-requires : goal.add_entries-add_value-requires
add_entries-add_value-requires t c = (
  omega (
    arith,
    c.decreases,
    entry_lighter c.args.entries.now c.loop-at.at (record { name = c.in-Some.name.now; node = node_of c.in-Some.value.now }) c.in-Some.ensures.some.1,
  ),
  tt,
)

pub add_entries-loop-at-preserved : goal.add_entries-loop-at-preserved
add_entries-loop-at-preserved t c =
    ap (λ n. c.add_value.new.places ++ entries_places (drop n c.args.entries.now) c.args.path.now) (add-one c.loop-at.at)
    ∙ added_behind c.args.places.now c.loop-at.places c.add_value.new.places c.args.entries.now c.loop-at.at
    c.in-Some.name.now c.in-Some.value.now c.args.path.now (entries_places c.args.entries.now c.args.path.now)
    c.in-Some.ensures.some.0 c.in-Some.ensures.some.1
    (c.in_ok-add_value-in-Some.ensures ∙ ap (λ p. c.loop-at.places ++ value_places c.in-Some.value.now p) c.in_ok-path-in-Some.ensures)
    c.loop-at.invariant

pub add_value-add_entries-requires : goal.add_value-add_entries-requires
add_value-add_entries-requires t c =
    (omega (arith, c.decreases, directory_weight c.args.value.now c.in-Dir.entries c.in-Dir.is), tt)

-- The row of an act that moves and copies nothing goes by what is seen at the end of its own path.
use Rattle.std.proofs.Common.{◌≡◌, ℕ, Bool, false, if◌then◌else◌, None, List, sym}
use Rattle.feature_trees.specs.declared.value.Value.{Value}
use Rattle.feature_trees.specs.declared.kind.Kind.{Kind}
use Rattle.feature_trees.specs.declared.kind.Kind.TheVariants.{Absent}
use Rattle.feature_trees.specs.Tree.{at}
use Rattle.utility_calls.specs.declared.acts.Act.{Act}
use Rattle.utility_calls.specs.declared.sights.Row.{Row}
use Rattle.utility_calls.specs.Ways.{in_dir, link_on_way}
use Rattle.utility_calls.specs.Sights.{sight_of}
use Rattle.utility_calls.specs.Table.{rules, first_row}
use Rattle.utility_calls.specs.Acts.{path_of, inner_name, inner_at, source, second_link, by_way, own_row}
use Rattle.utility_calls.proofs.ActChanges.{place_is, beside, no_source, no_second}

abbrev seen_row : Act → Value → Row
seen_row a tree =
    let here = at tree (path_of a).names in
    first_row (rules false a) Absent (sight_of (in_dir tree (path_of a).names) here (inner_at here (inner_name a)))

-- the row of an act by whether it looks at the second way, whether that path is below the first, what kind its source
-- is of, and at which names it looks
abbrev row_at : Act → Value → Bool → Bool → Kind → List (List ℕ) → Row
row_at a tree looks below from names =
    by_way (if looks then link_on_way 128 tree names else None)
    (first_row (rules below a) from
    (sight_of (in_dir tree names) (at tree names) (inner_at (at tree names) (inner_name a))))

pub still_row : (a : Act) (tree : Value) → source a ≡ None
    → seen_row a tree ≡ by_way (second_link a tree) (own_row a tree)
still_row a tree still = λ i.
    row_at a tree (sym (no_second a tree still) i) (sym (beside a still) i) (sym (no_source a tree still) i)
    (sym (place_is a still) i)

-- What a set of names has.
use Rattle.std.specs.Prelude.{ℕ, Bool, List}
use Rattle.std.specs.BTreeSet.{contains_by}
use Rattle.std.specs.Ordering.{nat_cmp}
use Rattle.std.specs.Cmp.Lexicographic.{slice_cmp}
use Rattle.tree_predictions.specs.declared.name_set.NameSet.{NameSet}

-- whether the set has a name
abbrev pub has : NameSet → List ℕ → Bool
has set name = contains_by (λ key. slice_cmp nat_cmp name key.items) set.names

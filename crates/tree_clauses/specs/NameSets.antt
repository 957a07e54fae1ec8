-- What a set of names has.
use Rattle.std.specs.Prelude.{ℕ, Bool, List}
use Rattle.std.specs.BTreeSet.{contains_by}
use Rattle.std.specs.List.{list_any}
use Rattle.std.specs.Str.{bytes_eq}
use Rattle.std.specs.Ordering.{nat_cmp}
use Rattle.std.specs.Cmp.Lexicographic.{slice_cmp}
use Rattle.tree_clauses.specs.declared.name_set.NameSet.{NameSet}

-- whether the set has a name
abbrev pub has : NameSet → List ℕ → Bool
has set f = contains_by (λ key. slice_cmp nat_cmp f key.items) set.names

-- whether a name is one of these
abbrev pub is_among : List (List ℕ) → List ℕ → Bool
is_among names f = list_any (λ g. bytes_eq g f) names

-- What a set of names has, and what a fence with the names of one lets in.
use Rattle.std.specs.Prelude.{ℕ, Bool, true, List, Option, None, Some}
use Rattle.std.specs.BTreeSet.{contains_by}
use Rattle.feature_trees.specs.Tree.{name_cmp}
use Rattle.clause_solver.specs.declared.name_set.NameSet.{NameSet}

-- whether the set has the name
abbrev pub has : NameSet → List ℕ → Bool
has set f = contains_by (λ key. name_cmp f key.items) set.names

-- whether a fence lets the name in, whose names are those of the set
abbrev pub lets_in : Option NameSet → List ℕ → Bool
lets_in None f = true
lets_in (Some set) f = has set f

-- What a fact says of a place of a tree.
use Rattle.std.specs.Prelude.{◌≡◌, ◌≢◌, ℕ, List, IsTrue, Contains}
use Rattle.feature_trees.specs.declared.value.Value.{Value}
use Rattle.feature_trees.specs.declared.value.Value.TheVariants as value
use Rattle.feature_trees.specs.Kinds.{has}
use Rattle.feature_trees.specs.Tree.{at, entry, kind_of}
use Rattle.start_facts.specs.declared.fact.Fact.{Fact}
use Rattle.start_facts.specs.declared.fact.Fact.TheVariants.{Kinds, Fence, Beside, Target}
use Rattle.start_facts.specs.declared.fact.PlaceFact.{PlaceFact}

-- what the fact says of what stands at its place
abbrev pub Says : Fact → Value → Type 0
Says (Kinds kinds) v = IsTrue (has kinds (kind_of v))
Says (Fence names) v = (f : List ℕ) → ¬ (Contains names f) → entry v f ≡ value.Absent
Says (Beside names) v = (f : List ℕ) × ((¬ (Contains names f)) × (entry v f ≢ value.Absent))
Says (Target target) v = v ≡ value.Link target

-- the fact holds of the tree
abbrev pub Holds : Value → PlaceFact → Type 0
Holds tree place_fact = Says place_fact.fact (at tree place_fact.place)

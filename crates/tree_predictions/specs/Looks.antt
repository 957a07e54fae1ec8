-- What clauses ask of the kinds of what stands at places of a tree, clause by clause.
use Rattle.std.specs.Prelude.{◌≡◌, ℕ, suc, Bool, true, List, [], ◌∷◌, ◌++◌}
use Rattle.std.specs.Prelude.{if◌then◌else◌}
use Rattle.std.specs.List.{list_all}
use Rattle.feature_trees.specs.declared.value.Value.{Value}
use Rattle.feature_trees.specs.Kinds.{has}
use Rattle.feature_trees.specs.Tree.{at, kind_of}
use Rattle.tree_clauses.specs.declared.clause.Clause.{Clause}
use Rattle.tree_clauses.specs.Literals.{CoversTree}
use Rattle.start_facts.specs.declared.fact.Fact.{Fact}
use Rattle.start_facts.specs.declared.fact.Fact.TheVariants.{Kinds, Fence, Beside, Target}
use Rattle.start_facts.specs.declared.fact.PlaceFact.{PlaceFact}
use Rattle.tree_predictions.specs.declared.looks.Look.{Look}

-- whether a look holds of a tree
abbrev pub holds : Value → Look → Bool
holds tree look = has look.kinds (kind_of (at tree look.names))

-- all looks hold of a tree
abbrev pub AllHold : Value → List Look → Type 0
AllHold tree looks = list_all (holds tree) looks ≡ true

-- each look holds of every tree that the clause covers
abbrev pub AreNecessary : Clause → List Look → Type 0
AreNecessary clause looks = (tree : Value) → CoversTree clause tree → AllHold tree looks

-- how many looks hold of a tree, from the first on
abbrev pub held_of : Value → List Look → ℕ
held_of tree [] = 0
held_of tree (look ∷ looks) = if holds tree look then suc (held_of tree looks) else 0

-- the look that a fact on a place is, if it is one
abbrev pub look_of : List (List ℕ) → Fact → List Look
look_of place (Kinds kinds) = record { names = place; kinds = kinds } ∷ []
look_of place (Fence names) = []
look_of place (Beside names) = []
look_of place (Target target) = []

-- the looks among facts
abbrev pub looks_in : List PlaceFact → List Look
looks_in [] = []
looks_in (place_fact ∷ facts) = look_of place_fact.place place_fact.fact ++ looks_in facts

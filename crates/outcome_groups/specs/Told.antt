-- What it is for the groups of a part to be told: who meets the facts of a group.
use Rattle.std.specs.Prelude.{◌≡◌, ◌↔◌, ℕ, ◌<◌, List, length, IsTrue, All, Contains, Some, slice_get}
use Rattle.feature_trees.specs.declared.value.Value.{Value}
use Rattle.scenario_outcomes.specs.declared.outcome.Outcome.{Outcome}
use Rattle.scenario_outcomes.specs.Outcomes.{CoversAt}
use Rattle.start_facts.specs.PlaceFacts.{Holds}
use Rattle.outcome_groups.specs.declared.group.FactBox.{FactBox}
use Rattle.outcome_groups.specs.declared.group.Group.{Group}

-- the tree has all facts of the box
pub record Meets (tree : Value) (box : FactBox) : Type 0 where
  pub deciding : All (Holds tree) box.deciding
  pub others : All (Holds tree) box.others

-- the tree meets some box of the group
pub record MeetsSome (tree : Value) (group : Group) : Type 0 where
  pub place : ℕ
  pub box : FactBox
  pub at : slice_get group.boxes place ≡ Some box
  pub meets : Meets tree box

-- an outcome of the group covers the tree
pub record IsIn (outcomes : List Outcome) (group : Group) (tree : Value) : Type 0 where
  pub place : ℕ
  pub covers : CoversAt outcomes place tree
  pub member : Contains group.members place

-- The group is told: each start tree of its outcomes meets some box; and where it is told exactly, a start tree meets
-- some box exactly where its outcome is in the group.
pub record IsTold (start : Value → Type 0) (outcomes : List Outcome) (group : Group) : Type 0 where
  pub met : (tree : Value) → start tree → IsIn outcomes group tree → MeetsSome tree group
  pub exact : IsTrue group.exactly
      → (tree : Value) → start tree → MeetsSome tree group ↔ IsIn outcomes group tree

-- the outcome at this place is in one group, and in no other
pub record IsInOne (groups : List Group) (place : ℕ) : Type 0 where
  pub at : ℕ
  pub group : Group
  pub is : slice_get groups at ≡ Some group
  pub member : Contains group.members place
  pub alone : (other : ℕ) (another : Group) → slice_get groups other ≡ Some another → Contains another.members place
      → other ≡ at

-- the groups are told, and each outcome is in one of them
pub record AreTold (start : Value → Type 0) (outcomes : List Outcome) (groups : List Group) : Type 0 where
  pub told : All (IsTold start outcomes) groups
  pub once : (place : ℕ) → place < length outcomes → IsInOne groups place

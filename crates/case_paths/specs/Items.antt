-- What is left of an exploration: stages that wait, and paths that have ended.
use Rattle.std.specs.Prelude.{◌≡◌, ℕ, zero, suc, ◌<◌, ◌≤◌, List, [], ◌∷◌, ◌++◌, length, Result, Ok, Err}
use Rattle.utility_calls.specs.Walks.{Walk}
use Rattle.case_paths.specs.declared.state.PathState.{PathState}
use Rattle.case_paths.specs.declared.state.Found.{Found}
use Rattle.case_paths.specs.declared.state.PathsFault.{PathsFault}
use Rattle.case_paths.specs.declared.state.PathsFault.TheVariants.{Over, Memory}
use Rattle.case_paths.specs.declared.pursuit.Pursued.{Pursued}
use Rattle.case_paths.specs.declared.items.Item.{Item}
use Rattle.case_paths.specs.declared.items.Item.TheVariants.{Waiting, Ended}
use Rattle.case_paths.specs.Paths.{AllAlive}
use Rattle.case_paths.specs.Stages.{Parts, IsStage, HasEnded}

-- stages that wait
abbrev pub stage_items : {A : Type 0} → List PathState → List (Item A)
stage_items [] = []
stage_items (x ∷ xs) = Waiting x ∷ stage_items xs

-- paths that have ended
abbrev pub path_items : {A : Type 0} → List (Found A) → List (Item A)
path_items [] = []
path_items (x ∷ xs) = Ended x ∷ path_items xs

-- what comes of a stage: the stages with lower traces, the path, the stages with higher traces
abbrev pub found_items : {A : Type 0} → Pursued A → List (Item A)
found_items found = stage_items found.lower ++ Ended found.path ∷ stage_items found.higher

-- the states of items
abbrev pub item_states : {A : Type 0} → List (Item A) → List PathState
item_states [] = []
item_states (Waiting x ∷ items) = x ∷ item_states items
item_states (Ended path ∷ items) = path.state ∷ item_states items

-- the items that wait are stages, and the others are paths that have ended
abbrev pub AllItems : {A : Type 0} → Walk A → List (Item A) → Type 0
AllItems d [] = Unit {0}
AllItems d (Waiting x ∷ items) = IsStage d x × AllItems d items
AllItems d (Ended path ∷ items) = HasEnded d path × AllItems d items

-- how many of them have ended
abbrev pub ended_count : {A : Type 0} → List (Item A) → ℕ
ended_count [] = zero
ended_count (Waiting x ∷ items) = ended_count items
ended_count (Ended path ∷ items) = suc (ended_count items)

-- items that come of others by runs of stages among these: they part whatever the others part
pub record Refine {A : Type 0} (d : Walk A) (xs ys : List (Item A))
    : Type 0 where
  pub items : AllItems d ys
  pub alive : AllAlive (item_states ys)
  pub parts : (x : PathState) → Parts x (item_states xs) → Parts x (item_states ys)

-- a round over items: what comes of them, with one path that has ended for each of them; or more items than room
abbrev pub Advanced : {A : Type 0} → Walk A → List (Item A) → ℕ
    → Result (List (Item A)) PathsFault → Type 0
Advanced d xs room (Ok ys) =
    Refine d xs ys × (length ys ≤ room) × (ended_count ys ≡ length xs)
Advanced {A} d xs room (Err Over) = (ys : List (Item A)) × Refine d xs ys × (room < length ys)
Advanced d xs room (Err Memory) = Unit {0}

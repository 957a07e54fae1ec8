-- What is known of a path before it has ended, and how one state parts into several.
use Rattle.std.specs.Prelude.{◌≡◌, ℕ, ◌+◌, ◌<◌, ◌≤◌, ◌⊎◌, List, [], ◌∷◌, ◌++◌, length, Result, Ok, Err}
use Rattle.feature_trees.specs.declared.value.Value.{Value}
use Rattle.utility_calls.specs.declared.deeds.Deed.{Deed}
use Rattle.utility_calls.specs.Walks.{Walk, fresh, walk, AllDone}
use Rattle.tree_clauses.specs.Literals.{Valuation}
use Rattle.clause_solver.specs.Stands.{Stands}
use Rattle.clause_solver.specs.Pairs.{HasPair}
use Rattle.case_paths.specs.declared.state.PathState.{PathState}
use Rattle.case_paths.specs.declared.state.Found.{Found}
use Rattle.case_paths.specs.declared.state.PathsFault.{PathsFault}
use Rattle.case_paths.specs.declared.state.PathsFault.TheVariants.{Over, Memory}
use Rattle.case_paths.specs.declared.pursuit.Pursued.{Pursued}
use Rattle.case_paths.specs.Traces.{Rising, AllBegin}
use Rattle.case_paths.specs.Paths.{EndsAs, traces, AllAlive}
use Rattle.case_paths.specs.Steps.{world_of}

-- some of these has a pair with the start tree
abbrev pub Holds : List PathState → Value → Type 0
Holds [] t = ⊥
Holds (x ∷ xs) t = ((v : Value) × HasPair x.store t v) ⊎ Holds xs t

-- The states part those pairs that the state x has: each start tree of x is in one of them, and no other is; each has
-- a pair, and their traces rise and begin with that of x.
pub record Parts (x : PathState) (ys : List PathState) : Type 0 where
  pub all : (t v : Value) → HasPair x.store t v → Holds ys t
  pub none_else : (t : Value) → Holds ys t → (v : Value) × HasPair x.store t v
  pub alive : AllAlive ys
  pub rising : Rising (traces ys)
  pub under : AllBegin x.trace (traces ys)

-- A stage of a walk: what is left of it, walked from each world of the state behind its trace and these deeds, comes to
-- what is walked from the world's start tree.
pub record IsStageOf {A : Type 0} (d : Walk A) (x : PathState) (rest : Walk A) (deeds : List Deed) : Type 0 where
  pub known : x.kept.0 < x.store.count
  pub count : x.done ≡ length deeds
  pub all : AllDone rest
  pub walks : (t : Value) (g : Valuation) → Stands x.store t g
      → walk rest (world_of x g) x.trace deeds ≡ walk d (fresh t) [] []

-- the state is a stage, with something left of the walk
abbrev pub IsStage : {A : Type 0} → Walk A → PathState → Type 0
IsStage {A} d x = (rest : Walk A) × (deeds : List Deed) × IsStageOf d x rest deeds

-- each of these is a stage
abbrev pub AllStages : {A : Type 0} → Walk A → List PathState → Type 0
AllStages d [] = Unit {0}
AllStages d (x ∷ xs) = IsStage d x × AllStages d xs

-- the path has ended: what is walked from each of its start trees ends as it does
abbrev pub HasEnded : {A : Type 0} → Walk A → Found A → Type 0
HasEnded d x = (t v : Value) → HasPair x.state.store t v → EndsAs (walk d (fresh t) [] []) x v

-- each of these has ended
abbrev pub AllEnded : {A : Type 0} → Walk A → List (Found A) → Type 0
AllEnded d [] = Unit {0}
AllEnded d (x ∷ xs) = HasEnded d x × AllEnded d xs

-- the stage has parted into more stages than room
pub record PartsBeyond {A : Type 0} (d : Walk A) (x : PathState)
    (room : ℕ) : Type 0 where
  pub states : List PathState
  pub stages : AllStages d states
  pub parts : Parts x states
  pub count : room < length states

-- what comes of a stage: a path that has ended, and the further stages that part from it
pub record Comes {A : Type 0} (d : Walk A) (x : PathState)
    (found : Pursued A) : Type 0 where
  pub lower : AllStages d found.lower
  pub ended : HasEnded d found.path
  pub higher : AllStages d found.higher
  pub parts : Parts x (found.lower ++ found.path.state ∷ found.higher)

-- the answer of a pursuit: what comes of the stage, where there is room for that; `Over` where there is not; or there
-- is no memory
abbrev pub IsPursued : {A : Type 0} → Walk A → PathState → ℕ
    → Result (Pursued A) PathsFault → Type 0
IsPursued d x room (Ok found) =
    Comes d x found × (length found.lower + 1 + length found.higher ≤ room)
IsPursued d x room (Err Over) = PartsBeyond d x room
IsPursued d x room (Err Memory) = Unit {0}

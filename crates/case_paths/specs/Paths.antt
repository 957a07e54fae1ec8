-- What the paths of a walk from a set of pairs of trees are.
use Rattle.std.specs.Prelude.{◌≡◌, ℕ, zero, suc, ◌<◌, ◌≤◌, List, [], ◌∷◌, length, Result, Ok, Err}
use Rattle.script_names.specs.declared.mark.Mark.{Mark}
use Rattle.feature_trees.specs.declared.value.Value.{Value}
use Rattle.clause_solver.specs.Stands.{Seen, Alive}
use Rattle.clause_solver.specs.Pairs.{HasPair}
use Rattle.utility_calls.specs.Walks.{Walk, Walked, fresh, walk}
use Rattle.case_paths.specs.declared.state.PathState.{PathState}
use Rattle.case_paths.specs.declared.state.Found.{Found}
use Rattle.case_paths.specs.declared.state.Ran.{Ran}
use Rattle.case_paths.specs.declared.state.PathsFault.{PathsFault}
use Rattle.case_paths.specs.declared.state.PathsFault.TheVariants.{Over, Memory}
use Rattle.case_paths.specs.Traces.{Rising}

-- a run gives what is walked
pub record Gives {A : Type 0} (p : Walked A) (ran : Ran A) : Type 0 where
  pub value : ran.value ≡ p.value
  pub trace : ran.trace ≡ p.trace
  pub deeds : ran.deeds ≡ p.deeds

-- what is walked ends as this path does, with this tree
pub record EndsAs {A : Type 0} (p : Walked A) (x : Found A) (v : Value) : Type 0 where
  pub value : x.value ≡ p.value
  pub trace : x.state.trace ≡ p.trace
  pub tree : v ≡ p.world.tree

-- y is the path at this place, counted from 0
abbrev pub IsAt : {A : Type 0} → List (Found A) → ℕ → Found A → Type 0
IsAt [] k y = ⊥
IsAt (x ∷ xs) zero y = x ≡ y
IsAt (x ∷ xs) (suc k) y = IsAt xs k y

-- exactly one path has a pair with the start tree t: what is walked ends as it does, with the tree of that pair
pub record Once {A : Type 0} (p : Walked A) (xs : List (Found A)) (t : Value) : Type 0 where
  pub place : ℕ
  pub path : Found A
  pub is_there : IsAt xs place path
  pub has : HasPair path.state.store t p.world.tree
  pub ends : EndsAs p path p.world.tree
  pub alone : (j : ℕ) (y : Found A) (v : Value) → IsAt xs j y → HasPair y.state.store t v → j ≡ place

-- the state's trace
abbrev pub trace_of : PathState → List Mark
trace_of x = x.trace

-- the traces of states, in their order
abbrev pub traces : List PathState → List (List Mark)
traces [] = []
traces (x ∷ xs) = x.trace ∷ traces xs

-- the states of paths
abbrev pub states : {A : Type 0} → List (Found A) → List PathState
states [] = []
states (x ∷ xs) = x.state ∷ states xs

-- each of these has a pair
abbrev pub AllAlive : List PathState → Type 0
AllAlive [] = Unit {0}
AllAlive (x ∷ xs) = Alive x.store × AllAlive xs

-- these are the paths of a walk from the pairs of a store: each pair is on exactly one path, that
-- of what is walked from its tree now; a path has no other pairs, and at least one; the traces rise
pub record AreThePaths {A : Type 0} (d : Walk A) (s : Seen) (xs : List (Found A)) : Type 0
  where
    pub once : (t u : Value) → HasPair s t u → Once (walk d (fresh u) [] []) xs t
    pub none_else : (k : ℕ) (x : Found A) (t v : Value) → IsAt xs k x → HasPair x.state.store t v
        → (u : Value) × HasPair s t u × EndsAs (walk d (fresh u) [] []) x v
    pub alive : AllAlive (states xs)
    pub rising : Rising (traces (states xs))

-- each of these is the trace of what is walked from a pair
abbrev pub AllPlayed : {A : Type 0} → Walk A → Seen → List (List Mark) → Type 0
AllPlayed d s [] = Unit {0}
AllPlayed d s (f ∷ fs) =
    ((t : Value) × (u : Value) × HasPair s t u × ((walk d (fresh u) [] []).trace ≡ f)) × AllPlayed d s fs

-- what is walked from the pairs has more than `room` different traces
pub record AreTooMany {A : Type 0} (d : Walk A) (s : Seen) (room : ℕ) : Type 0 where
  pub traces : List (List Mark)
  pub rising : Rising traces
  pub played : AllPlayed d s traces
  pub count : room < length traces

-- what is walked from the pairs has no more than `room` different traces
abbrev pub AreFew : {A : Type 0} → Walk A → Seen → ℕ → Type 0
AreFew d s room = (ts : List (List Mark)) → Rising ts → AllPlayed d s ts → length ts ≤ room

-- the answer: the paths, where there is room for their traces; `Over` where there is not; or there is no memory
abbrev pub Explored : {A : Type 0} → Walk A → Seen → ℕ → Result (List (Found A)) PathsFault → Type 0
Explored d s room (Ok xs) = AreThePaths d s xs × (length xs ≤ room) × AreFew d s room
Explored d s room (Err Over) = AreTooMany d s room
Explored d s room (Err Memory) = Unit {0}

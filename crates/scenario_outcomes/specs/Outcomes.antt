-- What it is for a list of outcomes to be exact for the runs from the start trees, and when there is none. What is said
-- here is of any runs, where `run` gives each tree its run, and of any start trees, those of which `start` holds.
use Rattle.std.specs.Prelude.{◌≡◌, ◌≢◌, ◌⊎◌, ℕ, ◌+◌, ◌<◌, ◌≤◌, List, [], ◌∷◌, length, Some, slice_get}
use Rattle.std.specs.Prelude.{Option, Result, Ok, Err}
use Rattle.script_names.specs.declared.mark.Mark.{Mark}
use Rattle.feature_trees.specs.declared.value.Value.{Value}
use Rattle.tree_clauses.specs.Literals.{CoversTree, Covers}
use Rattle.scenario_runs.specs.declared.replayed.Replayed.{Replayed}
use Rattle.scenario_outcomes.specs.declared.outcome.Outcome.{Outcome}
use Rattle.scenario_outcomes.specs.declared.outcome.OutcomesFault.{OutcomesFault}
use Rattle.scenario_outcomes.specs.declared.outcome.OutcomesFault.TheVariants.{NoStart, Over, Memory}

-- ---- what is covered

-- the outcome at a place of the list covers a start tree
pub record CoversAt (outcomes : List Outcome) (place : ℕ) (tree : Value) : Type 0 where
  pub outcome : Outcome
  pub at : slice_get outcomes place ≡ Some outcome
  pub covers : CoversTree outcome.clause tree

-- exactly one outcome covers a start tree
pub record CoversOnce (outcomes : List Outcome) (tree : Value) : Type 0 where
  pub place : ℕ
  pub covers : CoversAt outcomes place tree
  pub alone : (other : ℕ) → CoversAt outcomes other tree → other ≡ place

-- the run from the start tree ends as the outcome says, with its trace, and leaves the tree now
pub record EndsAs (run : Value → Option Replayed) (outcome : Outcome) (tree now : Value) : Type 0 where
  pub replayed : Replayed
  pub is_run : run tree ≡ Some replayed
  pub ending : replayed.ending ≡ outcome.ending
  pub trace : replayed.trace ≡ outcome.trace
  pub after : replayed.after ≡ now

-- ---- the order of traces

-- a mark comes before another: by the step, then the place in the step, then the row
abbrev pub MarkBelow : Mark → Mark → Type 0
MarkBelow a b =
    (a.site.step < b.site.step)
    ⊎ ((a.site.step ≡ b.site.step)
    × ((a.site.at < b.site.at) ⊎ ((a.site.at ≡ b.site.at) × (a.row < b.row))))

-- a trace comes before another: its first different mark does, or it is a strict beginning of it
abbrev pub TraceBelow : List Mark → List Mark → Type 0
TraceBelow a [] = ⊥
TraceBelow [] (mark ∷ b) = Unit {0}
TraceBelow (first ∷ a) (mark ∷ b) = MarkBelow first mark ⊎ ((first ≡ mark) × TraceBelow a b)

-- the traces rise strictly
abbrev pub Rising : List Outcome → Type 0
Rising [] = Unit {0}
Rising (outcome ∷ []) = Unit {0}
Rising (outcome ∷ next ∷ rest) = TraceBelow outcome.trace next.trace × Rising (next ∷ rest)

-- ---- exact

-- The outcomes are exact for the runs from the start trees. So from each start tree the run ends as its one outcome
-- says, and where no outcome is failed, incomplete or bound it is done from all.
pub record IsExact (run : Value → Option Replayed) (start : Value → Type 0) (outcomes : List Outcome) : Type 0 where
  -- each start tree is covered by one of them alone
  pub once : (tree : Value) → start tree → CoversOnce outcomes tree
  -- whatever one covers is a start tree, with the one tree that the run from it leaves; and that run ends as the
  -- outcome says
  pub runs : (place : ℕ) (outcome : Outcome) (tree now : Value) → slice_get outcomes place ≡ Some outcome
      → Covers outcome.clause tree now
      → start tree × EndsAs run outcome tree now
  -- each covers the tree that it shows
  pub shown : (place : ℕ) (outcome : Outcome) → slice_get outcomes place ≡ Some outcome
      → CoversTree outcome.clause outcome.shown
  -- the traces rise strictly, so no two are equal
  pub rising : Rising outcomes
  -- the numbers are 1, 2, 3 and so on
  pub numbered : (place : ℕ) (outcome : Outcome) → slice_get outcomes place ≡ Some outcome → outcome.number ≡ place + 1

-- ---- how many traces there are

-- the run from some start tree has this trace
pub record IsTrace (run : Value → Option Replayed) (start : Value → Type 0) (trace : List Mark) : Type 0 where
  pub tree : Value
  pub is_start : start tree
  pub replayed : Replayed
  pub is_run : run tree ≡ Some replayed
  pub is_trace : replayed.trace ≡ trace

-- each of these is one
abbrev pub AreTraces : (Value → Option Replayed) → (Value → Type 0) → List (List Mark) → Type 0
AreTraces run start [] = Unit {0}
AreTraces run start (trace ∷ traces) = IsTrace run start trace × AreTraces run start traces

-- the trace is none of these
abbrev pub IsNone : List Mark → List (List Mark) → Type 0
IsNone trace [] = Unit {0}
IsNone trace (other ∷ others) = (trace ≢ other) × IsNone trace others

-- no two are equal
abbrev pub Differ : List (List Mark) → Type 0
Differ [] = Unit {0}
Differ (trace ∷ traces) = IsNone trace traces × Differ traces

-- the runs from the start trees have more different traces than the limit
pub record AreTooMany (run : Value → Option Replayed) (start : Value → Type 0) (limit : ℕ) : Type 0 where
  pub traces : List (List Mark)
  pub are : AreTraces run start traces
  pub differ : Differ traces
  pub count : limit < length traces

-- the runs from the start trees have at most as many different traces as the limit
abbrev pub AreFew : (Value → Option Replayed) → (Value → Type 0) → ℕ → Type 0
AreFew run start limit = (traces : List (List Mark)) → AreTraces run start traces → Differ traces
    → length traces ≤ limit

-- ---- the answer

-- there is a start tree
abbrev pub SomeStarts : (Value → Type 0) → Type 0
SomeStarts start = (tree : Value) × start tree

-- The answer: the outcomes, where there is a start tree and there are no more traces than the limit; `NoStart` where
-- there is no start tree; `Over` where there are more traces; or there is no memory.
abbrev pub Answers :
    (Value → Option Replayed) → (Value → Type 0) → ℕ → Result (List Outcome) OutcomesFault → Type 0
Answers run start limit (Ok outcomes) = IsExact run start outcomes × SomeStarts start × AreFew run start limit
Answers run start limit (Err NoStart) = ¬ (SomeStarts start)
Answers run start limit (Err Over) = AreTooMany run start limit
Answers run start limit (Err Memory) = Unit {0}

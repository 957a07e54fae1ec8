-- One deed of a run, for all pairs of a state at once: what it forks the state into.
use Rattle.std.specs.Prelude.{◌≡◌, ℕ, ◌+◌, ◌<◌, ◌↔◌, List, [], ◌∷◌, ◌++◌, length, map, slice_index_or, All, Contains}
use Rattle.script_names.specs.declared.mark.Mark.{Mark}
use Rattle.script_names.specs.declared.mark.Site.{Site}
use Rattle.feature_trees.specs.declared.value.Value.{Value}
use Rattle.utility_calls.specs.declared.acts.Act.{Act}
use Rattle.utility_calls.specs.declared.backs.Back.{Back}
use Rattle.utility_calls.specs.declared.deeds.Deed.{Deed}
use Rattle.utility_calls.specs.declared.deeds.Deed.TheVariants.{Does, Returns, Keeps}
use Rattle.utility_calls.specs.declared.sights.Row.{Row}
use Rattle.utility_calls.specs.Acts.{row, tree_after, IsPerformed}
use Rattle.utility_calls.specs.Backs.{back_row, back_after, IsNamed}
use Rattle.utility_calls.specs.Walks.{World, world}
use Rattle.tree_clauses.specs.declared.case.Case.{Case}
use Rattle.tree_clauses.specs.declared.clause.Var.{Var}
use Rattle.tree_clauses.specs.Literals.{Valuation, value_of_variable}
use Rattle.act_cases.specs.Cases.{case_row, Rising}
use Rattle.clause_solver.specs.Stands.{Stands}
use Rattle.clause_solver.specs.Adds.{AllInside, LeadsFrom, AddsFrom, LeadsNowhereFrom}
use Rattle.case_paths.specs.declared.state.PathState.{PathState}
use Rattle.case_paths.specs.declared.fork.Forks.{Forks}

-- the world of a valuation that a state's store stands for: the tree now, and the kept tree
abbrev pub world_of : PathState → Valuation → World
world_of x g = world (value_of_variable g x.store.current) (value_of_variable g x.kept.0)

-- ---- what cases fork a state into

-- the state y comes of x by a deed with this mark; the kept tree is the same
pub record GoesOn (x : PathState) (mark : Mark) (y : PathState) : Type 0 where
  pub kept : y.kept ≡ x.kept
  pub trace : y.trace ≡ x.trace ++ mark ∷ []
  pub done : y.done ≡ x.done + 1

-- the mark of a site and a row
abbrev pub mark_of : Site → ℕ → Mark
mark_of site n = record { site = site; row = n }

-- a deed at a site forks a state into one for each case that leads on from some pair, with the mark of its row; a case
-- that leads on from no pair is left out. The given variables of the cases stand for these of the store.
pub data Forked (given : List Var) (site : Site) (x : PathState) : List Case → List PathState → Type 0 where
  none : Forked given site x [] []
  left_out : {made : Case} {cases : List Case} {ys : List PathState} → LeadsNowhereFrom x.store given made
      → Forked given site x cases ys → Forked given site x (made ∷ cases) ys
  taken : {made : Case} {cases : List Case} {y : PathState} {ys : List PathState}
      → AddsFrom x.store given made y.store → GoesOn x (mark_of site made.row) y
      → Forked given site x cases ys → Forked given site x (made ∷ cases) (y ∷ ys)

-- there is a case of this row
abbrev pub HasRow : List Case → ℕ → Type 0
HasRow cases n = (made : Case) × Contains cases made × (made.row ≡ n)

-- the case at this place is of this row
abbrev pub IsRowAt : List Case → ℕ → ℕ → Type 0
IsRowAt cases n k = (k < length cases) × ((o : Case) → (slice_index_or cases k o).row ≡ n)

-- there is a case of this row, and each such case leads on from some pair of the state
pub record IsLed (given : List Var) (x : PathState) (cases : List Case) (n : ℕ) : Type 0 where
  pub has : HasRow cases n
  pub leads : (made : Case) → Contains cases made → made.row ≡ n → LeadsNowhereFrom x.store given made → ⊥

-- a deed forks a state into these, of which the one that is followed has this mark
pub record AreForks (mark : Mark) (given : List Var) (x : PathState) (cases : List Case) (forks : Forks) : Type 0 where
  pub forked : Forked given mark.site x cases (forks.lower ++ forks.followed ∷ forks.higher)
  pub followed : GoesOn x mark forks.followed

-- ---- what a deed does in each world

-- a step that leaves a mark: the row that is taken in a world, and the tree that is left
pub record Step : Type 0 where
  pub row_in : World → Row
  pub after : World → Value

-- an act as a step
abbrev pub act_step : Act → Step
act_step act = record { row_in = λ w. row act w.tree; after = λ w. tree_after act w.tree }

-- putting back as a step
abbrev pub back_step : Back → Step
back_step back = record { row_in = λ w. back_row back w.kept w.tree; after = λ w. back_after back w.kept w.tree }

-- the case leads on from a world of the state exactly where its row is taken there, to the tree that the step leaves,
-- and has that row's answer
pub record IsStepCase (x : PathState) (given : List Var) (step : Step) (made : Case) : Type 0 where
  pub exact : (t : Value) (g : Valuation) (u : Value) → Stands x.store t g
      → LeadsFrom made given g u
      ↔ (((step.row_in (world_of x g)).number ≡ made.row) × (u ≡ step.after (world_of x g)))
  pub answers : (t : Value) (g : Valuation) → Stands x.store t g → (step.row_in (world_of x g)).number ≡ made.row
      → made.done ≡ (step.row_in (world_of x g)).answer

-- these are the cases of a step from the state, by rising row: each is exact, and each world of the state has one
pub record AreStepCases (x : PathState) (given : List Var) (step : Step) (cases : List Case) : Type 0 where
  pub inside : AllInside given x.store.count
  pub rising : Rising (map case_row cases)
  pub exact : All (IsStepCase x given step) cases
  pub every : (t : Value) (g : Valuation) → Stands x.store t g → HasRow cases (step.row_in (world_of x g)).number

-- ---- the next deed of a run

-- some world of the state takes this row of a step
abbrev pub Takes : PathState → Step → ℕ → Type 0
Takes x step n =
    (t : Value) × (g : Valuation) × Stands x.store t g × ((step.row_in (world_of x g)).number ≡ n)

-- the run has a mark behind those of the state, and some world of the state takes its row of the step
abbrev pub IsNextStep : PathState → List Mark → Step → Type 0
IsNextStep x marks step =
    (length x.trace < length marks) × ((o : Mark) → Takes x step (slice_index_or marks (length x.trace) o).row)

-- a run with these marks goes on from the state by this deed
abbrev pub IsNext : PathState → List Mark → Deed → Type 0
IsNext x marks (Does act) = IsPerformed act × IsNextStep x marks (act_step act)
IsNext x marks (Returns back) = IsNamed back × IsNextStep x marks (back_step back)
IsNext x marks Keeps = Unit {0}

-- the forks by the cases of a step, of which the one that is followed has the run's next mark
pub record StepForks (x : PathState) (marks : List Mark) (step : Step) (forks : Forks) : Type 0 where
  pub given : List Var
  pub cases : List Case
  pub are : AreStepCases x given step cases
  pub mark : Mark
  pub mark_is : (o : Mark) → slice_index_or marks (length x.trace) o ≡ mark
  pub are_forks : AreForks mark given x cases forks

-- the state y is x with its tree now as the kept tree
pub record IsKept (x y : PathState) : Type 0 where
  pub store : y.store ≡ x.store
  pub kept : y.kept.0 ≡ y.store.current
  pub known : y.kept.0 < y.store.count
  pub trace : y.trace ≡ x.trace
  pub done : y.done ≡ x.done + 1

-- the one state that is followed, with its tree kept: no mark is left
pub record KeepForks (x : PathState) (forks : Forks) : Type 0 where
  pub lower : forks.lower ≡ []
  pub followed : IsKept x forks.followed
  pub higher : forks.higher ≡ []

-- what the next deed of a run with these marks forks the state into
abbrev pub AreForksBy : PathState → List Mark → Deed → Forks → Type 0
AreForksBy x marks (Does act) forks = StepForks x marks (act_step act) forks
AreForksBy x marks (Returns back) forks = StepForks x marks (back_step back) forks
AreForksBy x marks Keeps forks = KeepForks x forks

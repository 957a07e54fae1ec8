-- From what the paths are to the answer, and to the endings.
use Rattle.std.proofs.Common.{◌≡◌, ℕ, suc, List, [], ◌∷◌, ◌+◌, Option, Some, Ok, Err, refl, sym, subst, ap, ◌∙◌}
use Rattle.feature_trees.specs.declared.value.Value.{Value}
use Rattle.tree_clauses.specs.Literals.{value_of_variable}
use Rattle.clause_solver.specs.Stands.{Seen, Alive}
use Rattle.case_paths.specs.Paths.{Explored, AllAlive, states}
use Rattle.case_paths.specs.declared.state.PathsFault.TheVariants as fault
use Rattle.dpkg_scenarios.specs.declared.scenario.Ending.{Ending}
use Rattle.scenario_runs.specs.declared.replayed.Replayed.{Replayed}
use Rattle.scenario_runs.specs.declared.job.Job.{Job}
use Rattle.scenario_runs.specs.Runs.{scenario_run}
use Rattle.scenario_runs.specs.Performed.{ArePerformed}
use Rattle.scenario_runs.specs.Deciding.{decision_of}
use Rattle.scenario_runs.specs.Laws.{DecisionsArePlayed}
use Rattle.start_trees.specs.declared.need.Need.{Need}
use Rattle.start_trees.specs.Needs.{IsStart, AreStarts}
use Rattle.scenario_outcomes.specs.declared.outcome.Outcome.{Outcome}
use Rattle.scenario_outcomes.specs.declared.outcome.OutcomesFault.TheVariants as answer
use Rattle.scenario_outcomes.specs.Endings.{AreEndings, endings_of}
use Rattle.scenario_outcomes.specs.OutcomeOf.{Path, IsOutcomeOf, AreOutcomes, path_endings, ArePaths}
use Rattle.scenario_outcomes.specs.Outcomes.{Answers}
use Rattle.scenario_outcomes.proofs.Exact.{exact, few, too_many}
use Rattle.scenario_outcomes.proofs.StoreClauses.{clause_of, covers_its_pairs}

module _ (job of : Job) (same : of ≡ job) (files : ArePerformed of.files) (law : DecisionsArePlayed) (needs : List Need) (limit : ℕ) (s : Seen) (starts : AreStarts (Some s) needs) where
  whole_answer : (paths : List Path) (outcomes : List Outcome) → Explored (decision_of of files) s limit (Ok paths) → AreOutcomes 0 paths outcomes
      → Answers (scenario_run job) (IsStart needs) limit (Ok outcomes)
  whole_answer paths outcomes found made =
      let P : Job → Type 0 = λ x. Answers (scenario_run x) (IsStart needs) limit (Ok outcomes) in
      let pair = (starts.0 starts.1.0 (value_of_variable starts.1.1 s.current)).0 (starts.1.1, starts.1.2, refl) in
      subst P same (
        exact (scenario_run of) (IsStart needs) (decision_of of files) s (law of files) starts.0 paths outcomes found.0 made,
        (starts.1.0, pair.0),
        few (scenario_run of) (IsStart needs) (decision_of of files) s (law of files) starts.0 paths found.0 limit found.1,
      )

  pub paths_found : (paths : List Path) → Explored (decision_of of files) s limit (Ok paths)
      → ArePaths (scenario_run job) (IsStart needs) limit paths
  paths_found paths found =
      record { told = λ outcomes made. whole_answer paths outcomes found made; alive = found.0.alive; few = found.1 }

  pub over_answer : Explored (decision_of of files) s limit (Err fault.Over) → Answers (scenario_run job) (IsStart needs) limit (Err answer.Over)
  over_answer found =
      let P : Job → Type 0 = λ x. Answers (scenario_run x) (IsStart needs) limit (Err answer.Over) in
      subst P same (too_many (scenario_run of) (IsStart needs) (decision_of of files) s (law of files) starts.0 limit found)

-- ---- the endings, without outcomes

-- the outcome that a path could be told as, with the clause of its store
abbrev pub outcome_of : ℕ → (path : Path) → Alive path.state.store → Outcome
outcome_of place path alive = record {
  number = place + 1;
  ending = path.value.0;
  trace = path.state.trace;
  clause = clause_of path.state.store;
  shown = alive.0;
}

pub is_outcome : (place : ℕ) (path : Path) (alive : Alive path.state.store) → IsOutcomeOf place path (outcome_of place path alive)
is_outcome place path alive = record {
  number = refl;
  ending = refl;
  trace = refl;
  covers = λ t u. covers_its_pairs path.state.store t u;
  shown = (value_of_variable alive.1 path.state.store.current, (alive.1, alive.2, refl));
}

-- there are outcomes that these paths are told as, with their endings
pub record Told (place : ℕ) (paths : List Path) : Type 0 where
  pub outcomes : List Outcome
  pub are : AreOutcomes place paths outcomes
  pub endings : endings_of outcomes ≡ path_endings paths

pub told : (place : ℕ) (paths : List Path) → AllAlive (states paths) → Told place paths
told place [] alive = record { outcomes = []; are = tt; endings = refl }
told place (path ∷ paths) alive =
    let rest = told (suc place) paths alive.1 in
    record {
      outcomes = outcome_of place path alive.0 ∷ rest.outcomes;
      are = (is_outcome place path alive.0, rest.are);
      endings = ap (λ endings. path.value.0 ∷ endings) rest.endings;
    }

module _ (run : Value → Option Replayed) (start : Value → Type 0) (limit : ℕ) where
  pub endings_answer : (paths : List Path) (endings : List Ending) → ArePaths run start limit paths → endings ≡ path_endings paths
      → AreEndings run start limit endings
  endings_answer paths endings are same =
      let all = told 0 paths are.alive in
      record { outcomes = all.outcomes; answers = are.told all.outcomes all.are; are = all.endings ∙ sym same }

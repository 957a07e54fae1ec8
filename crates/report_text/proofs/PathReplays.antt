-- Whatever outcome a path is told as, the run from the tree that it shows ends as it says.
use Rattle.std.proofs.Common.{◌≡◌, ℕ, suc, ◌+◌, List, [], ◌∷◌, Option, refl, subst, arith}
use Rattle.feature_trees.specs.declared.kind.Kind.TheVariants.{Dir}
use Rattle.feature_trees.specs.declared.value.Value.{Value}
use Rattle.feature_trees.specs.Tree.{kind_of}
use Rattle.case_paths.specs.Paths.{IsAt}
use Rattle.scenario_runs.specs.declared.replayed.Replayed.{Replayed}
use Rattle.scenario_outcomes.specs.OutcomeOf.{Path, ArePaths}
use Rattle.scenario_outcomes.proofs.OnePath.{one_stands}
use Rattle.report_text.specs.Telling.{PathReplays, PathsReplay}
use Rattle.outcome_report.proofs.Entries.{replays_at}

each_replays : (run : Value → Option Replayed) (place : ℕ) (paths : List Path)
    → ((at : ℕ) (path : Path) → IsAt paths at path → PathReplays run (place + at) path) → PathsReplay run place paths
each_replays run place [] each = tt
each_replays run place (path ∷ paths) each =
    let P : Path → ℕ → Type 0 = λ other n. PathReplays run n other in
    let here : place + 0 ≡ place = omega arith in
    let behind : (at : ℕ) → place + suc at ≡ suc place + at = λ at. omega arith in (
      subst (P path) here (each 0 path refl),
      each_replays run (suc place) paths (λ at other there. subst (P other) (behind at) (each (suc at) other there)),
    )

module _ (run : Value → Option Replayed) (start : Value → Type 0) (limit : ℕ)
    (dirs : (tree : Value) → start tree → kind_of tree ≡ Dir) where
  replays : (paths : List Path) → ArePaths run start limit paths → (place : ℕ) (path : Path) → IsAt paths place path
      → PathReplays run place path
  replays paths are place path there outcome is =
      let stands = one_stands run start limit paths are place path outcome there is in
      replays_at run start dirs stands.outcomes stands.exact place outcome stands.at

  pub paths_replay : (paths : List Path) → ArePaths run start limit paths → PathsReplay run 0 paths
  paths_replay paths are =
      each_replays run 0 paths
      (λ at path there. let e : at ≡ 0 + at = omega arith in subst (λ (n : ℕ). PathReplays run n path) e (replays paths are at path there))

-- A request is refused for one reason.
use Rattle.std.proofs.Common.{◌≡◌, ℕ, ◌<◌, List, [], ◌∷◌, ◌++◌, length, Option, Some, None, Result, Ok, Err, inl, inr, sym, ap, subst, ◌∙◌, arith}
use Rattle.script_names.specs.declared.mark.Mark.{Mark}
use Rattle.script_names.specs.Paths.{PathParts}
use Rattle.feature_trees.specs.declared.value.Value.{Value}
use Rattle.dpkg_scenarios.specs.declared.scenario.Scenario.{Scenario}
use Rattle.checker_input.specs.declared.faults.InputRefusal.{InputRefusal}
use Rattle.checker_input.specs.declared.package.Packages.{Packages}
use Rattle.checker_input.specs.declared.task.Task.{Task}
use Rattle.checker_input.specs.declared.task.Task.TheVariants as task
use Rattle.scenario_runs.specs.declared.replayed.Replayed.{Replayed}
use Rattle.package_jobs.specs.Written.{written_run}
use Rattle.package_jobs.specs.StartTrees.{IsStartTree}
use Rattle.scenario_outcomes.specs.Outcomes.{AreTraces, AreTooMany, SomeStarts}
use Rattle.checker_calls.specs.declared.faults.Refusal.{Refusal}
use Rattle.checker_calls.specs.declared.faults.Refusal.TheVariants.{NoStart, Limit, Kept}
use Rattle.checker_calls.specs.declared.faults.CallRefusal.TheVariants.{Input, Task as OfTask}
use Rattle.checker_calls.specs.Reports.{chosen, CanReport, CanReportAll, IsRefused, IsFirstRefused}
use Rattle.checker_calls.specs.declared.loads.TheConstants.{TURNS}
use Rattle.checker_calls.specs.Loads.{IsLoadRefusal}
use Rattle.checker_calls.specs.Pairs.{IsPairRefusal}
use Rattle.checker_calls.specs.Tasks.{IsTaskRefusal}
use Rattle.checker_calls.specs.Laws.{OneRefusal}
use Rattle.checker_calls.proofs.Loaded.{one_loaded}
use Rattle.checker_calls.proofs.Refused.{can_or_refused, no_path}
use Rattle.checker_calls.specs.declared.work.Work.{Work}
use Rattle.checker_calls.specs.declared.work.Work.TheVariants as works
use Rattle.checker_calls.specs.Works.{IsWorkRefusal}
use Rattle.checker_calls.proofs.Calls.{same_work, work_or_fault}
use Rattle.checker_calls.proofs.Works.{OneWork}

-- ---- a scenario

-- where there are more traces than a limit, there is a start tree
trace_start : (run : Value → Option Replayed) (start : Value → Type 0) (limit : ℕ) (traces : List (List Mark))
    → AreTraces run start traces → limit < length traces → SomeStarts start
trace_start run start limit [] are count = absurd (omega arith)
trace_start run start limit (trace ∷ traces) are count = (are.0.tree, are.0.is_start)

same_limit : {a b : Scenario} {m n : ℕ} → a ≡ b → m ≡ n → ◌≡◌ {A = Refusal} (Limit a m) (Limit b n)
same_limit e f = cc

module _ (packages : Packages) (turns limit : ℕ) where
  started : (scenario : Scenario)
      → AreTooMany (written_run scenario packages turns) (IsStartTree scenario packages) limit
      → SomeStarts (IsStartTree scenario packages)
  started scenario many =
      trace_start (written_run scenario packages turns) (IsStartTree scenario packages) limit many.traces many.are many.count

  refused_once : (scenario : Scenario) (one other : Refusal) → IsRefused packages turns limit scenario one
      → IsRefused packages turns limit scenario other → one ≡ other
  refused_once scenario (NoStart which) (NoStart that) x y = ap NoStart (x.0 ∙ sym y.0)
  refused_once scenario (NoStart which) (Limit that most) x y = absurd (x.1 (started scenario y.2))
  refused_once scenario (Limit which most) (NoStart that) x y = absurd (y.1 (started scenario x.2))
  refused_once scenario (Limit which most) (Limit that least) x y = same_limit (x.0 ∙ sym y.0) (x.1 ∙ sym y.1)
  refused_once scenario (Kept path) other x y = absurd x
  refused_once scenario (NoStart which) (Kept path) x y = absurd y
  refused_once scenario (Limit which most) (Kept path) x y = absurd y

  -- ---- the first of scenarios

  same_head : {a b : Scenario} {xs ys : List Scenario} → a ∷ xs ≡ b ∷ ys → a ≡ b
  same_head e = cc

  same_tail : {a b : Scenario} {xs ys : List Scenario} → a ∷ xs ≡ b ∷ ys → xs ≡ ys
  same_tail e = cc

  same_first : (before others : List Scenario) (one other : Scenario) (behind rest : List Scenario)
      → before ++ one ∷ behind ≡ others ++ other ∷ rest
      → CanReportAll packages turns limit before → CanReportAll packages turns limit others
      → (CanReport packages turns limit one → ⊥) → (CanReport packages turns limit other → ⊥) → one ≡ other
  same_first [] [] one other behind rest e can could one_not other_not = same_head e
  same_first [] (b ∷ others) one other behind rest e can could one_not other_not =
      absurd (one_not (subst (CanReport packages turns limit) (sym (same_head e)) could.0))
  same_first (a ∷ before) [] one other behind rest e can could one_not other_not =
      absurd (other_not (subst (CanReport packages turns limit) (same_head e) can.0))
  same_first (a ∷ before) (b ∷ others) one other behind rest e can could one_not other_not =
      same_first before others one other behind rest (same_tail e) can.1 could.1 one_not other_not

  pub first_once : (scenarios : List Scenario) (one other : Refusal) → IsFirstRefused packages turns limit scenarios one
      → IsFirstRefused packages turns limit scenarios other → one ≡ other
  first_once scenarios one other x y =
      let same = same_first x.before y.before x.scenario y.scenario x.behind y.behind (sym x.are ∙ y.are) x.earlier y.earlier
      (λ can. can_or_refused packages turns limit x.scenario one can x.refused)
      (λ can. can_or_refused packages turns limit y.scenario other can y.refused) in
      refused_once y.scenario one other (subst (λ (s : Scenario). IsRefused packages turns limit s one) same x.refused) y.refused

-- ---- a pair

same_path : {a b : PathParts} → ◌≡◌ {A = Option PathParts} (Some a) (Some b) → a ≡ b
same_path e = cc

module _ (packages : Packages) (turns limit : ℕ) (scenario : Scenario) where
  pair_refused_once : (one other : Refusal) → IsPairRefusal packages turns limit scenario one
      → IsPairRefusal packages turns limit scenario other → one ≡ other
  pair_refused_once (Kept a) (Kept b) x y = ap Kept (same_path (sym x ∙ y))
  pair_refused_once (Kept a) (NoStart that) x y = absurd (no_path (sym y.0 ∙ x))
  pair_refused_once (Kept a) (Limit that least) x y = absurd (no_path (sym y.0 ∙ x))
  pair_refused_once (NoStart which) (Kept b) x y = absurd (no_path (sym x.0 ∙ y))
  pair_refused_once (Limit which most) (Kept b) x y = absurd (no_path (sym x.0 ∙ y))
  pair_refused_once (NoStart which) (NoStart that) x y = first_once packages turns limit (scenario ∷ []) _ _ x.1 y.1
  pair_refused_once (NoStart which) (Limit that least) x y = first_once packages turns limit (scenario ∷ []) _ _ x.1 y.1
  pair_refused_once (Limit which most) (NoStart that) x y = first_once packages turns limit (scenario ∷ []) _ _ x.1 y.1
  pair_refused_once (Limit which most) (Limit that least) x y = first_once packages turns limit (scenario ∷ []) _ _ x.1 y.1

-- ---- a request

load_refused_once : (number limit : ℕ) (one other : Refusal) → IsLoadRefusal number limit one → IsLoadRefusal number limit other
    → one ≡ other
load_refused_once number limit one other x y =
    let same = one_loaded number x.packages y.packages x.loaded y.loaded in
    first_once y.packages TURNS limit (chosen None) one other
    (subst (λ (p : Packages). IsFirstRefused p TURNS limit (chosen None) one) same x.refused) y.refused

task_refused_once : (asked : Task) (one other : Refusal) → IsTaskRefusal asked one → IsTaskRefusal asked other → one ≡ other
task_refused_once (task.Check packages scenario turns limit layout) one other x y =
    first_once packages turns limit (chosen scenario) one other x y
task_refused_once (task.Run packages tree scenario turns) one other x y = absurd x
task_refused_once (task.Translate script) one other x y = absurd x
task_refused_once (task.Load number limit) one other x y = load_refused_once number limit one other x y
task_refused_once (task.Explain packages sources scenario turns limit view) one other x y = absurd x
task_refused_once (task.Pair packages scenario turns limit) one other x y =
    pair_refused_once packages turns limit scenario one other x y

work_refused_once : (what : Work) (one other : Refusal) → IsWorkRefusal what one → IsWorkRefusal what other → one ≡ other
work_refused_once (works.Task asked) one other x y = task_refused_once asked one other x y
work_refused_once (works.Predict prediction) one other x y = absurd x

same_fault : {a b : InputRefusal} → ◌≡◌ {A = Result Work InputRefusal} (Err a) (Err b) → a ≡ b
same_fault e = cc

pub one_refusal : OneWork → OneRefusal
one_refusal once request files one other (inl x) (inl y) =
    let same = same_fault (once request files (Err x.0) (Err y.0) x.2 y.2) in
    x.1 ∙ ap Input same ∙ sym y.1
one_refusal once request files one other (inl x) (inr y) =
    absurd (work_or_fault (once request files (Ok y.0) (Err x.0) y.3 x.2))
one_refusal once request files one other (inr x) (inl y) =
    absurd (work_or_fault (once request files (Ok x.0) (Err y.0) x.3 y.2))
one_refusal once request files one other (inr x) (inr y) =
    let same = same_work (once request files (Ok x.0) (Ok y.0) x.3 y.3) in
    x.2 ∙ ap OfTask (work_refused_once y.0 x.1 y.1 (subst (λ (w : Work). IsWorkRefusal w x.1) same x.4) y.4) ∙ sym y.2

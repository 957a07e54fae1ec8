-- What is reported is not refused.
use Rattle.std.proofs.Common.{◌≡◌, ℕ, ◌≤◌, List, [], ◌∷◌, ◌++◌, Option, Some, None, sym, subst, ◌∙◌, arith}
use Rattle.script_names.specs.Paths.{PathParts}
use Rattle.dpkg_scenarios.specs.declared.scenario.Scenario.{Scenario}
use Rattle.checker_input.specs.declared.package.Packages.{Packages}
use Rattle.checker_input.specs.declared.task.Task.{Task}
use Rattle.checker_input.specs.declared.task.Task.TheVariants as task
use Rattle.outcome_report.specs.declared.outcome_report.ReportPart.{ReportPart}
use Rattle.checker_calls.specs.declared.faults.Refusal.{Refusal}
use Rattle.checker_calls.specs.declared.faults.Refusal.TheVariants.{NoStart, Limit, Kept}
use Rattle.checker_calls.specs.Reports.{chosen, CanReport, CanReportAll, IsRefused, AreParts, IsFirstRefused}
use Rattle.checker_calls.specs.Loads.{IsLoadOf, IsLoadRefusal, CanLoad}
use Rattle.checker_calls.specs.Pairs.{IsPairOf, IsPairRefusal, CanPair}
use Rattle.checker_calls.specs.declared.loads.TheConstants.{TURNS}
use Rattle.checker_calls.specs.Tasks.{IsTextOf, IsTaskRefusal, CanComplete, MayEnd}
use Rattle.checker_calls.proofs.Loaded.{one_loaded}

module _ (packages : Packages) (turns limit : ℕ) where
  -- a scenario that can be reported is not refused
  pub can_or_refused : (scenario : Scenario) (refusal : Refusal) → CanReport packages turns limit scenario
      → IsRefused packages turns limit scenario refusal → ⊥
  can_or_refused scenario (NoStart which) can against = against.1 can.starts
  can_or_refused scenario (Limit which most) can against =
      let many = against.2 in let few = can.few many.traces many.are many.differ in let more = many.count in omega arith
  can_or_refused scenario (Kept path) can against = against

  can_at : (before : List Scenario) (scenario : Scenario) (behind : List Scenario)
      → CanReportAll packages turns limit (before ++ scenario ∷ behind) → CanReport packages turns limit scenario
  can_at [] scenario behind can = can.0
  can_at (first ∷ before) scenario behind can = can_at before scenario behind can.1

  -- of scenarios that can be reported none is the first that is refused
  pub none_refused : (scenarios : List Scenario) (refusal : Refusal) → CanReportAll packages turns limit scenarios
      → IsFirstRefused packages turns limit scenarios refusal → ⊥
  none_refused scenarios refusal can against =
      can_or_refused against.scenario refusal (can_at against.before against.scenario against.behind (subst (CanReportAll packages turns limit) against.are can)) against.refused

  -- what has its part can be reported
  pub parts_can : (scenarios : List Scenario) (parts : List ReportPart) → AreParts packages turns limit scenarios parts
      → CanReportAll packages turns limit scenarios
  parts_can [] [] are = tt
  parts_can [] (part ∷ parts) are = absurd are
  parts_can (scenario ∷ scenarios) [] are = absurd are
  parts_can (scenario ∷ scenarios) (part ∷ parts) are = (are.0.bounded, parts_can scenarios parts are.1)

pub no_path : {path : PathParts} → ◌≡◌ {A = Option PathParts} None (Some path) → ⊥
no_path e = cc

-- a load whose summary was written is not refused
load_or_refusal : (number limit : ℕ) (text : List ℕ) (status : ℕ) (refusal : Refusal) → IsLoadOf number limit text status
    → IsLoadRefusal number limit refusal → ⊥
load_or_refusal number limit text status refusal is against =
    let same = one_loaded number is.packages against.packages is.loaded against.loaded in
    let can = parts_can is.packages TURNS limit (chosen None) is.report.parts is.parts in
    none_refused against.packages TURNS limit (chosen None) refusal
    (subst (λ (p : Packages). CanReportAll p TURNS limit (chosen None)) same can) against.refused

-- nor is one that can be completed
load_refusal_or_complete : (number limit : ℕ) (refusal : Refusal) → IsLoadRefusal number limit refusal → CanLoad number limit → ⊥
load_refusal_or_complete number limit refusal against can =
    none_refused against.packages TURNS limit (chosen None) refusal (can against.packages against.loaded) against.refused

-- a pair whose text was written is not refused
pair_or_refusal : (packages : Packages) (turns limit : ℕ) (scenario : Scenario) (text : List ℕ) (status : ℕ) (refusal : Refusal)
    → IsPairOf packages turns limit scenario text status → IsPairRefusal packages turns limit scenario refusal → ⊥
pair_or_refusal packages turns limit scenario text status (Kept path) is against = no_path (sym is.nothing_kept ∙ against)
pair_or_refusal packages turns limit scenario text status (NoStart which) is against =
    none_refused packages turns limit (scenario ∷ []) (NoStart which) (parts_can packages turns limit (scenario ∷ []) is.report.parts is.parts) against.1
pair_or_refusal packages turns limit scenario text status (Limit which most) is against =
    none_refused packages turns limit (scenario ∷ []) (Limit which most) (parts_can packages turns limit (scenario ∷ []) is.report.parts is.parts) against.1

-- nor is one that can be completed
pair_refusal_or_complete : (packages : Packages) (turns limit : ℕ) (scenario : Scenario) (refusal : Refusal)
    → IsPairRefusal packages turns limit scenario refusal → CanPair packages turns limit scenario → ⊥
pair_refusal_or_complete packages turns limit scenario (Kept path) against can = no_path (sym can.0 ∙ against)
pair_refusal_or_complete packages turns limit scenario (NoStart which) against can =
    none_refused packages turns limit (scenario ∷ []) (NoStart which) can.1 against.1
pair_refusal_or_complete packages turns limit scenario (Limit which most) against can =
    none_refused packages turns limit (scenario ∷ []) (Limit which most) can.1 against.1

-- a task whose text was written is not refused
pub text_or_refusal : (asked : Task) (text : List ℕ) (status : ℕ) (refusal : Refusal)
    → IsTextOf asked text status → IsTaskRefusal asked refusal → ⊥
text_or_refusal (task.Check packages scenario turns limit layout) text status refusal is against =
    none_refused packages turns limit (chosen scenario) refusal (parts_can packages turns limit (chosen scenario) is.report.parts is.parts) against
text_or_refusal (task.Run packages tree scenario turns) text status refusal is against = against
text_or_refusal (task.Translate script) text status refusal is against = against
text_or_refusal (task.Load number limit) text status refusal is against = load_or_refusal number limit text status refusal is against
text_or_refusal (task.Explain packages sources scenario turns limit view) text status refusal is against = against
text_or_refusal (task.Pair packages scenario turns limit) text status refusal is against =
    pair_or_refusal packages turns limit scenario text status refusal is against

-- nor is one that can be completed
pub refusal_or_complete : (asked : Task) (refusal : Refusal) → IsTaskRefusal asked refusal → CanComplete asked → ⊥
refusal_or_complete (task.Check packages scenario turns limit layout) refusal against can =
    none_refused packages turns limit (chosen scenario) refusal can against
refusal_or_complete (task.Run packages tree scenario turns) refusal against can = against
refusal_or_complete (task.Translate script) refusal against can = against
refusal_or_complete (task.Load number limit) refusal against can = load_refusal_or_complete number limit refusal against can
refusal_or_complete (task.Explain packages sources scenario turns limit view) refusal against can = against
refusal_or_complete (task.Pair packages scenario turns limit) refusal against can =
    pair_refusal_or_complete packages turns limit scenario refusal against can

pub text_small : (asked : Task) (text : List ℕ) (status : ℕ) → IsTextOf asked text status → status ≤ 2
text_small (task.Check packages scenario turns limit layout) text status is = is.small
text_small (task.Run packages tree scenario turns) text status is = is.small
text_small (task.Translate script) text status is = let none = is.status_is in omega arith
text_small (task.Load number limit) text status is = is.small
text_small (task.Explain packages sources scenario turns limit view) text status is = is.small
text_small (task.Pair packages scenario turns limit) text status is = is.small

-- the status of a task's text is one with which the task may end
pub text_ends : (asked : Task) (text : List ℕ) (status : ℕ) → IsTextOf asked text status → MayEnd asked status
text_ends (task.Check packages scenario turns limit layout) text status is = is.small
text_ends (task.Run packages tree scenario turns) text status is = is.small
text_ends (task.Translate script) text status is = is.status_is
text_ends (task.Load number limit) text status is = is.small
text_ends (task.Explain packages sources scenario turns limit view) text status is = is.small
text_ends (task.Pair packages scenario turns limit) text status is = is.small

-- What a task comes to: a text with a status, or a refusal.
use Rattle.std.specs.Prelude.{◌≡◌, ℕ, ◌≤◌, List, Some, IsTrue, Result, Ok, Err}
use Rattle.dpkg_scenarios.specs.declared.scenario.Scenario.{Scenario}
use Rattle.checker_input.specs.declared.package.Packages.{Packages}
use Rattle.checker_input.specs.declared.task.Task.{Task}
use Rattle.checker_input.specs.declared.task.Task.TheVariants as task
use Rattle.feature_trees.specs.declared.value.Value.{Value}
use Rattle.shell_syntax.specs.declared.script.Script.{Script}
use Rattle.colis_syntax.specs.ProgramText.{program_text}
use Rattle.colis_syntax.specs.WellFormed.{ProgramParts, is_well_formed}
use Rattle.shell_to_colis.specs.Laws.{DoesTheSame}
use Rattle.shell_to_colis.specs.Translated.{program_of}
use Rattle.scenario_runs.specs.declared.replayed.Replayed.{Replayed}
use Rattle.package_jobs.specs.Written.{written_run}
use Rattle.dpkg_scenarios.specs.Verdicts.{ending_verdict}
use Rattle.report_text.specs.RunText.{run_text}
use Rattle.checker_calls.specs.declared.faults.Refusal.{Refusal}
use Rattle.checker_calls.specs.declared.faults.TaskFault.{TaskFault}
use Rattle.checker_calls.specs.declared.faults.TaskFault.TheVariants.{Refused, Memory}
use Rattle.checker_calls.specs.declared.written.Written.{Written}
use Rattle.checker_calls.specs.Reports.{chosen, CanReportAll, IsFirstRefused, IsReportOf}
use Rattle.checker_calls.specs.Explanations.{IsExplanationOf}
use Rattle.checker_calls.specs.Loads.{IsLoadOf, IsLoadRefusal, CanLoad}
use Rattle.checker_calls.specs.Pairs.{IsPairOf, IsPairRefusal, CanPair}

-- the text is that of the scenario's run from the tree, and the status says how it ended: 0 done, 1 failed, 2
-- incomplete or bound
pub record IsRunOf (packages : Packages) (tree : Value) (scenario : Scenario) (turns : ℕ)
    (text : List ℕ) (status : ℕ) : Type 0 where
  pub run : Replayed
  pub is_run : written_run scenario packages turns tree ≡ Some run
  pub text_is : text ≡ run_text run
  pub status_is : status ≡ ending_verdict run.ending
  pub small : status ≤ 2

-- the text is that of the script's program, which does what the script does and has the strict flag exactly where the
-- script's first line has it; the status is 0
pub record IsProgramOf (script : Script) (text : List ℕ) (status : ℕ) : Type 0 where
  pub program : ProgramParts
  pub program_is : program ≡ program_of script
  pub same : DoesTheSame script program
  pub flag : program.strict ≡ script.strict
  pub well_formed : IsTrue (is_well_formed program.defs program.body)
  pub text_is : text ≡ program_text program
  pub status_is : status ≡ 0

-- ---- a task

-- the text of a task, and the status that goes with it
abbrev pub IsTextOf : Task → List ℕ → ℕ → Type 0
IsTextOf (task.Check packages scenario turns limit layout) text status =
    IsReportOf packages turns limit (chosen scenario) layout text status
IsTextOf (task.Run packages tree scenario turns) text status = IsRunOf packages tree scenario turns text status
IsTextOf (task.Translate script) text status = IsProgramOf script text status
IsTextOf (task.Load number limit) text status = IsLoadOf number limit text status
IsTextOf (task.Explain packages sources scenario turns limit view) text status =
    IsExplanationOf packages sources turns view limit (chosen scenario) text status
IsTextOf (task.Pair packages scenario turns limit) text status = IsPairOf packages turns limit scenario text status

-- A task is refused so: of the scenarios to be reported, the first that cannot be is refused so, of a load as of a
-- check; of a pair a file is kept, or else its scenario is refused so. A run, a program and an explanation are never
-- refused.
abbrev pub IsTaskRefusal : Task → Refusal → Type 0
IsTaskRefusal (task.Check packages scenario turns limit layout) refusal =
    IsFirstRefused packages turns limit (chosen scenario) refusal
IsTaskRefusal (task.Run packages tree scenario turns) refusal = ⊥
IsTaskRefusal (task.Translate script) refusal = ⊥
IsTaskRefusal (task.Load number limit) refusal = IsLoadRefusal number limit refusal
IsTaskRefusal (task.Explain packages sources scenario turns limit view) refusal = ⊥
IsTaskRefusal (task.Pair packages scenario turns limit) refusal = IsPairRefusal packages turns limit scenario refusal

-- a task is not refused: each scenario to be reported can be
abbrev pub CanComplete : Task → Type 0
CanComplete (task.Check packages scenario turns limit layout) =
    CanReportAll packages turns limit (chosen scenario)
CanComplete (task.Run packages tree scenario turns) = Unit {0}
CanComplete (task.Translate script) = Unit {0}
CanComplete (task.Load number limit) = CanLoad number limit
CanComplete (task.Explain packages sources scenario turns limit view) = Unit {0}
CanComplete (task.Pair packages scenario turns limit) = CanPair packages turns limit scenario

-- a status with which the text of a task is written
abbrev pub MayEnd : Task → ℕ → Type 0
MayEnd (task.Check packages scenario turns limit layout) status = status ≤ 2
MayEnd (task.Run packages tree scenario turns) status = status ≤ 2
MayEnd (task.Translate script) status = status ≡ 0
MayEnd (task.Load number limit) status = status ≤ 2
MayEnd (task.Explain packages sources scenario turns limit view) status = status ≤ 2
MayEnd (task.Pair packages scenario turns limit) status = status ≤ 2

-- ---- what the code answers

-- the text of a task, or its refusal, or want of memory
abbrev pub TaskGives : Task → Result Written TaskFault → Type 0
TaskGives asked (Ok written) = IsTextOf asked written.text written.status
TaskGives asked (Err (Refused refusal)) = IsTaskRefusal asked refusal
TaskGives asked (Err Memory) = Unit {0}

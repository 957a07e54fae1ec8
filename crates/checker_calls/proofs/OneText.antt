-- The status and the brief text of a check follow from what is checked; so does what a call is answered with.
use Rattle.std.proofs.Common.{◌≡◌, ℕ, List, [], ◌∷◌, map, None, Some, Result, Ok, refl, sym, ap, subst, ◌∙◌}
use Rattle.script_names.specs.declared.mark.Mark.{Mark}
use Rattle.feature_trees.specs.declared.value.Value.{Value}
use Rattle.shell_syntax.specs.declared.script.Script.{Script}
use Rattle.colis_syntax.specs.ProgramText.{program_text}
use Rattle.dpkg_scenarios.specs.declared.scenario.Scenario.{Scenario}
use Rattle.dpkg_scenarios.specs.declared.scenario.Ending.{Ending}
use Rattle.checker_io.specs.Reading.{MayAnswer, and_then, done}
use Rattle.checker_io.specs.Shelf.{Files}
use Rattle.command_words.specs.declared.request.Layout.TheVariants.{Plain, Brief, Json}
use Rattle.command_words.specs.declared.request.Request.{Request}
use Rattle.command_words.specs.declared.request.Request.TheVariants as words
use Rattle.checker_input.specs.declared.package.Packages.{Packages}
use Rattle.checker_input.specs.declared.asked.Asked.{Asked}
use Rattle.checker_input.specs.declared.asked.Asked.TheVariants as wanted
use Rattle.checker_input.specs.declared.faults.InputRefusal.{InputRefusal}
use Rattle.checker_input.specs.declared.task.Task.{Task}
use Rattle.checker_input.specs.declared.task.Task.TheVariants as read
use Rattle.checker_input.specs.Input.{input, packages_in, start_in, translated_in}
use Rattle.prediction_input.specs.PredictionInput.{predict_in}
use Rattle.scenario_runs.specs.declared.replayed.Replayed.{Replayed}
use Rattle.package_jobs.specs.Written.{written_run}
use Rattle.package_jobs.specs.StartTrees.{IsStartTree}
use Rattle.outcome_report.specs.declared.outcome_report.ReportEntry.{ReportEntry}
use Rattle.outcome_report.specs.declared.outcome_report.ReportPart.{ReportPart}
use Rattle.outcome_report.specs.declared.outcome_report.Report.{Report}
use Rattle.outcome_report.specs.Laws.{ending_and_trace, scenario_and_endings}
use Rattle.report_text.specs.TextLaws.{EndingsTellBriefTexts}
use Rattle.outcome_report.specs.OutcomeReport.{verdict_of}
use Rattle.dpkg_scenarios.specs.Verdicts.{ending_verdict}
use Rattle.report_text.specs.RunText.{run_text}
use Rattle.report_text.proofs.Briefs.{verdict_told, verdict_is}
use Rattle.outcome_report.proofs.EndAlike.{parts_end_alike}
use Rattle.outcome_report.proofs.Entries.{same_run}
use Rattle.load_summary.specs.declared.endings.ScenarioEndings.{ScenarioEndings}
use Rattle.load_summary.specs.Endings.{ending_of, endings_of}
use Rattle.load_summary.specs.Summary.{lines_text}
use Rattle.checker_calls.specs.declared.loads.TheConstants.{TURNS}
use Rattle.checker_calls.specs.Reports.{chosen, AreParts}
use Rattle.checker_calls.specs.Loads.{IsLoadOf}
use Rattle.checker_calls.specs.declared.work.Work.{Work}
use Rattle.checker_calls.specs.declared.work.Work.TheVariants as works
use Rattle.checker_calls.specs.Tasks.{IsRunOf, IsProgramOf, IsTextOf}
use Rattle.checker_calls.specs.Works.{work_of, work_in, IsTextOfWork}
use Rattle.checker_calls.specs.Top.{FilesGive, IsAnswerText}
use Rattle.checker_calls.specs.Laws.{OneReportStatus, OneBriefText, OneStatus, ShowsNoOutcome, OneText}
use Rattle.checker_calls.proofs.Calls.{same_request, same_work}
use Rattle.checker_calls.proofs.Explained.{sections_same}
use Rattle.checker_calls.proofs.OneReport.{alike, verdicts_alike}
use Rattle.checker_calls.proofs.InRange.{may_then}
use Rattle.checker_calls.proofs.Loaded.{one_loaded}
use Rattle.checker_calls.proofs.OnePrediction.{one_prediction_text}
use Rattle.checker_calls.proofs.WholeReports.{whole_parts}
use Rattle.checker_calls.proofs.Works.{OneWork, of_prediction}

-- a scenario, and how its outcomes end
abbrev Told : Type 0
Told = Scenario × List (Ending × List Mark)

-- ---- reports

pub one_report_status : OneReportStatus
one_report_status packages turns limit most scenarios layout peer text other status other_status a b =
    a.status_is ∙ verdicts_alike packages turns limit most scenarios a.report b.report a.parts b.parts ∙ sym b.status_is

pub one_brief_text : EndingsTellBriefTexts → OneBriefText
one_brief_text tell packages turns limit most scenarios text other status other_status a b =
    a.text_is
    ∙ tell a.report b.report (whole_parts packages turns limit scenarios a.report.parts a.parts).1
    (whole_parts packages turns most scenarios b.report.parts b.parts).1
    (alike packages turns limit most scenarios a.report b.report a.parts b.parts)
    ∙ sym b.text_is

-- ---- loads

-- the endings alone
abbrev endings_told : Told → ScenarioEndings
endings_told told = record { scenario = told.0; endings = map (λ (t : Ending × List Mark). t.0) told.1 }

endings_kept : (entries : List ReportEntry)
    → map ending_of entries ≡ map (λ (t : Ending × List Mark). t.0) (map ending_and_trace entries)
endings_kept [] = refl
endings_kept (entry ∷ entries) = ap (λ (es : List Ending). entry.outcome.ending ∷ es) (endings_kept entries)

parts_kept : (parts : List ReportPart) → map endings_of parts ≡ map endings_told (map scenario_and_endings parts)
parts_kept [] = refl
parts_kept (part ∷ parts) =
    let first = endings_kept part.entries in
    let rest = parts_kept parts in
    λ i. (let made : ScenarioEndings = record { scenario = part.scenario; endings = first i } in made) ∷ rest i

module _ (number limit : ℕ) (text other : List ℕ) (status other_status : ℕ) (a : IsLoadOf number limit text status)
    (b : IsLoadOf number limit other other_status) where
  -- the second report is one on the packages of the first
  moved : AreParts a.packages TURNS limit (chosen None) b.report.parts
  moved =
      subst (λ (p : Packages). AreParts p TURNS limit (chosen None) b.report.parts)
      (one_loaded number b.packages a.packages b.loaded a.loaded) b.parts

  loads_alike : map scenario_and_endings a.report.parts ≡ map scenario_and_endings b.report.parts
  loads_alike = alike a.packages TURNS limit limit (chosen None) a.report b.report a.parts moved

  load_verdicts : verdict_of a.report ≡ verdict_of b.report
  load_verdicts = verdicts_alike a.packages TURNS limit limit (chosen None) a.report b.report a.parts moved

  load_status : status ≡ other_status
  load_status = a.status_is ∙ load_verdicts ∙ sym b.status_is

  load_text : text ≡ other
  load_text =
      let endings = parts_kept a.report.parts ∙ ap (map endings_told) loads_alike ∙ sym (parts_kept b.report.parts) in
      a.text_is ∙ (λ i. lines_text number (endings i) (load_verdicts i)) ∙ sym b.text_is

-- ---- runs and programs

module _ (packages : Packages) (tree : Value) (scenario : Scenario) (turns : ℕ) (text other : List ℕ)
    (status other_status : ℕ) (a : IsRunOf packages tree scenario turns text status)
    (b : IsRunOf packages tree scenario turns other other_status) where
  runs_same : a.run ≡ b.run
  runs_same = same_run (written_run scenario packages turns tree) a.run b.run a.is_run b.is_run

  run_status : status ≡ other_status
  run_status = a.status_is ∙ ap (λ (run : Replayed). ending_verdict run.ending) runs_same ∙ sym b.status_is

  run_same_text : text ≡ other
  run_same_text = a.text_is ∙ ap run_text runs_same ∙ sym b.text_is

program_same_text : (script : Script) (text other : List ℕ) (status other_status : ℕ) → IsProgramOf script text status
    → IsProgramOf script other other_status → text ≡ other
program_same_text script text other status other_status a b =
    a.text_is ∙ ap program_text (a.program_is ∙ sym b.program_is) ∙ sym b.text_is

-- ---- a task

task_status : (asked : Task) (text other : List ℕ) (status other_status : ℕ)
    → IsTextOf asked text status → IsTextOf asked other other_status → status ≡ other_status
task_status (read.Check packages scenario turns limit layout) text other status other_status a b =
    one_report_status packages turns limit limit (chosen scenario) layout layout text other status other_status a b
task_status (read.Run packages tree scenario turns) text other status other_status a b =
    run_status packages tree scenario turns text other status other_status a b
task_status (read.Translate script) text other status other_status a b = a.status_is ∙ sym b.status_is
task_status (read.Load number limit) text other status other_status a b =
    load_status number limit text other status other_status a b
task_status (read.Explain packages sources scenario turns limit view) text other status other_status a b =
    a.status_is ∙ sections_same packages sources turns view limit (chosen scenario) a.sections b.sections a.are b.are ∙ sym b.status_is
task_status (read.Pair packages scenario turns limit) text other status other_status a b =
    a.status_is ∙ verdicts_alike packages turns limit limit (scenario ∷ []) a.report b.report a.parts b.parts ∙ sym b.status_is

-- the text of the task shows no clause and no start tree of an outcome
abbrev ShowsNone : Task → Type 0
ShowsNone (read.Check packages scenario turns limit Plain) = ⊥
ShowsNone (read.Check packages scenario turns limit Brief) = Unit {0}
ShowsNone (read.Check packages scenario turns limit Json) = ⊥
ShowsNone (read.Run packages tree scenario turns) = Unit {0}
ShowsNone (read.Translate script) = Unit {0}
ShowsNone (read.Load number limit) = Unit {0}
ShowsNone (read.Explain packages sources scenario turns limit view) = ⊥
ShowsNone (read.Pair packages scenario turns limit) = ⊥

-- so does that of what is asked for
abbrev AskedShowsNone : Asked → Type 0
AskedShowsNone (wanted.Task task) = ShowsNone task
AskedShowsNone (wanted.Prediction report trees) = Unit {0}

same_asked : {a b : Asked} → ◌≡◌ {A = Result Asked InputRefusal} (Ok a) (Ok b) → a ≡ b
same_asked e = cc

-- so it is where its request says so
asked_shows : (request : Request) (what : Asked) → ShowsNoOutcome request → MayAnswer (Ok what) (input request) → AskedShowsNone what
unfolding input
asked_shows (words.Check folders scenario turns limit Plain) what shows may = absurd shows
asked_shows (words.Check folders scenario turns limit Json) what shows may = absurd shows
asked_shows (words.Check folders scenario turns limit Brief) what shows may =
    let packages = may_then (packages_in folders) (λ packages. done (Ok (wanted.Task (read.Check packages scenario turns limit Brief)))) what may in
    subst AskedShowsNone (same_asked packages.1) tt
asked_shows (words.Run folders file scenario turns) what shows may =
    let packages = may_then (packages_in folders) (λ packages. and_then (start_in file) (λ start. done (Ok (wanted.Task (read.Run packages start scenario turns))))) what may in
    let start = may_then (start_in file) (λ start. done (Ok (wanted.Task (read.Run packages.0 start scenario turns)))) what packages.1 in
    subst AskedShowsNone (same_asked start.1) tt
asked_shows (words.Translate file) what shows may =
    let script = may_then (translated_in file) (λ script. done (Ok (wanted.Task (read.Translate script)))) what may in
    subst AskedShowsNone (same_asked script.1) tt
asked_shows (words.Load number limit) what shows may = subst AskedShowsNone (same_asked may) tt
asked_shows (words.Pair dir other base scenario turns limit) what shows may = absurd shows
asked_shows (words.Twice dir base turns limit) what shows may = absurd shows
asked_shows (words.Explain folders scenario turns limit view) what shows may = absurd shows
asked_shows (words.Predict report trees) what shows may = subst AskedShowsNone (same_asked may) tt

-- the text of the work shows no clause and no start tree of an outcome
abbrev WorkShowsNone : Work → Type 0
WorkShowsNone (works.Task task) = ShowsNone task
WorkShowsNone (works.Predict prediction) = Unit {0}

shows_by : (what : Asked) (done_then : Work) → AskedShowsNone what → MayAnswer (Ok done_then) (work_of what) → WorkShowsNone done_then
shows_by (wanted.Task task) done_then shows may = subst WorkShowsNone (same_work may) shows
shows_by (wanted.Prediction report trees) done_then shows may =
    let prediction = may_then (predict_in report trees) of_prediction done_then may in
    subst WorkShowsNone (same_work prediction.1) tt

shows_none : (request : Request) (done_then : Work) → ShowsNoOutcome request → MayAnswer (Ok done_then) (work_in request)
    → WorkShowsNone done_then
unfolding work_in
shows_none request done_then shows may =
    let further = may_then (input request) work_of done_then may in
    shows_by further.0 done_then (asked_shows request further.0 shows further.2) further.1

task_text : OneBriefText → (asked : Task) (text other : List ℕ) (status other_status : ℕ)
    → ShowsNone asked → IsTextOf asked text status → IsTextOf asked other other_status → text ≡ other
task_text once (read.Check packages scenario turns limit Plain) text other status other_status shows a b = absurd shows
task_text once (read.Check packages scenario turns limit Json) text other status other_status shows a b = absurd shows
task_text once (read.Check packages scenario turns limit Brief) text other status other_status shows a b =
    once packages turns limit limit (chosen scenario) text other status other_status a b
task_text once (read.Run packages tree scenario turns) text other status other_status shows a b =
    run_same_text packages tree scenario turns text other status other_status a b
task_text once (read.Translate script) text other status other_status shows a b =
    program_same_text script text other status other_status a b
task_text once (read.Load number limit) text other status other_status shows a b =
    load_text number limit text other status other_status a b
task_text once (read.Pair packages scenario turns limit) text other status other_status shows a b = absurd shows
task_text once (read.Explain packages sources scenario turns limit view) text other status other_status shows a b = absurd shows

-- ---- work

work_status : (what : Work) (text other : List ℕ) (status other_status : ℕ)
    → IsTextOfWork what text status → IsTextOfWork what other other_status → status ≡ other_status
work_status (works.Task task) text other status other_status a b = task_status task text other status other_status a b
work_status (works.Predict prediction) text other status other_status a b = a.status_is ∙ sym b.status_is

work_text : OneBriefText → (what : Work) (text other : List ℕ) (status other_status : ℕ)
    → WorkShowsNone what → IsTextOfWork what text status → IsTextOfWork what other other_status → text ≡ other
work_text once (works.Task task) text other status other_status shows a b =
    task_text once task text other status other_status shows a b
work_text once (works.Predict prediction) text other status other_status shows a b =
    one_prediction_text prediction.report prediction.trees text other a.is_text b.is_text

-- ---- a call

-- two answers are of one work of one request
record OfOneWork (given : Result Request ℕ) (text other : List ℕ) (status other_status : ℕ) : Type 0 where
  request : Request
  spelled : given ≡ Ok request
  work : Work
  comes : MayAnswer (Ok work) (work_in request)
  first : IsTextOfWork work text status
  second : IsTextOfWork work other other_status

of_one_work : OneWork → (given : Result Request ℕ) (files : Files) (text other : List ℕ) (status other_status : ℕ)
    → IsAnswerText given (Some files) text status → IsAnswerText given (Some files) other other_status
    → OfOneWork given text other status other_status
of_one_work once given files text other status other_status a b =
    let moved : FilesGive a.request (Some files) (Ok b.work) =
    subst (λ (r : Request). FilesGive r (Some files) (Ok b.work)) (same_request (sym b.spelled ∙ a.spelled)) b.read in
    let same = same_work (once a.request files (Ok b.work) (Ok a.work) moved.told a.read.told) in
    record {
      request = a.request;
      spelled = a.spelled;
      work = a.work;
      comes = a.read.may;
      first = a.of_work;
      second = subst (λ (w : Work). IsTextOfWork w other other_status) same b.of_work;
    }

pub one_status : OneWork → OneStatus
one_status once given files text other status other_status a b =
    let both = of_one_work once given files text other status other_status a b in
    work_status both.work text other status other_status both.first both.second

pub one_text : OneWork → EndingsTellBriefTexts → OneText
one_text once tell request files text other status other_status shows a b =
    let both = of_one_work once (Ok request) files text other status other_status a b in
    work_text (one_brief_text tell) both.work text other status other_status
    (shows_none both.request both.work (subst ShowsNoOutcome (same_request both.spelled) shows) both.comes) both.first both.second

-- The run of a scenario from a tree: steps, one after another, each a script that is called, or files that are placed,
-- taken away or put back (Debian Policy, chapter 6).
use Rattle.std.specs.Prelude.{ℕ, zero, suc, ◌+◌, Bool, true, false, List, [], ◌∷◌, ◌++◌, length, map, reverse, take}
use Rattle.std.specs.Prelude.{codes, Option, Some, None, if◌then◌else◌}
use Rattle.std.specs.Option.{option_map}
use Rattle.std.specs.FinMap as env
use Rattle.script_names.specs.declared.mark.Mark.{Mark}
use Rattle.script_names.specs.declared.mark.Site.{Site}
use Rattle.script_names.specs.declared.reason.Done.{Done}
use Rattle.script_names.specs.declared.reason.Done.TheVariants as done
use Rattle.feature_trees.specs.declared.value.Value.{Value}
use Rattle.utility_calls.specs.declared.acts.Act.{Act}
use Rattle.utility_calls.specs.declared.backs.Back.{Back}
use Rattle.utility_calls.specs.declared.deeds.Deed.TheVariants.{Does, Returns, Keeps}
use Rattle.utility_calls.specs.Acts.{row, tree_after}
use Rattle.utility_calls.specs.Backs.{back_row, back_after}
use Rattle.utility_calls.specs.Decisions.{mark_at}
use Rattle.utility_calls.specs.Walks.{world, back_mark}
use Rattle.shell_rules.specs.declared.premises.Premises.{Premises}
use Rattle.shell_rules.specs.declared.state.Conc.{Conc}
use Rattle.shell_rules.specs.declared.run.End.{End}
use Rattle.shell_rules.specs.declared.run.End.TheVariants as end
use Rattle.shell_rules.specs.Whole.{Ended}
use Rattle.colis_syntax.specs.WellFormed.{ProgramParts}
use Rattle.colis_meaning.specs.Meaning.{co_program}
use Rattle.dpkg_scenarios.specs.declared.said.Said.{Said}
use Rattle.dpkg_scenarios.specs.declared.scenario.Scenario.{Scenario}
use Rattle.dpkg_scenarios.specs.declared.scenario.ScriptKind.{ScriptKind}
use Rattle.dpkg_scenarios.specs.declared.scenario.Side.{Side}
use Rattle.dpkg_scenarios.specs.declared.scenario.Side.TheVariants.{New, Old}
use Rattle.dpkg_scenarios.specs.declared.scenario.StepWork.{StepWork}
use Rattle.dpkg_scenarios.specs.declared.scenario.StepWork.TheVariants as work
use Rattle.dpkg_scenarios.specs.declared.scenario.StepNext.{StepNext}
use Rattle.dpkg_scenarios.specs.declared.scenario.StepNext.TheVariants.{Go, Stop}
use Rattle.dpkg_scenarios.specs.declared.scenario.Ending.TheVariants as ending
use Rattle.dpkg_scenarios.specs.Names.{script_name}
use Rattle.dpkg_scenarios.specs.Scenarios.{Step, table}
use Rattle.dpkg_scenarios.specs.declared.scripts.Scripts.{Scripts}
use Rattle.dpkg_scenarios.specs.Scripts.{script_of}
use Rattle.dpkg_scenarios.specs.Steps.{line, follows}
use Rattle.scenario_runs.specs.declared.job.Files.{Files}
use Rattle.scenario_runs.specs.declared.job.Job.{Job}
use Rattle.scenario_runs.specs.declared.call.ScriptCall.{ScriptCall}
use Rattle.scenario_runs.specs.declared.call.CallEnd.{CallEnd}
use Rattle.scenario_runs.specs.declared.call.CallEnd.TheVariants as how
use Rattle.scenario_runs.specs.declared.course.Course.{Course}
use Rattle.scenario_runs.specs.declared.course.WorkEnd.{WorkEnd}
use Rattle.scenario_runs.specs.declared.course.WorkEnd.TheVariants.{Succeeded, Failed, Over}
use Rattle.scenario_runs.specs.declared.course.Worked.{Worked}
use Rattle.scenario_runs.specs.declared.course.Reached.{Reached}
use Rattle.scenario_runs.specs.declared.replayed.Replayed.{Replayed}

-- ---- what is run

-- What a script does, in whatever language it is written: whether it begins strict, and what it comes to in a step,
-- from a state of the shell, a tree and a trace.
pub record Meaning : Type 0 where
  pub strict : Bool
  pub ends : ℕ → Conc → Value → List Mark → Ended

-- What the run of a scenario needs: the scenario, whether the new package has neither a configuration file nor a
-- postrm, what the scripts are told of the packages, what each script of either package does, where it has that one,
-- what is done with files, what is known of the system, and how many turns of loops the scripts have, together.
pub record Plan : Type 0 where
  pub scenario : Scenario
  pub plain : Bool
  pub said : Said
  pub scripts : Side → ScriptKind → Option Meaning
  pub files : Files
  pub premises : Premises
  pub turns : ℕ

-- ---- a step that calls a script

-- the shell in which a script is called: its name is the one variable, the words are the arguments, the premises are
-- those of the run, and as many turns are left as the run has left
abbrev pub begun_shell : Premises → ScriptKind → List (List ℕ) → Bool → ℕ → Conc
begun_shell premises script words strict turns = record {
  vars = env.insert env.empty (codes "DPKG_MAINTSCRIPT_NAME") (script_name script);
  args = words;
  strict = strict;
  status = true;
  captured = None;
  turns = turns;
  premises = premises;
}

-- how the call of a script is told that ended so
abbrev pub call_end : End → CallEnd
call_end (end.Status true) = how.Ok
call_end (end.Status false) = how.Failed
call_end (end.Stopped reason site) = how.Ended
call_end (end.Bound site) = how.Ended

-- how a step ends with its script: one that stops or is bound ends the run
abbrev pub script_end : End → WorkEnd
script_end (end.Status true) = Succeeded
script_end (end.Status false) = Failed 0
script_end (end.Stopped reason site) = Over (ending.Incomplete reason site)
script_end (end.Bound site) = Over (ending.Bound site)

-- what a script leaves
abbrev pub called : Side → ScriptKind → List (List ℕ) → Course → Ended → Worked
called side script words c e =
    let call : ScriptCall = record { side = side; script = script; words = words; how = call_end e.end } in
    let course : Course = record c {
      tree = e.tree;
      trace = e.trace;
      deeds = c.deeds ++ map Does e.acts;
      calls = c.calls ++ call ∷ [];
      turns = e.conc.turns;
    } in record { end = script_end e.end; course = course }

-- a script is called in step n; a missing one is a success, and no call
abbrev pub call_script : Premises → ℕ → Side → ScriptKind → List (List ℕ) → Option Meaning → Course → Worked
call_script premises n side script words None c = record { end = Succeeded; course = c }
call_script premises n side script words (Some meaning) c =
    let shell : Conc = begun_shell premises script words meaning.strict c.turns in
    called side script words c (meaning.ends n shell c.tree c.trace)

-- ---- a step that places files, or takes them away

-- the site of an act: the step, and the act's number in it
abbrev pub site_at : ℕ → ℕ → Site
site_at n at = record { step = n; at = at }

-- what an act leaves
abbrev pub acted : Site → Act → Course → Course
acted site act c = record c {
  tree = tree_after act c.tree;
  trace = c.trace ++ mark_at site act c.tree ∷ [];
  deeds = c.deeds ++ Does act ∷ [];
}

-- The end of a step behind an act that answers so, if it ends there: an act that stops ends the run at its site, and a
-- failure ends the step where that step can fail.
abbrev pub ended_behind : Bool → Site → Done → Option WorkEnd
ended_behind can_fail site done.Ok = None
ended_behind can_fail site done.Failed = if can_fail then Some (Failed site.at) else None
ended_behind can_fail site (done.Stopped reason) = Some (Over (ending.Incomplete reason site))

-- that end, or else what comes then
abbrev pub or_more : Option WorkEnd → Course → (Course → Worked) → Worked
or_more None c more = more c
or_more (Some end) c more = record { end = end; course = c }

-- acts in order, numbered from this number on
abbrev pub do_files : Bool → ℕ → ℕ → List Act → Course → Worked
do_files can_fail n at [] c = record { end = Succeeded; course = c }
do_files can_fail n at (act ∷ acts) c =
    or_more (ended_behind can_fail (site_at n at) (row act c.tree).answer) (acted (site_at n at) act c)
    (do_files can_fail n (at + 1) acts)

-- ---- a step that unpacks

-- the tree is kept as it is
abbrev pub keeping_tree : Course → Course
keeping_tree c = record c { kept = c.tree; deeds = c.deeds ++ Keeps ∷ [] }

-- How many of so many acts were done with success by an unpacking that ended so: where one failed, those before it.
-- Where one stopped, the run has ended, and none counts.
abbrev pub done_by : ℕ → WorkEnd → ℕ
done_by all Succeeded = all
done_by all (Failed at) = at
done_by all (Over ending) = 0

-- with the count of the acts, of so many, that were done with success
abbrev pub counted : ℕ → Worked → Worked
counted all w = record { end = w.end; course = record w.course { unpacked = done_by all w.end } }

-- step n unpacks by these acts; the tree is kept as it was before them
abbrev pub unpack : ℕ → List Act → Course → Worked
unpack n acts c = counted (length acts) (do_files true n 0 acts (keeping_tree c))

-- ---- a step that puts back

-- what a back leaves
abbrev pub returned : Site → Back → Course → Course
returned site back c = record c {
  tree = back_after back c.kept c.tree;
  trace = c.trace ++ back_mark site back (world c.tree c.kept) ∷ [];
  deeds = c.deeds ++ Returns back ∷ [];
}

-- backs in order, numbered from this number on; none of them fails
abbrev pub do_backs : ℕ → ℕ → List Back → Course → Worked
do_backs n at [] c = record { end = Succeeded; course = c }
do_backs n at (back ∷ backs) c =
    or_more (ended_behind false (site_at n at) (back_row back c.kept c.tree).answer) (returned (site_at n at) back c)
    (do_backs n (at + 1) backs)

-- what is put back where so many acts of an unpacking were done that these undo: from the last of them to the first
abbrev pub restored : List Back → ℕ → List Back
restored backs n = reverse (take n backs)

-- step n puts back what was unpacked, by what undoes each act of the unpacking
abbrev pub restore : ℕ → List Back → Course → Worked
restore n backs c = do_backs n 0 (restored backs c.unpacked) c

-- ---- steps

-- the work of step n, whose call has these words; of the steps on files, the one that places them can fail
abbrev pub do_work : Plan → ℕ → StepWork → List (List ℕ) → Course → Worked
do_work plan n (work.Script side script) words c =
    call_script plan.premises n side script words (plan.scripts side script) c
do_work plan n work.Unpack words c = unpack n plan.files.unpack c
do_work plan n work.RemoveFiles words c = do_files false n 0 plan.files.remove_files c
do_work plan n work.RemoveOld words c = do_files false n 0 plan.files.remove_old c
do_work plan n work.RemoveConf words c = do_files false n 0 plan.files.remove_conf c
do_work plan n work.Restore words c = restore n plan.files.backs c

-- the words of a step's call
abbrev pub words_in : Plan → Step → List (List ℕ)
words_in plan step = step.words plan.said

-- what follows a step whose work ended so
abbrev pub next_behind : Bool → Step → WorkEnd → StepNext
next_behind plain step Succeeded = follows step true plain
next_behind plain step (Failed at) = follows step false plain
next_behind plain step (Over ending) = Stop ending

-- what follows the step, with how far the run has come
abbrev pub followed : Bool → Step → Worked → Reached
followed plain step w = record { next = next_behind plain step w.end; course = w.course }

-- the step with this line of the scenario's table
abbrev pub do_step : Plan → ℕ → Option Step → Course → Reached
do_step plan n None c = record { next = Go n; course = c }
do_step plan n (Some step) c = followed plan.plain step (do_work plan n step.work (words_in plan step) c)

-- what follows is done
abbrev pub go_next : Plan → StepNext → Course → Reached
go_next plan (Go n) c = do_step plan n (line plan.scenario n) c
go_next plan (Stop ending) c = record { next = Stop ending; course = c }

-- a number of steps, one after another
abbrev pub go_steps : ℕ → Plan → Reached → Reached
go_steps zero plan r = r
go_steps (suc left) plan r = go_steps left plan (go_next plan r.next r.course)

-- ---- the run

-- before the first step nothing was done, and all turns are left
abbrev pub begun : ℕ → Value → Course
begun turns tree =
    record { tree = tree; kept = tree; trace = []; deeds = []; calls = []; turns = turns; unpacked = 0 }

-- what a run comes to that has ended
abbrev pub replayed_at : StepNext → Course → Option Replayed
replayed_at (Go n) c = None
replayed_at (Stop ending) c =
    Some (record { ending = ending; trace = c.trace; after = c.tree; calls = c.calls; deeds = c.deeds })

-- what a run comes to that has ended, from where it is
abbrev pub replayed : Reached → Option Replayed
replayed r = replayed_at r.next r.course

-- The run of a plan's scenario from a tree. Each step is followed by one of a later turn or by the end, so it has at
-- most as many steps as the scenario's table. None where none of these ended it, which is so of no job
-- (RunsAreDecided).
abbrev pub run_of : Plan → Value → Option Replayed
run_of plan tree =
    let first : Reached = record { next = Go 1; course = begun plan.turns tree } in
    replayed (go_steps (length (table plan.scenario)) plan first)

-- ---- the run of a job, whose scripts are programs

-- the scripts of one of the packages
abbrev pub scripts_in : Job → Side → Scripts ProgramParts
scripts_in job New = job.new_scripts
scripts_in job Old = job.old_scripts

-- what a program does
abbrev pub program_meaning : ProgramParts → Meaning
program_meaning program = record { strict = program.strict; ends = co_program program }

-- what is run of a job
abbrev pub plan_of : Job → Plan
plan_of job = record {
  scenario = job.scenario;
  plain = job.plain;
  said = job.said;
  scripts = λ side script. option_map program_meaning (script_of script (scripts_in job side));
  files = job.files;
  premises = job.premises;
  turns = job.turns;
}

-- the run of a job's scenario from a tree
abbrev pub scenario_run : Job → Value → Option Replayed
scenario_run job tree = run_of (plan_of job) tree

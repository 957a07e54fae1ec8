-- What holds of the runs of scenarios. A run does what it does for all trees at once: the tree enters at its deeds
-- alone. And a run that had enough turns of loops is the same with more.
use Rattle.std.specs.Prelude.{◌≡◌, ◌⊎◌, ℕ, ◌+◌, Bool, true, false, IsTrue, List, [], Some}
use Rattle.script_names.specs.declared.mark.Mark.{Mark}
use Rattle.feature_trees.specs.declared.value.Value.{Value}
use Rattle.utility_calls.specs.Walks.{fresh, Walk, Walked, walk, AllDone}
use Rattle.shell_rules.specs.declared.state.Conc.{Conc}
use Rattle.shell_rules.specs.Laws.{is_bound_end, conc_with_more, ended_with_more}
use Rattle.dpkg_scenarios.specs.declared.scenario.ScriptKind.{ScriptKind}
use Rattle.dpkg_scenarios.specs.declared.scenario.Side.{Side}
use Rattle.dpkg_scenarios.specs.declared.scenario.Ending.{Ending}
use Rattle.dpkg_scenarios.specs.declared.scenario.Ending.TheVariants as ending
use Rattle.scenario_runs.specs.declared.job.Job.{Job}
use Rattle.scenario_runs.specs.declared.call.ScriptCall.{ScriptCall}
use Rattle.scenario_runs.specs.declared.replayed.Replayed.{Replayed}
use Rattle.scenario_runs.specs.Performed.{ArePerformed}
use Rattle.scenario_runs.specs.Runs.{Meaning, Plan, run_of, scenario_run}
use Rattle.scenario_runs.specs.Deciding.{decision_of}

-- ---- decisions

-- what a run comes to whose walk gives an ending and the calls of scripts: the tree, the trace and the deeds are those
-- of the walk
abbrev pub replayed_of : Walked (Ending × List ScriptCall) → Replayed
replayed_of p =
    record { ending = p.value.0; trace = p.trace; after = p.world.tree; calls = p.value.1; deeds = p.deeds }

-- The runs of a job: one walk is walked by all of them, from each tree, each of its acts can be done on every tree, and
-- the path of what it puts back has a name. So each run has an end.
pub record IsDecided (job : Job) : Type 0 where
  pub decision : Walk (Ending × List ScriptCall)
  pub performed : AllDone decision
  pub played : (tree : Value) → scenario_run job tree ≡ Some (replayed_of (walk decision (fresh tree) [] []))

-- whatever the job
abbrev pub RunsAreDecided : Type 0
RunsAreDecided = (job : Job) → ArePerformed job.files → IsDecided job

-- the decision that is made of a job is the one that its runs play
abbrev pub DecisionsArePlayed : Type 0
DecisionsArePlayed =
    (job : Job) (performed : ArePerformed job.files) (tree : Value)
    → scenario_run job tree ≡ Some (replayed_of (walk (decision_of job performed) (fresh tree) [] []))

-- ---- turns of loops

-- whether a run ended so for want of a turn
abbrev pub is_bound : Ending → Bool
is_bound (ending.Done state) = false
is_bound (ending.Failed state) = false
is_bound (ending.Incomplete reason site) = false
is_bound (ending.Bound site) = true

-- a script's run that is not bound is, with more turns, the same run, but for the turns that are left, which are more
-- by as many
abbrev pub IsSameWithMore : Meaning → Type 0
IsSameWithMore meaning =
    (n : ℕ) (step : ℕ) (conc : Conc) (tree : Value) (trace : List Mark)
    → IsTrue (is_bound_end (meaning.ends step conc tree trace).end)
    ⊎ (meaning.ends step (conc_with_more n conc) tree trace ≡ ended_with_more n (meaning.ends step conc tree trace))

-- a run of any script of the plan that is not bound is the same run with more turns, but for the turns that are left
abbrev pub AreSameWithMore : Plan → Type 0
AreSameWithMore plan =
    (side : Side) (script : ScriptKind) (meaning : Meaning) → plan.scripts side script ≡ Some meaning
    → IsSameWithMore meaning

-- a plan, with more turns
abbrev pub plan_with_more : ℕ → Plan → Plan
plan_with_more n plan = record plan { turns = plan.turns + n }

-- a job, with more turns
abbrev pub job_with_more : ℕ → Job → Job
job_with_more n job = record job { turns = job.turns + n }

-- The run of a plan that is not bound is the same run with more turns, in ending, trace, tree, calls and deeds, where
-- this holds of each of its scripts.
abbrev pub MoreTurnsOfPlans : Type 0
MoreTurnsOfPlans =
    (plan : Plan) → AreSameWithMore plan → (n : ℕ) (tree : Value) (run : Replayed) → run_of plan tree ≡ Some run
    → IsTrue (is_bound run.ending) ⊎ (run_of (plan_with_more n plan) tree ≡ Some run)

-- so the run of a job is
abbrev pub MoreTurns : Type 0
MoreTurns =
    (job : Job) (n : ℕ) (tree : Value) (run : Replayed) → scenario_run job tree ≡ Some run
    → IsTrue (is_bound run.ending) ⊎ (scenario_run (job_with_more n job) tree ≡ Some run)

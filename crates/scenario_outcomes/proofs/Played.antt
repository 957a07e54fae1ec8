-- What a run gives is what its walk gives.
use Rattle.std.proofs.Common.{◌≡◌, List, [], Some, sym, ap, ◌∙◌}
use Rattle.feature_trees.specs.declared.value.Value.{Value}
use Rattle.utility_calls.specs.Walks.{Walked, walk, fresh}
use Rattle.case_paths.specs.Paths.{Gives}
use Rattle.dpkg_scenarios.specs.declared.scenario.Ending.{Ending}
use Rattle.scenario_runs.specs.declared.job.Job.{Job}
use Rattle.scenario_runs.specs.declared.call.ScriptCall.{ScriptCall}
use Rattle.scenario_runs.specs.declared.replayed.Replayed.{Replayed}
use Rattle.scenario_runs.specs.Runs.{scenario_run}
use Rattle.scenario_runs.specs.Performed.{ArePerformed}
use Rattle.scenario_runs.specs.Deciding.{decision_of}
use Rattle.scenario_runs.specs.Laws.{DecisionsArePlayed, replayed_of}
use Rattle.scenario_runs.proofs.Turning.{same_run as same_end}

-- the run gives what is walked
pub run_gives : DecisionsArePlayed → (job : Job) (files : ArePerformed job.files) (tree : Value) (end : Replayed)
    → scenario_run job tree ≡ Some end
    → Gives (walk (decision_of job files) (fresh tree) [] []) (record { value = (end.ending, end.calls); trace = end.trace; deeds = end.deeds })
run_gives decided job files tree end e =
    let q : Walked (Ending × List ScriptCall) = walk (decision_of job files) (fresh tree) [] [] in
    let same : end ≡ replayed_of q = same_end end (replayed_of q) (sym e ∙ decided job files tree) in
    record {
      value = ap both same;
      trace = ap (λ (x : Replayed). x.trace) same;
      deeds = ap (λ (x : Replayed). x.deeds) same;
    }
  where
    both : Replayed → Ending × List ScriptCall
    both x = (x.ending, x.calls)

use Rattle.std.proofs.Common.{◌≡◌, ◌++◌, take}
use Rattle.std.specs.List.{flat_map}
use Rattle.load_summary.specs.Summary.{scenario_line}
use Rattle.load_summary.proofs.summary.put_scenarios.Given as goal

abbrev pub invariant-loop-scenario : goal.invariant-loop-scenario
invariant-loop-scenario l = l.text ≡ l.initial.text ++ flat_map scenario_line (take l.scenario-index l.scenarios)

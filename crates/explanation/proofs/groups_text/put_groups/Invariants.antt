use Rattle.std.proofs.Common.{◌≡◌, ◌++◌, take}
use Rattle.std.specs.List.{flat_map}
use Rattle.scenario_runs.specs.Runs.{scenario_run}
use Rattle.explanation.specs.GroupTexts.{if_verdict}
use Rattle.explanation.proofs.groups_text.put_groups.Given as goal

abbrev pub invariant-loop-group : goal.invariant-loop-group
invariant-loop-group l = l.text ≡ l.initial.text ++ flat_map (if_verdict l.sources (scenario_run l.job) l.part l.verdict l.groups) (take l.group-index l.groups)

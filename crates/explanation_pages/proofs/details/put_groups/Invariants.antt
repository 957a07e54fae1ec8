use Rattle.std.proofs.Common.{◌≡◌, ◌++◌, take}
use Rattle.std.specs.List.{flat_map}
use Rattle.scenario_runs.specs.Runs.{scenario_run}
use Rattle.explanation_pages.specs.Details.{details_if}
use Rattle.explanation_pages.proofs.details.put_groups.Given as goal

abbrev pub invariant-loop-group : goal.invariant-loop-group
invariant-loop-group l =
    l.text
    ≡ l.initial.text
    ++ flat_map
    (details_if l.sources l.turns (scenario_run l.job) l.part l.verdict l.groups)
    (take l.group-index l.groups)

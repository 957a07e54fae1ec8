use Rattle.std.proofs.Common.{◌≡◌, take}
use Rattle.scenario_outcomes.specs.OutcomeOf.{path_endings}
use Rattle.scenario_outcomes.proofs.listing.take_endings.Given as goal

abbrev pub invariant-loop-path : goal.invariant-loop-path
invariant-loop-path l = l.endings ≡ path_endings (take l.path-index l.paths)

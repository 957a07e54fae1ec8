use Rattle.std.proofs.Common.{◌≡◌, take}
use Rattle.std.specs.List.{flat_map}
use Rattle.explanation_pages.specs.Details.{members_if}
use Rattle.explanation_pages.proofs.details.further_members.Given as goal

abbrev pub invariant-loop-other : goal.invariant-loop-other
invariant-loop-other l = l.places ≡ flat_map (members_if l.sources l.scenario l.group) (take l.other-index l.groups)

use Rattle.std.proofs.Common.{◌≡◌, ◌++◌, take}
use Rattle.std.specs.List.{flat_map}
use Rattle.explanation.specs.GroupTexts.{place_unless}
use Rattle.explanation.proofs.groups_text.put_places.Given as goal

abbrev pub invariant-loop-group : goal.invariant-loop-group
invariant-loop-group l = l.text ≡ l.initial.text ++ flat_map (place_unless l.sources l.scenario) (take l.group-index l.groups)

use Rattle.std.proofs.Common.{◌≡◌, ◌++◌, take}
use Rattle.std.specs.List.{flat_map}
use Rattle.explanation_pages.specs.Details.{place_if}
use Rattle.explanation_pages.proofs.details.put_places.Given as goal

abbrev pub invariant-loop-other : goal.invariant-loop-other
invariant-loop-other l =
    l.text
    ≡ l.initial.text ++ flat_map (place_if l.sources l.turns l.part l.group) (take l.other-index l.groups)

use Rattle.std.proofs.Common.{◌≡◌, take}
use Rattle.std.specs.List.{filter_map}
use Rattle.report_text.specs.Places.{entry_place}
use Rattle.report_text.proofs.places.end_places.Given as goal

abbrev pub invariant-loop-entry : goal.invariant-loop-entry
invariant-loop-entry l = l.places ≡ filter_map entry_place (take l.entry-index l.entries)

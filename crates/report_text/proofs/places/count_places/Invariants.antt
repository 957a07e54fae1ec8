use Rattle.std.proofs.Common.{◌≡◌, take}
use Rattle.report_text.specs.Places.{place_counts}
use Rattle.report_text.proofs.places.count_places.Given as goal

abbrev pub invariant-loop-place : goal.invariant-loop-place
invariant-loop-place l = l.counts.entries ≡ place_counts (take l.place-index l.places)

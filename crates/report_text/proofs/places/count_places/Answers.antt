use Rattle.std.proofs.Common.{false, get_or, arith}
use Rattle.report_text.specs.declared.places.EndKind.TheVariants.{Failed}
use Rattle.report_text.specs.declared.places.EndPlace.{EndPlace}
use Rattle.report_text.proofs.Counted.{counted_more, counted_below}
use Rattle.report_text.proofs.places.count_places.Goals as goal

-- what is read outside of the places
abbrev outside : EndPlace
outside = record { kind = Failed; sited = false; step = 0; at = 0 }

pub count_one-requires : goal.count_one-requires
count_one-requires c =
    counted_below c.args.places.now c.loop-place.place-index c.loop-place.counts.entries
    (get_or c.args.places.now c.loop-place.place-index outside) 18446744073709551615 (omega arith) c.loop-place.invariant

pub loop-place-preserved : goal.loop-place-preserved
loop-place-preserved c =
    counted_more c.args.places.now c.loop-place.place-index outside c.loop-place.counts.entries _ c.loop-place-test.true
    c.in_ok-count_one.ensures c.loop-place.invariant

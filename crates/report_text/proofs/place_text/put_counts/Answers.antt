use Rattle.report_text.specs.PlaceText.{place_line}
use Rattle.report_text.proofs.Growing.{text_more}
use Rattle.report_text.proofs.place_text.put_counts.Goals as goal

pub loop-i-preserved : goal.loop-i-preserved
loop-i-preserved c =
    text_more place_line c.args.counts.now.entries c.loop-i.i _ c.args.text.now c.loop-i.text _ c.in_ok-put_place.ensures
    c.loop-i.invariant c.in-Some.ensures.entry

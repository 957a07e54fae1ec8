use Rattle.std.proofs.Common.{◌≡◌, List, ◌++◌, get_or, ap, ◌∙◌}
use Rattle.script_names.specs.declared.mark.Mark.{Mark}
use Rattle.outcome_report.specs.declared.outcome_report.ReportEntry.{ReportEntry}
use Rattle.report_text.specs.Places.{end_place, entry_place}
use Rattle.report_text.specs.Counting.{as_list}
use Rattle.report_text.proofs.Counted.{place_more}
use Rattle.report_text.proofs.places.end_places.Goals as goal

same_trace : (entry other : ReportEntry) (trace : List Mark) → trace ≡ entry.outcome.trace → entry ≡ other
    → end_place entry.outcome.ending trace ≡ entry_place other
same_trace entry other trace t e = ap (end_place entry.outcome.ending) t ∙ ap entry_place e

pub loop-entry-preserved : goal.loop-entry-preserved
loop-entry-preserved c =
    let entry = c.entry-item.result in
    let i = c.loop-entry.entry-index in
    let same = c.end_place-place.ensures
    ∙ same_trace entry (get_or c.args.entries.now i entry) c.as_slice.result.now c.as_slice.ensures c.entry-item.is in
    place_more entry_place c.args.entries.now i entry c.loop-entry.places _ c.loop-entry-test.true
    (c.in_ok-add_some.ensures ∙ ap (λ o. c.loop-entry.places ++ as_list o) same) c.loop-entry.invariant

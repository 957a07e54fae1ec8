-- The lines of the places where outcomes end that aren't done.
use Rattle.std.specs.Prelude.{ℕ, List, ◌++◌, codes, if◌then◌else◌}
use Rattle.std.specs.List.{flat_map}
use Rattle.std.specs.Fmt.{decimal}
use Rattle.script_names.specs.declared.mark.Site.{Site}
use Rattle.shown_texts.specs.Lines.{line}
use Rattle.shown_texts.specs.Marks.{site_text}
use Rattle.outcome_report.specs.declared.outcome_report.ReportEntry.{ReportEntry}
use Rattle.report_text.specs.declared.places.EndKind.{EndKind}
use Rattle.report_text.specs.declared.places.EndKind.TheVariants.{Failed, Incomplete, Bound}
use Rattle.report_text.specs.declared.places.EndPlace.{EndPlace}
use Rattle.report_text.specs.Places.{end_places, place_counts}

-- how an outcome ends that isn't done
abbrev pub kind_name : EndKind → List ℕ
kind_name Failed = codes "failed"
kind_name Incomplete = codes "incomplete"
kind_name Bound = codes "bound"

-- the site of a place; `-` where it has none
abbrev pub place_site : EndPlace → List ℕ
place_site place =
    let site : Site = record { step = place.step; at = place.at } in
    if place.sited then site_text site else codes "-"

-- a place, and how many outcomes end there
unfoldable pub place_line : EndPlace × ℕ → List ℕ
place_line e =
    line (codes "place " ++ kind_name e.0.kind ++ codes " " ++ place_site e.0 ++ codes " " ++ decimal e.1)

-- the lines of the different places, in the order in which they first appear
abbrev pub places_text : List ReportEntry → List ℕ
places_text entries = flat_map place_line (place_counts (end_places entries))

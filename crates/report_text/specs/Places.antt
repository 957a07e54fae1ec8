-- The places where outcomes end that aren't done, and how often each comes.
use Rattle.std.specs.Prelude.{ℕ, ◌-◌, Bool, true, false, not, ◌&&◌, ◌==◌, List, [], ◌∷◌, length, map, slice_get}
use Rattle.std.specs.Prelude.{Option, Some, None}
use Rattle.std.specs.List.{filter, filter_map, count_by}
use Rattle.script_names.specs.declared.mark.Site.{Site}
use Rattle.script_names.specs.declared.mark.Mark.{Mark}
use Rattle.dpkg_scenarios.specs.declared.scenario.Ending.{Ending}
use Rattle.dpkg_scenarios.specs.declared.scenario.Ending.TheVariants as ending
use Rattle.outcome_report.specs.declared.outcome_report.ReportEntry.{ReportEntry}
use Rattle.report_text.specs.declared.places.EndKind.{EndKind}
use Rattle.report_text.specs.declared.places.EndKind.TheVariants.{Failed, Incomplete, Bound}
use Rattle.report_text.specs.declared.places.EndPlace.{EndPlace}

-- ---- the place of an outcome

-- a place without a site
abbrev pub unsited : EndKind → EndPlace
unsited kind = record { kind = kind; sited = false; step = 0; at = 0 }

-- a place with a site
abbrev pub sited : EndKind → Site → EndPlace
sited kind site = record { kind = kind; sited = true; step = site.step; at = site.at }

-- the place of a failure: the site of the last mark, if there is any
abbrev pub failed_behind : Option Mark → EndPlace
failed_behind None = unsited Failed
failed_behind (Some mark) = sited Failed mark.site

-- the place of a failure behind these marks
abbrev pub failed_at : List Mark → EndPlace
failed_at trace = failed_behind (slice_get trace (length trace - 1))

-- where an outcome with this ending and this trace ends, unless it is done
abbrev pub end_place : Ending → List Mark → Option EndPlace
end_place (ending.Done state) trace = None
end_place (ending.Failed state) trace = Some (failed_at trace)
end_place (ending.Incomplete reason site) trace = Some (sited Incomplete site)
end_place (ending.Bound site) trace = Some (sited Bound site)

-- where the outcome of an entry ends
abbrev pub entry_place : ReportEntry → Option EndPlace
entry_place entry = end_place entry.outcome.ending entry.outcome.trace

-- where outcomes end, in their order
abbrev pub end_places : List ReportEntry → List EndPlace
end_places entries = filter_map entry_place entries

-- ---- which places are the same

-- the same way to end
abbrev pub same_kind : EndKind → EndKind → Bool
same_kind Failed Failed = true
same_kind Incomplete Incomplete = true
same_kind Bound Bound = true
same_kind a b = false

-- both are set, or neither is
abbrev pub same_flag : Bool → Bool → Bool
same_flag true b = b
same_flag false true = false
same_flag false false = true

-- places are told apart by kind and site
abbrev pub same_place : EndPlace → EndPlace → Bool
same_place a b = same_kind a.kind b.kind && (same_flag a.sited b.sited && ((a.step == b.step) && (a.at == b.at)))

-- ---- how often each comes

-- the different ones of some places, in the order in which they first appear
abbrev pub different : List EndPlace → List EndPlace
different [] = []
different (place ∷ places) = place ∷ filter (λ other. not (same_place place other)) (different places)

-- how often a place is among them
abbrev pub count : EndPlace → List EndPlace → ℕ
count place places = count_by (same_place place) places

-- the different ones, each with how often it comes
abbrev pub place_counts : List EndPlace → List (EndPlace × ℕ)
place_counts places = map (λ place. (place, count place places)) (different places)

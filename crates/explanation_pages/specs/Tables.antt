-- Which places and which outcomes belong to the script that a table shows.
use Rattle.std.specs.Prelude.{ℕ, Bool, ◌&&◌, ◌==◌, List, [], ◌∷◌, length, map, Option, Some, None, if◌then◌else◌}
use Rattle.std.specs.Option.{is_some}
use Rattle.std.specs.List.{flat_map}
use Rattle.script_names.specs.declared.mark.Mark.{Mark}
use Rattle.script_names.specs.declared.mark.Site.{Site}
use Rattle.dpkg_scenarios.specs.declared.scenario.Scenario.{Scenario}
use Rattle.dpkg_scenarios.specs.declared.scenario.ScriptKind.{ScriptKind}
use Rattle.dpkg_scenarios.specs.declared.scenario.Side.{Side}
use Rattle.dpkg_scenarios.specs.declared.scenario.Side.TheVariants.{New}
use Rattle.dpkg_scenarios.specs.Verdicts.{ending_verdict}
use Rattle.checker_input.specs.declared.sources.Sources.{Sources}
use Rattle.outcome_report.specs.declared.outcome_report.ReportEntry.{ReportEntry}
use Rattle.outcome_groups.specs.declared.group.Group.{Group}
use Rattle.outcome_groups.specs.Ends.{same_script, same_side}
use Rattle.explanation.specs.declared.spots.Spot.{Spot}
use Rattle.explanation.specs.declared.spots.Spot.TheVariants.{InScript, InFiles, Nowhere}
use Rattle.explanation.specs.LinesLeft.{is_alone}
use Rattle.explanation.specs.Spots.{spot_of}
use Rattle.explanation_pages.specs.declared.tables.Table.{Table}

-- the package in whose table a script stands: without an old package the new one
abbrev pub side_of : Sources → Side → Side
side_of sources side = if is_alone sources.old_texts then New else side

-- the table of a script of one of the packages
abbrev pub table_of : Sources → Scenario → Side → ScriptKind → Table
table_of sources scenario side script = record { scenario = scenario; side = side_of sources side; script = script }

-- a script stands in a table
abbrev pub is_of : Sources → Table → Side → ScriptKind → Bool
is_of sources table side script = same_script table.script script && same_side table.side (side_of sources side)

-- the byte of the table's script that a place is, if it is one
abbrev pub spot_site : Sources → Table → Spot → Option ℕ
spot_site sources table (InScript side script at) = if is_of sources table side script then Some at else None
spot_site sources table (InFiles work at) = None
spot_site sources table Nowhere = None

-- the byte of the table's script at which a site is, if it is there
abbrev pub site_in : Sources → Table → Option Site → Option ℕ
site_in sources table site = spot_site sources table (spot_of table.scenario site)

-- no byte, or one
abbrev pub listed : Option ℕ → List ℕ
listed None = []
listed (Some at) = at ∷ []

-- the byte of the table's script at which a mark is, if it is there
abbrev pub mark_site : Sources → Table → Mark → List ℕ
mark_site sources table mark = listed (site_in sources table (Some mark.site))

-- the bytes of the table's script at which acts of an outcome are
abbrev pub entry_sites : Sources → Table → ReportEntry → List ℕ
entry_sites sources table entry = flat_map (mark_site sources table) entry.outcome.trace

-- the same of each outcome
abbrev pub sites_of : Sources → Table → List ReportEntry → List (List ℕ)
sites_of sources table entries = map (entry_sites sources table) entries

-- the outcomes of a group end in the table's script, and so: 0 where they end well, 1 where they fail, 2 where they are
-- undecided
abbrev pub ends_in : Sources → Table → ℕ → Group → Bool
ends_in sources table verdict group =
    is_some (site_in sources table group.end.site) && (ending_verdict group.end.ending == verdict)

-- the outcomes of a group, by their places in the part, if they end there so
abbrev pub enders_if : Sources → Table → ℕ → Group → List ℕ
enders_if sources table verdict group = if ends_in sources table verdict group then group.members else []

-- all outcomes that end there so; each is in one group
abbrev pub enders : Sources → Table → ℕ → List Group → List ℕ
enders sources table verdict groups = flat_map (enders_if sources table verdict) groups

-- how many they are
abbrev pub ender_count : Sources → Table → ℕ → List Group → ℕ
ender_count sources table verdict groups = length (enders sources table verdict groups)

-- What is named in a page, so that a link leads there: lines of scripts, and groups.
use Rattle.std.specs.Prelude.{ℕ, List, ◌++◌, codes, Option, Some, None}
use Rattle.std.specs.Fmt.{decimal}
use Rattle.dpkg_scenarios.specs.declared.scenario.Scenario.{Scenario}
use Rattle.dpkg_scenarios.specs.declared.scenario.Side.{Side}
use Rattle.dpkg_scenarios.specs.declared.scenario.Side.TheVariants.{New, Old}
use Rattle.dpkg_scenarios.specs.Names.{scenario_name, script_name}
use Rattle.outcome_report.specs.declared.outcome_report.ReportEntry.{ReportEntry}
use Rattle.outcome_groups.specs.declared.group.Group.{Group}
use Rattle.explanation.specs.GroupTexts.{first_entry}
use Rattle.explanation_pages.specs.declared.tables.Table.{Table}

-- how the old package's scripts are named apart
abbrev pub side_words : Side → List ℕ
side_words New = codes "-"
side_words Old = codes "-old-"

-- the name of a line of a table, as `purge-postrm-7`
unfoldable pub row_anchor : Table → ℕ → List ℕ
row_anchor table number =
    scenario_name table.scenario ++ side_words table.side ++ script_name table.script ++ codes "-" ++ decimal number

-- the number of an outcome, where there is one
abbrev pub number_of : Option ReportEntry → ℕ
number_of None = 0
number_of (Some entry) = entry.outcome.number

-- the number of a group: that of its first outcome
abbrev pub group_number : List ReportEntry → Group → ℕ
group_number entries group = number_of (first_entry group.members entries)

-- the name of a group, as `purge-3`
unfoldable pub group_anchor : Scenario → List ReportEntry → Group → List ℕ
group_anchor scenario entries group = scenario_name scenario ++ codes "-" ++ decimal (group_number entries group)

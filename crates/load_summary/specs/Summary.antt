-- The text that sums up the report on a made package.
use Rattle.std.specs.Prelude.{ℕ, List, ◌++◌, length, map, codes}
use Rattle.std.specs.List.{flat_map}
use Rattle.std.specs.Fmt.{decimal}
use Rattle.shown_texts.specs.Lines.{line}
use Rattle.dpkg_scenarios.specs.declared.scenario.Ending.{Ending}
use Rattle.outcome_report.specs.declared.outcome_report.Report.{Report}
use Rattle.outcome_report.specs.OutcomeReport.{verdict_of}
use Rattle.dpkg_scenarios.specs.Names.{scenario_name}
use Rattle.load_summary.specs.declared.counts.EndWay.{EndWay}
use Rattle.load_summary.specs.declared.counts.EndWay.TheVariants.{Done, Failed, Incomplete, Bound}
use Rattle.load_summary.specs.declared.endings.ScenarioEndings.{ScenarioEndings}
use Rattle.load_summary.specs.Counts.{way_name, count}
use Rattle.load_summary.specs.Endings.{endings_of}

-- a way to end, and how many of these endings are of it
unfoldable pub count_text : EndWay → List Ending → List ℕ
count_text way endings = codes " " ++ way_name way ++ codes " " ++ decimal (count way endings)

-- each way to end, and how many of these endings are of it
unfoldable pub counts_text : List Ending → List ℕ
counts_text endings =
    count_text Done endings ++ count_text Failed endings ++ count_text Incomplete endings ++ count_text Bound endings

-- the line of a scenario: its name, how many outcomes it has, and how many of them end in each way
unfoldable pub scenario_line : ScenarioEndings → List ℕ
scenario_line scenario =
    line (scenario_name scenario.scenario ++ codes " outcomes " ++ decimal (length scenario.endings)
    ++ counts_text scenario.endings)

-- the text: the number of the package, the scenarios, and the verdict
unfoldable pub lines_text : ℕ → List ScenarioEndings → ℕ → List ℕ
lines_text number scenarios verdict =
    line (codes "load " ++ decimal number)
    ++ flat_map scenario_line scenarios
    ++ line (codes "status " ++ decimal verdict)

-- that of a report: its scenarios, with how their outcomes end, and its verdict
abbrev pub summary_text : ℕ → Report → List ℕ
summary_text number report = lines_text number (map endings_of report.parts) (verdict_of report)

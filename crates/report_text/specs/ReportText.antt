-- The text of a report.
use Rattle.std.specs.Prelude.{ℕ, List, ◌++◌, length, Bool, codes}
use Rattle.std.specs.List.{flat_map}
use Rattle.std.specs.Fmt.{decimal}
use Rattle.script_names.specs.declared.mark.Mark.{Mark}
use Rattle.script_names.specs.declared.mark.Site.{Site}
use Rattle.script_names.specs.declared.reason.Reason.{Reason}
use Rattle.shown_texts.specs.Lines.{line}
use Rattle.shown_texts.specs.Marks.{site_text, mark_text, reason_name}
use Rattle.shown_texts.specs.Show.{show}
use Rattle.feature_trees.specs.TreeText.{tree_text}
use Rattle.feature_trees.specs.declared.version.Version.TheVariants.{Second}
use Rattle.tree_clauses.specs.ClauseText.{clause_text}
use Rattle.dpkg_scenarios.specs.declared.scenario.Ending.{Ending}
use Rattle.dpkg_scenarios.specs.declared.scenario.Ending.TheVariants.{Done, Failed, Incomplete, Bound}
use Rattle.dpkg_scenarios.specs.declared.scenario.Scenario.{Scenario}
use Rattle.scenario_runs.specs.declared.call.ScriptCall.{ScriptCall}
use Rattle.outcome_report.specs.declared.outcome_report.ReportEntry.{ReportEntry}
use Rattle.outcome_report.specs.declared.outcome_report.ReportPart.{ReportPart}
use Rattle.outcome_report.specs.declared.outcome_report.Report.{Report}
use Rattle.outcome_report.specs.OutcomeReport.{verdict_of}
use Rattle.report_text.specs.PlaceText.{places_text}
use Rattle.dpkg_scenarios.specs.Names.{scenario_name, script_name}
use Rattle.report_text.specs.ReportNames.{state_name, confirmed_name, side_name, call_end_name}

-- a reason and the site where it came
abbrev pub stop_text : Reason → Site → List ℕ
stop_text reason site = reason_name reason ++ codes " " ++ site_text site

-- how a scenario ended
abbrev pub result_text : Ending → List ℕ
result_text (Done state) = codes "done " ++ state_name state
result_text (Failed state) = codes "failed " ++ state_name state
result_text (Incomplete reason site) = codes "incomplete " ++ stop_text reason site
result_text (Bound site) = codes "bound " ++ site_text site

-- the number of an outcome, and how it ends
unfoldable pub outcome_line : ReportEntry → List ℕ
outcome_line entry =
    line (codes "outcome " ++ decimal entry.outcome.number ++ codes " " ++ result_text entry.outcome.ending)

-- a mark of a trace, behind a space
abbrev pub trace_mark : Mark → List ℕ
trace_mark mark = codes " " ++ mark_text mark

-- the marks of what was done
unfoldable pub trace_line : List Mark → List ℕ
trace_line trace = line (codes "trace" ++ flat_map trace_mark trace)

-- whether the replay agrees
unfoldable pub confirmed_line : Bool → List ℕ
confirmed_line confirmed = line (codes "confirmed " ++ confirmed_name confirmed)

-- a word of a call, behind a space
abbrev pub call_word : List ℕ → List ℕ
call_word word = codes " " ++ show word

-- a call of a script, without the newline of its line: whose it is, its name, its words, and how it ended
abbrev pub call_content : ScriptCall → List ℕ
call_content call =
    codes "call " ++ side_name call.side ++ codes " " ++ script_name call.script ++ flat_map call_word call.words
    ++ codes " " ++ call_end_name call.how

-- the line of a call
unfoldable pub call_line : ScriptCall → List ℕ
call_line call = line (call_content call)

-- the tree that an outcome shows, and the one that the replay left; a value that is no directory is printed as no
-- lines, so nothing is asked of them
unfoldable pub trees_text : ReportEntry → List ℕ
trees_text entry =
    line (codes "shown") ++ tree_text entry.outcome.shown ++ line (codes "after") ++ tree_text entry.replayed.after

-- the lines of an outcome and its replay
unfoldable pub entry_text : ReportEntry → List ℕ
entry_text entry =
    outcome_line entry
    ++ trace_line entry.outcome.trace
    ++ confirmed_line entry.confirmed
    ++ flat_map call_line entry.replayed.calls
    ++ clause_text Second entry.outcome.clause
    ++ trees_text entry

-- the name of a scenario, and how many outcomes it has
abbrev pub heading : Scenario → ℕ → List ℕ
heading scenario outcomes =
    line (codes "scenario " ++ scenario_name scenario ++ codes " outcomes " ++ decimal outcomes)

-- the line of a part: the name of its scenario, and how many outcomes it has
unfoldable pub scenario_line : ReportPart → List ℕ
scenario_line part = heading part.scenario (length part.entries)

-- the lines of a scenario: its outcomes, and behind them the places where those end that aren't done
unfoldable pub part_text : ReportPart → List ℕ
part_text part = scenario_line part ++ flat_map entry_text part.entries ++ places_text part.entries

-- the line of a verdict
abbrev pub line_of_verdict : ℕ → List ℕ
line_of_verdict verdict = line (codes "verdict " ++ decimal verdict)

-- the verdict
unfoldable pub verdict_line : Report → List ℕ
verdict_line report = line_of_verdict (verdict_of report)

-- the text of a report
unfoldable pub report_text : Report → List ℕ
report_text report = line (codes "colis report 2") ++ flat_map part_text report.parts ++ verdict_line report

-- the text of a report on a pair of packages, or on a package that is configured twice
unfoldable pub pair_text : Report → List ℕ
pair_text report = line (codes "colis pair 1") ++ flat_map part_text report.parts ++ verdict_line report

-- The JSON value of a report in a version, and its text.
use Rattle.std.specs.Prelude.{ℕ, List, map, codes}
use Rattle.std.specs.List.{join_with_byte}
use Rattle.serde_json.specs.Data.{unsigned, Data, boolean, number, string, array, object, no_members, member}
use Rattle.serde_json.specs.View.{items_of}
use Rattle.serde_json.specs.Written.{compact_text}
use Rattle.script_names.specs.Ascii.{space}
use Rattle.script_names.specs.declared.mark.Mark.{Mark}
use Rattle.shown_texts.specs.Lines.{line}
use Rattle.shown_texts.specs.Marks.{mark_text}
use Rattle.feature_trees.specs.declared.value.Value.{Value}
use Rattle.feature_trees.specs.declared.version.Version.{Version}
use Rattle.feature_trees.specs.declared.version.Version.TheVariants.{First, Second}
use Rattle.feature_trees.specs.TreeText.{tree_lines, first_version_line}
use Rattle.tree_clauses.specs.declared.clause.Clause.{Clause}
use Rattle.tree_clauses.specs.ClauseText.{literal_content}
use Rattle.outcome_report.specs.declared.outcome_report.ReportEntry.{ReportEntry}
use Rattle.outcome_report.specs.declared.outcome_report.ReportPart.{ReportPart}
use Rattle.outcome_report.specs.declared.outcome_report.Report.{Report}
use Rattle.outcome_report.specs.OutcomeReport.{verdict_of}
use Rattle.dpkg_scenarios.specs.Names.{scenario_name}
use Rattle.report_text.specs.ReportText.{result_text, call_content}

-- a list of texts
abbrev pub texts_json : List (List ℕ) → Data
texts_json texts = array (items_of (map string texts))

-- the marks of a trace, with a space between each two
abbrev pub trace_json : List Mark → Data
trace_json trace = string (join_with_byte space (map mark_text trace))

-- a clause: its literals, and the numbers of its two variables
unfoldable pub clause_json : Version → Clause → Data
clause_json version clause =
    object
    (member (codes "literals") (texts_json (map (literal_content version) clause.literals))
    (member (codes "now") (number (unsigned clause.now.0))
    (member (codes "start") (number (unsigned clause.start.0)) no_members)))

-- the lines of a tree, as a version has them
abbrev pub version_lines : Version → Value → List (List ℕ)
version_lines First tree = map first_version_line (tree_lines tree)
version_lines Second tree = tree_lines tree

-- an outcome and its replay
unfoldable pub entry_json : Version → ReportEntry → Data
entry_json version entry =
    object
    (member (codes "after") (texts_json (version_lines version entry.replayed.after))
    (member (codes "calls") (texts_json (map call_content entry.replayed.calls))
    (member (codes "clause") (clause_json version entry.outcome.clause)
    (member (codes "confirmed") (boolean entry.confirmed)
    (member (codes "number") (number (unsigned entry.outcome.number))
    (member (codes "result") (string (result_text entry.outcome.ending))
    (member (codes "shown") (texts_json (version_lines version entry.outcome.shown))
    (member (codes "trace") (trace_json entry.outcome.trace) no_members))))))))

-- a scenario and its outcomes
unfoldable pub part_json : Version → ReportPart → Data
part_json version part =
    object
    (member (codes "name") (string (scenario_name part.scenario))
    (member (codes "outcomes") (array (items_of (map (entry_json version) part.entries))) no_members))

-- the number of a version
abbrev pub version_number : Version → ℕ
version_number First = 1
version_number Second = 2

-- the value of a report
unfoldable pub json_of : Version → Report → Data
json_of version report =
    object
    (member (codes "colis") (number (unsigned (version_number version)))
    (member (codes "scenarios") (array (items_of (map (part_json version) report.parts)))
    (member (codes "verdict") (number (unsigned (verdict_of report))) no_members)))

-- the JSON text of a report in a version: that of its value, without blanks, and a newline
abbrev pub version_text : Version → Report → List ℕ
version_text version report = line (compact_text (json_of version report))

-- the JSON text of a report
abbrev pub json_text : Report → List ℕ
json_text = version_text Second

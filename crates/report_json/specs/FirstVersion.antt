-- Which reports have a text of each version. In the first, one kind stood for the four special ones; it is read as a
-- pipe.
use Rattle.std.specs.Prelude.{Bool, true, ◌&&◌}
use Rattle.std.specs.List.{list_all}
use Rattle.feature_trees.specs.declared.version.Version.{Version}
use Rattle.feature_trees.specs.declared.version.Version.TheVariants.{First, Second}
use Rattle.feature_trees.specs.Readable.{only_pipes}
use Rattle.tree_clauses.specs.ClauseText.{is_first_clause}
use Rattle.outcome_report.specs.declared.outcome_report.ReportEntry.{ReportEntry}
use Rattle.outcome_report.specs.declared.outcome_report.ReportPart.{ReportPart}
use Rattle.outcome_report.specs.declared.outcome_report.Report.{Report}

-- each set of kinds in the clause has all four special ones or none, and each special thing in the trees is a pipe
abbrev pub is_first_entry : ReportEntry → Bool
is_first_entry entry =
    is_first_clause entry.outcome.clause && (only_pipes entry.outcome.shown && only_pipes entry.replayed.after)

-- so in each entry of a part
abbrev pub is_first_part : ReportPart → Bool
is_first_part part = list_all is_first_entry part.entries

-- so in each entry of a report
abbrev pub is_first : Report → Bool
is_first report = list_all is_first_part report.parts

-- a report has a text of a version
abbrev pub has_text : Version → Report → Bool
has_text First report = is_first report
has_text Second report = true

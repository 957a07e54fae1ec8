-- The scripts in a page, each as a table of its lines, folded behind what is counted of it.
use Rattle.std.specs.Prelude.{ℕ, ◌&&◌, ◌==◌, List, [], ◌++◌, length, codes, if◌then◌else◌}
use Rattle.std.specs.List.{flat_map}
use Rattle.std.specs.Fmt.{decimal}
use Rattle.dpkg_scenarios.specs.declared.scenario.ScriptKind.{ScriptKind}
use Rattle.dpkg_scenarios.specs.declared.scenario.ScriptKind.TheVariants.{Preinst, Postinst, Prerm, Postrm}
use Rattle.dpkg_scenarios.specs.declared.scenario.Side.{Side}
use Rattle.dpkg_scenarios.specs.declared.scenario.Side.TheVariants.{New, Old}
use Rattle.dpkg_scenarios.specs.Names.{scenario_name}
use Rattle.checker_input.specs.declared.sources.Sources.{Sources}
use Rattle.outcome_report.specs.declared.outcome_report.ReportPart.{ReportPart}
use Rattle.outcome_groups.specs.declared.group.Group.{Group}
use Rattle.html_texts.specs.Escaped.{html_text}
use Rattle.explanation.specs.Counting.{counted_text}
use Rattle.explanation.specs.LinesLeft.{is_alone, unreached_lines}
use Rattle.explanation.specs.Scripts.{script_file, script_text}
use Rattle.explanation_pages.specs.Joined.{three, four, five, seven}
use Rattle.explanation_pages.specs.declared.tables.Table.{Table}
use Rattle.explanation_pages.specs.CutLines.{lines_of}
use Rattle.explanation_pages.specs.Margins.{acting_count}
use Rattle.explanation_pages.specs.Rows.{row_html}
use Rattle.explanation_pages.specs.Tables.{ender_count, sites_of}

-- the name of a script's file
unfoldable pub file_html : Sources → Table → List ℕ
file_html sources table = html_text (script_file sources table.side table.script)

-- that a table is not folded, where outcomes fail or are undecided in it
abbrev pub open_words : ℕ → ℕ → List ℕ
open_words failing undecided = if failing == 0 && undecided == 0 then [] else codes " open"

-- how many outcomes have an act in the script, fail in it, and are undecided in it
unfoldable pub script_counts : ℕ → ℕ → ℕ → List ℕ
script_counts acting failing undecided =
    seven (codes ": acts of ") (counted_text acting) (codes "; here ") (decimal failing) (codes " fail, ")
    (decimal undecided) (codes " undecided")

-- whose script it is, where it is the old package's
abbrev pub side_words : Side → List ℕ
side_words New = codes ", "
side_words Old = codes ", of the old package: "

-- the first line of a script: of which scenario and which file it is, and what is counted of it
unfoldable pub summary_html : Sources → Table → ℕ → ℕ → ℕ → List ℕ
summary_html sources table acting failing undecided =
    five (codes "<summary>") (scenario_name table.scenario) (side_words table.side) (file_html sources table)
    (script_counts acting failing undecided)

-- what the columns of its lines say
unfoldable pub table_head : List ℕ
table_head =
    four (codes "</summary>\n<table><caption>Acts: of how many outcomes an act stands in the line. Ends: how many end there. ")
    (codes "A line where both are blank may be passed all the same; lines that no outcome reaches say so, where that is known.</caption>\n")
    (codes "<thead><tr><th scope=\"col\">Line</th><th scope=\"col\">Acts</th><th scope=\"col\">Ends</th>")
    (codes "<th scope=\"col\">Text</th></tr></thead>\n<tbody>\n")

-- what stands above its lines
unfoldable pub table_begin : Sources → Table → ℕ → ℕ → ℕ → List ℕ
table_begin sources table acting failing undecided =
    five (codes "<details class=\"script\"") (open_words failing undecided) (codes ">")
    (summary_html sources table acting failing undecided) table_head

-- its lines, by the bytes at which acts of each outcome are
unfoldable pub rows_html : Sources → Table → ReportPart → List Group → List (List ℕ) → List ℕ
rows_html sources table part groups sites =
    flat_map
    (row_html sources table part groups sites (unreached_lines sources part.entries table.side table.script))
    (lines_of (script_text sources table.side table.script))

-- a script, line by line
unfoldable pub table_html : Sources → Table → ReportPart → List Group → List ℕ
table_html sources table part groups =
    let sites = sites_of sources table part.entries in
    let failing = ender_count sources table 1 groups in
    let undecided = ender_count sources table 2 groups in
    three (table_begin sources table (acting_count sites) failing undecided) (rows_html sources table part groups sites)
    (codes "</tbody></table></details>\n")

-- a script of one of the packages, where there is one
unfoldable pub table_if : Sources → ReportPart → List Group → Side → ScriptKind → List ℕ
table_if sources part groups side script =
    if length (script_text sources side script) == 0 then []
    else table_html sources (record { scenario = part.scenario; side = side; script = script }) part groups

-- the scripts of one of the packages
unfoldable pub side_tables : Sources → ReportPart → List Group → Side → List ℕ
side_tables sources part groups side =
    table_if sources part groups side Preinst
    ++ table_if sources part groups side Postinst
    ++ table_if sources part groups side Prerm
    ++ table_if sources part groups side Postrm

-- all scripts
unfoldable pub all_tables : Sources → ReportPart → List Group → List ℕ
all_tables sources part groups =
    if is_alone sources.old_texts then side_tables sources part groups New
    else side_tables sources part groups New ++ side_tables sources part groups Old

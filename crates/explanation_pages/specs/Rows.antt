-- The lines of a script in a table: of how many outcomes an act stands in each, which end there, and what is written in
-- it.
use Rattle.std.specs.Prelude.{ℕ, Bool, false, ◌==◌, List, [], ◌++◌, length, codes, Option, Some, None, if◌then◌else◌}
use Rattle.std.specs.List.{flat_map}
use Rattle.std.specs.Fmt.{decimal}
use Rattle.dpkg_scenarios.specs.Verdicts.{ending_verdict}
use Rattle.checker_input.specs.declared.sources.Sources.{Sources}
use Rattle.outcome_report.specs.declared.outcome_report.ReportPart.{ReportPart}
use Rattle.outcome_groups.specs.declared.group.Group.{Group}
use Rattle.script_places.specs.declared.reach.Lines.{Lines}
use Rattle.html_texts.specs.Escaped.{html_text}
use Rattle.explanation_pages.specs.Joined.{three, seven}
use Rattle.explanation_pages.specs.declared.cut_lines.Line.{Line}
use Rattle.explanation_pages.specs.declared.tables.Table.{Table}
use Rattle.explanation_pages.specs.Anchors.{group_anchor, row_anchor}
use Rattle.explanation_pages.specs.Details.{group_class}
use Rattle.explanation_pages.specs.Margins.{act_count, is_left, is_on}
use Rattle.explanation_pages.specs.Tables.{site_in}

-- ---- the number of a line

-- the class of a line, as an attribute: in some lines outcomes have an act, and some are not reached
abbrev pub row_class : Bool → ℕ → List ℕ
row_class left count =
    if left then codes " class=\"left\"" else (if count == 0 then [] else codes " class=\"acts\"")

-- the number of a line, which has a name
unfoldable pub row_begin : Table → ℕ → List ℕ → List ℕ
row_begin table number class =
    seven (codes "<tr") class (codes " id=\"") (row_anchor table number) (codes "\"><th scope=\"row\">")
    (decimal number) (codes "</th>")

-- ---- of how many outcomes an act stands there

-- a number that is not 0
unfoldable pub count_words : ℕ → List ℕ
count_words count = if count == 0 then [] else decimal count

-- of how many outcomes an act stands in a line
unfoldable pub count_cell : ℕ → List ℕ
count_cell count =
    three (codes "<td>") (count_words count) (codes "</td>")

-- ---- which outcomes end there

-- how the outcomes of a verdict are counted
abbrev pub verdict_count : ℕ → List ℕ
verdict_count verdict =
    if verdict == 0 then codes " end well"
    else (if verdict == 1 then codes " fail" else codes " undecided")

-- a link to a group, with how many outcomes there are, and how they end
unfoldable pub end_link : ReportPart → Group → List ℕ
end_link part group =
    codes "<a class=\"" ++ group_class group ++ codes "\" href=\"#" ++ group_anchor part.scenario part.entries group
    ++ codes "\">" ++ decimal (length group.members) ++ verdict_count (ending_verdict group.end.ending) ++ codes "</a> "

-- a byte of a script stands in a line, where there is one
abbrev pub site_is_on : Line → Option ℕ → Bool
site_is_on line None = false
site_is_on line (Some at) = is_on line at

-- a link to a group, if its outcomes end in this line
unfoldable pub end_if : Sources → Table → ReportPart → Line → Group → List ℕ
end_if sources table part line group =
    if site_is_on line (site_in sources table group.end.site) then end_link part group else []

-- that no outcome reaches a line, where that is known
abbrev pub left_words : Bool → List ℕ
left_words left = if left then codes "not reached" else []

-- which outcomes end in a line
unfoldable pub ends_cell : Sources → Table → ReportPart → List Group → Bool → Line → List ℕ
ends_cell sources table part groups left line =
    codes "<td>" ++ left_words left ++ flat_map (end_if sources table part line) groups ++ codes "</td>"

-- ---- the line

-- what is written in it
unfoldable pub text_cell : Line → List ℕ
text_cell line =
    three (codes "<td>") (html_text line.text) (codes "</td></tr>\n")

-- the line, by the bytes at which acts of each outcome are, and by the lines that none reaches
unfoldable pub row_html : Sources → Table → ReportPart → List Group → List (List ℕ) → Option Lines → Line → List ℕ
row_html sources table part groups sites left line =
    let count = act_count line sites in
    row_begin table line.number (row_class (is_left left line.number) count)
    ++ count_cell count
    ++ ends_cell sources table part groups (is_left left line.number) line
    ++ text_cell line

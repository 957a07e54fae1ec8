-- A group in a page: its first line, and folded behind it its places, each with the command line that shows an outcome
-- whole, and all that `explain` says of it.
use Rattle.std.specs.Prelude.{ℕ, Bool, ◌&&◌, ◌||◌, ◌==◌, List, [], ◌++◌, length, codes, Option, if◌then◌else◌}
use Rattle.std.specs.List.{flat_map}
use Rattle.feature_trees.specs.declared.value.Value.{Value}
use Rattle.dpkg_scenarios.specs.declared.scenario.Scenario.{Scenario}
use Rattle.dpkg_scenarios.specs.Verdicts.{ending_verdict}
use Rattle.checker_input.specs.declared.sources.Sources.{Sources}
use Rattle.scenario_runs.specs.declared.replayed.Replayed.{Replayed}
use Rattle.outcome_report.specs.declared.outcome_report.ReportPart.{ReportPart}
use Rattle.outcome_groups.specs.declared.group.Group.{Group}
use Rattle.outcome_groups.specs.Ends.{same_end}
use Rattle.script_places.specs.Positions.{position_of}
use Rattle.html_texts.specs.Escaped.{html_text}
use Rattle.explanation.specs.declared.spots.Spot.{Spot}
use Rattle.explanation.specs.declared.spots.Spot.TheVariants.{InScript, InFiles, Nowhere}
use Rattle.explanation.specs.AlikeGroups.{is_first, is_further}
use Rattle.explanation.specs.Counting.{counted_text}
use Rattle.explanation.specs.GroupTexts.{group_title, group_body, has_verdict}
use Rattle.explanation.specs.Scripts.{script_text}
use Rattle.explanation.specs.Spots.{spot_of, spot_text}
use Rattle.explanation_pages.specs.Joined.{two, three, five, seven}
use Rattle.explanation_pages.specs.Anchors.{group_anchor, group_number, row_anchor}
use Rattle.explanation_pages.specs.Commands.{command_html, outcome_line}
use Rattle.explanation_pages.specs.ShownLines.{pre_html}
use Rattle.explanation_pages.specs.Tables.{table_of}

-- the class of what has this verdict
abbrev pub verdict_class : ℕ → List ℕ
verdict_class verdict =
    if verdict == 0 then codes "well"
    else (if verdict == 1 then codes "failing" else codes "undecided")

-- the class of a group
abbrev pub group_class : Group → List ℕ
group_class group = verdict_class (ending_verdict group.end.ending)

-- ---- the places of a group

-- a link to the line of a place in its table, where it is in a script
abbrev pub row_link : Sources → Scenario → Spot → List ℕ
row_link sources scenario (InScript side script at) =
    codes " href=\"#"
    ++ row_anchor (table_of sources scenario side script) (position_of (script_text sources side script) at).line
    ++ codes "\""
row_link sources scenario (InFiles work at) = []
row_link sources scenario Nowhere = []

-- where a group's outcomes end, as a link that has the group's name
unfoldable pub place_link : Sources → ReportPart → Group → List ℕ
place_link sources part group =
    let spot = spot_of part.scenario group.end.site in
    codes "<a id=\"" ++ group_anchor part.scenario part.entries group ++ codes "\""
    ++ row_link sources part.scenario spot ++ codes ">" ++ html_text (spot_text sources spot) ++ codes "</a>"

-- the command line that shows the first outcome of a group, by which the group is named
unfoldable pub first_command : Sources → ℕ → ReportPart → Group → List ℕ
first_command sources turns part group =
    command_html (outcome_line sources turns part.scenario (group_number part.entries group))

-- the place of a group
unfoldable pub place_html : Sources → ℕ → ReportPart → Group → List ℕ
place_html sources turns part group =
    five (codes "<li>") (place_link sources part group) (codes ": ") (first_command sources turns part group)
    (codes "</li>\n")

-- a group is told where this one is: it is this one, or is told together with it
abbrev pub is_told_in : Sources → Scenario → Group → Group → Bool
is_told_in sources scenario group other = same_end group.end other.end || is_further sources scenario group other

-- the place of a group, if it is told where this one is
unfoldable pub place_if : Sources → ℕ → ReportPart → Group → Group → List ℕ
place_if sources turns part group other =
    if is_told_in sources part.scenario group other then place_html sources turns part other else []

-- ---- a group

-- its first line
unfoldable pub title_html : Sources → Scenario → Group → List ℕ
title_html sources scenario group = html_text (group_title sources scenario group)

-- what stands below it
unfoldable pub body_html : Sources → (Value → Option Replayed) → ReportPart → List Group → Group → List ℕ
body_html sources run part groups group = pre_html (group_body sources run part groups group)

-- the outcomes of a group, by their places in the part, if it is told together with this one
abbrev pub members_if : Sources → Scenario → Group → Group → List ℕ
members_if sources scenario group other = if is_further sources scenario group other then other.members else []

-- how many outcomes end at the further places
unfoldable pub further_words : ℕ → List ℕ
further_words count = if count == 0 then [] else two (codes "and the same elsewhere: ") (counted_text count)

-- its first line, with what is told together
unfoldable pub heading_html : Sources → Scenario → List Group → Group → List ℕ
heading_html sources scenario groups group =
    title_html sources scenario group
    ++ further_words (length (flat_map (members_if sources scenario group) groups))

-- its first line, behind which the rest is folded, and the places of it
unfoldable pub details_head : Sources → ℕ → ReportPart → List Group → Group → List ℕ
details_head sources turns part groups group =
    seven (codes "<details class=\"") (group_class group) (codes "\"><summary>")
    (heading_html sources part.scenario groups group)
    (codes "</summary>\n<p>Places where it ends so, each with the command line that shows its first outcome:</p>\n<ul>\n")
    (flat_map (place_if sources turns part group) groups) (codes "</ul>\n")

-- the group
unfoldable pub group_html : Sources → ℕ → (Value → Option Replayed) → ReportPart → List Group → Group → List ℕ
group_html sources turns run part groups group =
    three (details_head sources turns part groups group) (body_html sources run part groups group) (codes "</details>\n")

-- a group, if it has this verdict, and is not told together with one that stands before it
unfoldable pub details_if : Sources → ℕ → (Value → Option Replayed) → ReportPart → ℕ → List Group → Group → List ℕ
details_if sources turns run part verdict groups group =
    if has_verdict verdict group && is_first sources part.scenario groups group
    then group_html sources turns run part groups group else []

-- all groups, failures first
unfoldable pub all_details : Sources → ℕ → (Value → Option Replayed) → ReportPart → List Group → List ℕ
all_details sources turns run part groups =
    flat_map (details_if sources turns run part 1 groups) groups
    ++ flat_map (details_if sources turns run part 2 groups) groups
    ++ flat_map (details_if sources turns run part 0 groups) groups

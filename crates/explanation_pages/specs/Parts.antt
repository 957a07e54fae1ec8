-- What a page says of a scenario: of the part of a report on it, or of why there is none.
use Rattle.std.specs.Prelude.{ℕ, List, ◌++◌, codes, Option}
use Rattle.feature_trees.specs.declared.value.Value.{Value}
use Rattle.dpkg_scenarios.specs.declared.scenario.Scenario.{Scenario}
use Rattle.dpkg_scenarios.specs.Names.{scenario_name}
use Rattle.command_words.specs.declared.request.View.TheVariants.{Text}
use Rattle.checker_input.specs.declared.package.Packages.{Packages}
use Rattle.checker_input.specs.declared.sources.Sources.{Sources}
use Rattle.scenario_runs.specs.declared.replayed.Replayed.{Replayed}
use Rattle.outcome_report.specs.declared.outcome_report.ReportEntry.{ReportEntry}
use Rattle.outcome_report.specs.declared.outcome_report.ReportPart.{ReportPart}
use Rattle.outcome_groups.specs.declared.group.Group.{Group}
use Rattle.outcome_groups.specs.Groups.{groups_of}
use Rattle.html_texts.specs.Escaped.{html_text}
use Rattle.explanation.specs.Heads.{counts_line, verdict_words}
use Rattle.explanation.specs.Sections.{part_verdict, no_start_text, over_text}
use Rattle.explanation_pages.specs.Joined.{three, five, nine}
use Rattle.explanation_pages.specs.Details.{all_details, verdict_class}
use Rattle.explanation_pages.specs.Scripts.{all_tables}
use Rattle.explanation_pages.specs.ShownLines.{pre_html}

-- the heading of a scenario, which ends in these words
unfoldable pub section_begin : Scenario → List ℕ → List ℕ → List ℕ
section_begin scenario class words =
    nine (codes "<section id=\"") (scenario_name scenario) (codes "\">\n<h2 class=\"") class (codes "\">")
    (scenario_name scenario) (codes ": ") words (codes "</h2>\n")

-- how many outcomes there are, and how many end in each way
unfoldable pub counts_html : List ReportEntry → List ℕ
counts_html entries = codes "<p>" ++ html_text (counts_line entries) ++ codes "</p>\n"

-- the heading of a part
unfoldable pub part_begin : ReportPart → List ℕ
part_begin part =
    section_begin part.scenario (verdict_class (part_verdict part)) (verdict_words (part_verdict part))

-- all that is said of a part, whose outcomes are in these groups
unfoldable pub part_html : Sources → ℕ → (Value → Option Replayed) → ReportPart → List Group → List ℕ
part_html sources turns run part groups =
    five (part_begin part) (counts_html part.entries) (all_details sources turns run part groups)
    (all_tables sources part groups) (codes "</section>\n")

-- what is said of a part, whose runs are these, with so many turns of loops
abbrev pub page_part : Sources → ℕ → (Value → Option Replayed) → ReportPart → List ℕ
page_part sources turns run part = part_html sources turns run part (groups_of part)

-- that a scenario was not examined, and why
unfoldable pub unexamined_html : Scenario → List ℕ → List ℕ
unexamined_html scenario said =
    three (section_begin scenario (codes "undecided") (codes "NOT EXAMINED")) (pre_html said) (codes "</section>\n")

-- that a scenario has no start tree
abbrev pub page_no_start : Sources → Packages → Scenario → List ℕ
page_no_start sources packages scenario =
    unexamined_html scenario (no_start_text sources packages Text scenario)

-- that the runs of a scenario have more different traces than the limit
abbrev pub page_over : Sources → Packages → Scenario → ℕ → List ℕ
page_over sources packages scenario limit =
    unexamined_html scenario (over_text sources packages Text scenario limit)

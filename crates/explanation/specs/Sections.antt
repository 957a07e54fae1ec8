-- What is said of a scenario: of the part of a report on it, or of why there is none.
use Rattle.std.specs.Prelude.{ℕ, Bool, true, false, List, [], ◌++◌, codes, Option, if◌then◌else◌}
use Rattle.std.specs.List.{flat_map}
use Rattle.shown_texts.specs.Lines.{line}
use Rattle.feature_trees.specs.declared.value.Value.{Value}
use Rattle.dpkg_scenarios.specs.declared.scenario.Scenario.{Scenario}
use Rattle.dpkg_scenarios.specs.Verdicts.{joint_verdict}
use Rattle.command_words.specs.declared.request.View.{View}
use Rattle.command_words.specs.declared.request.View.TheVariants.{Text, Places, Html, Outcome}
use Rattle.checker_input.specs.declared.package.Packages.{Packages}
use Rattle.checker_input.specs.declared.sources.Sources.{Sources}
use Rattle.scenario_runs.specs.declared.replayed.Replayed.{Replayed}
use Rattle.outcome_report.specs.declared.outcome_report.ReportPart.{ReportPart}
use Rattle.outcome_report.specs.OutcomeReport.{part_has}
use Rattle.outcome_groups.specs.declared.group.Group.{Group}
use Rattle.outcome_groups.specs.Groups.{groups_of}
use Rattle.explanation.specs.Counting.{numbered_text}
use Rattle.explanation.specs.GroupTexts.{if_verdict, place_unless}
use Rattle.explanation.specs.Heads.{counts_line, head_line, verdict_words}
use Rattle.explanation.specs.LinesLeft.{unreached_text}
use Rattle.explanation.specs.OutcomeTexts.{outcome_text}

-- what the outcomes of a part make of the status
abbrev pub part_verdict : ReportPart → ℕ
part_verdict part = joint_verdict (part_has 1 part) (part_has 2 part)

-- what is said of groups: failures first, then what is undecided, then what is done
unfoldable pub all_groups : Sources → (Value → Option Replayed) → ReportPart → List Group → List ℕ
all_groups sources run part groups =
    flat_map (if_verdict sources run part 1 groups) groups
    ++ flat_map (if_verdict sources run part 2 groups) groups
    ++ flat_map (if_verdict sources run part 0 groups) groups

-- all that is said of a part, whose outcomes are in these groups, and last the lines of scripts that no outcome reaches
unfoldable pub whole_text : Sources → Packages → (Value → Option Replayed) → ReportPart → List Group → List ℕ
whole_text sources packages run part groups =
    head_line sources packages part.scenario (verdict_words (part_verdict part))
    ++ counts_line part.entries
    ++ all_groups sources run part groups
    ++ unreached_text sources part.scenario part.entries
    ++ line []

-- one outcome, behind the first line of its scenario
unfoldable pub one_text : Sources → Packages → (Value → Option Replayed) → ReportPart → ℕ → List ℕ
one_text sources packages run part number =
    head_line sources packages part.scenario (verdict_words (part_verdict part))
    ++ outcome_text sources run part number
    ++ line []

-- what is said of a part, whose runs are these: all, which a page shows too; a line for each place alone; or one outcome
abbrev pub part_text : Sources → Packages → View → (Value → Option Replayed) → ReportPart → List ℕ
part_text sources packages Text run part = whole_text sources packages run part (groups_of part)
part_text sources packages Html run part = whole_text sources packages run part (groups_of part)
part_text sources packages Places run part = flat_map (place_unless sources part.scenario) (groups_of part)
part_text sources packages (Outcome number) run part = one_text sources packages run part number

-- a view is of places alone
abbrev pub is_places : View → Bool
is_places Text = false
is_places Places = true
is_places Html = false
is_places (Outcome number) = false

-- that a scenario was not examined, and why
unfoldable pub unexamined_text : Sources → Packages → View → Scenario → List ℕ → List ℕ
unexamined_text sources packages view scenario why =
    if is_places view then [] else head_line sources packages scenario (codes "NOT EXAMINED") ++ line why

-- that a scenario has no start tree
abbrev pub no_start_text : Sources → Packages → View → Scenario → List ℕ
no_start_text sources packages view scenario =
    unexamined_text sources packages view scenario
    (line (codes "No tree of files has what the premises say and the package needs."))

-- that the runs of a scenario have more different traces than the limit
abbrev pub over_text : Sources → Packages → View → Scenario → ℕ → List ℕ
over_text sources packages view scenario limit =
    unexamined_text sources packages view scenario
    (numbered_text (codes "There are more than ") limit
    (line (codes " outcomes. More are looked at with --limit; a base that says more leaves fewer.")))

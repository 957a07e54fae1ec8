-- What is said of one outcome of a scenario, by its number.
use Rattle.std.specs.Prelude.{ℕ, suc, ◌==◌, List, [], ◌∷◌, ◌++◌, length, codes, Option, Some, None}
use Rattle.std.specs.List.{find, flat_map}
use Rattle.std.specs.Fmt.{decimal}
use Rattle.script_names.specs.declared.mark.Mark.{Mark}
use Rattle.shown_texts.specs.Lines.{line}
use Rattle.feature_trees.specs.declared.value.Value.{Value}
use Rattle.dpkg_scenarios.specs.declared.scenario.Scenario.{Scenario}
use Rattle.checker_input.specs.declared.sources.Sources.{Sources}
use Rattle.scenario_runs.specs.declared.call.ScriptCall.{ScriptCall}
use Rattle.scenario_runs.specs.declared.replayed.Replayed.{Replayed}
use Rattle.outcome_report.specs.declared.outcome_report.ReportEntry.{ReportEntry}
use Rattle.outcome_report.specs.declared.outcome_report.ReportPart.{ReportPart}
use Rattle.outcome_groups.specs.declared.ends.GroupEnd.{GroupEnd}
use Rattle.outcome_groups.specs.Ends.{end_of}
use Rattle.utility_calls.specs.declared.deeds.Deed.{Deed}
use Rattle.script_places.specs.MarkedDeeds.{deed_of_mark}
use Rattle.script_places.specs.Positions.{position_of}
use Rattle.script_places.specs.StepWords.{script_words, work_words}
use Rattle.tree_pictures.specs.Pictures.{picture, whole_tree}
use Rattle.tree_pictures.specs.ShellLines.{shell_lines}
use Rattle.explanation.specs.declared.spots.Spot.{Spot}
use Rattle.explanation.specs.declared.spots.Spot.TheVariants.{InScript, InFiles, Nowhere}
use Rattle.explanation.specs.CommandWords.{word_at}
use Rattle.explanation.specs.Counting.{counted_text, numbered_text}
use Rattle.explanation.specs.CommandWords.{word_at}
use Rattle.explanation.specs.Courses.{call_line, deed_text}
use Rattle.explanation.specs.GroupTexts.{shown_run, deeds_of, ending_words, settling_line}
use Rattle.explanation.specs.Scripts.{script_text}
use Rattle.explanation.specs.Spots.{spot_of, spot_text, written_text}

-- the outcome of a number, where there is one
abbrev pub numbered : ℕ → List ReportEntry → Option ReportEntry
numbered number entries = find (λ entry. entry.outcome.number == number) entries

-- how many outcomes there are, as the end of a line
unfoldable pub count_line : List ReportEntry → List ℕ
count_line entries = line (counted_text (length entries))

-- that there is no outcome of a number
abbrev pub no_outcome : ℕ → List ReportEntry → List ℕ
no_outcome number entries =
    numbered_text (codes "There is no outcome ") number (codes " here: there are ") ++ count_line entries

-- ---- what is done

-- where: in a script by its line, else in a step of dpkg
abbrev pub where_words : Sources → Spot → List ℕ
where_words sources (InScript side script at) =
    script_words side script ++ codes ", line " ++ decimal (position_of (script_text sources side script) at).line ++ codes ": "
where_words sources (InFiles work at) = work_words work ++ codes ": "
where_words sources Nowhere = []

-- an act, by its mark
unfoldable pub deed_line : Sources → Scenario → Mark → Deed → List ℕ
deed_line sources scenario mark deed =
    let spot = spot_of scenario (Some mark.site) in
    line (codes "      " ++ where_words sources spot ++ deed_text (word_at sources spot) deed mark.row)

-- the same, where the deed is known
unfoldable pub mark_line : Sources → Scenario → Mark → Option Deed → List ℕ
mark_line sources scenario mark None = []
mark_line sources scenario mark (Some deed) = deed_line sources scenario mark deed

-- all acts, by the marks of a run's trace behind the first n, and by the run's deeds
abbrev pub all_acts : Sources → Scenario → List Deed → ℕ → List Mark → List ℕ
all_acts sources scenario deeds n [] = []
all_acts sources scenario deeds n (mark ∷ trace) =
    mark_line sources scenario mark (deed_of_mark deeds n) ++ all_acts sources scenario deeds (suc n) trace

-- the calls behind a title
unfoldable pub calls_text : List ℕ → List ScriptCall → List ℕ
calls_text title calls = title ++ flat_map call_line calls

-- the acts behind a title
unfoldable pub acts_behind : List ℕ → Sources → Scenario → List Mark → List Deed → List ℕ
acts_behind title sources scenario trace deeds = title ++ all_acts sources scenario deeds 0 trace

-- the calls and the acts
abbrev pub course_text : Sources → Scenario → ReportEntry → List Deed → List ℕ
course_text sources scenario entry deeds =
    calls_text (line (codes "  The scripts that are called:")) entry.replayed.calls
    ++ acts_behind (line (codes "  What is done:")) sources scenario entry.outcome.trace deeds

-- ---- the trees

-- what the run makes of the tree, both trees, and how the first is made
unfoldable pub trees_text : Value → Value → List ℕ
trees_text before after =
    line (codes "  What the run makes of the tree (- taken away, ~ changed, + made):")
    ++ picture [] before after
    ++ line (codes "  The tree before:")
    ++ whole_tree before
    ++ line (codes "  The tree behind:")
    ++ whole_tree after
    ++ line (codes "  Shell lines that make the tree before in an empty folder, whose path is in root:")
    ++ shell_lines before

-- ---- an outcome

-- one outcome, by its end: where it ends and how, what is written there, what would decide it, each act, and the trees
unfoldable pub ended_text : Sources → (Value → Option Replayed) → Scenario → GroupEnd → ReportEntry → List ℕ
ended_text sources run scenario end entry =
    let spot = spot_of scenario end.site in
    line (spot_text sources spot ++ ending_words end.ending)
    ++ written_text sources spot
    ++ settling_line (word_at sources spot) end.ending
    ++ course_text sources scenario entry (deeds_of (shown_run run entry.outcome.shown))
    ++ trees_text entry.outcome.shown entry.replayed.after

-- the same, where there is an outcome of the number
abbrev pub outcome_of : Sources → (Value → Option Replayed) → ReportPart → ℕ → Option ReportEntry → List ℕ
outcome_of sources run part number None = no_outcome number part.entries
outcome_of sources run part number (Some entry) = ended_text sources run part.scenario (end_of part.scenario entry) entry

-- what is said of the outcome of a number
abbrev pub outcome_text : Sources → (Value → Option Replayed) → ReportPart → ℕ → List ℕ
outcome_text sources run part number = outcome_of sources run part number (numbered number part.entries)

-- What is said of the outcomes that end at one place.
use Rattle.std.specs.Prelude.{ℕ, Bool, true, false, ◌&&◌, ◌==◌, nat_le, List, [], ◌∷◌, ◌++◌, length, slice_get, codes, Option, Some, None}
use Rattle.std.specs.Prelude.{if◌then◌else◌}
use Rattle.std.specs.List.{flat_map}
use Rattle.script_names.specs.declared.mark.Site.{Site}
use Rattle.script_names.specs.declared.reason.Reason.{Reason}
use Rattle.script_names.specs.declared.reason.Reason.TheVariants as reason
use Rattle.shown_texts.specs.Lines.{line}
use Rattle.shown_texts.specs.Show.{show}
use Rattle.feature_trees.specs.declared.value.Value.{Value}
use Rattle.feature_trees.specs.declared.value.Value.TheVariants as value
use Rattle.utility_calls.specs.declared.deeds.Deed.{Deed}
use Rattle.dpkg_scenarios.specs.declared.scenario.Scenario.{Scenario}
use Rattle.dpkg_scenarios.specs.Verdicts.{ending_verdict}
use Rattle.dpkg_scenarios.specs.declared.scenario.Ending.{Ending}
use Rattle.dpkg_scenarios.specs.declared.scenario.Ending.TheVariants.{Done, Failed, Incomplete, Bound}
use Rattle.checker_input.specs.declared.sources.Sources.{Sources}
use Rattle.scenario_runs.specs.declared.replayed.Replayed.{Replayed}
use Rattle.outcome_report.specs.declared.outcome_report.ReportEntry.{ReportEntry}
use Rattle.outcome_report.specs.declared.outcome_report.ReportPart.{ReportPart}
use Rattle.outcome_groups.specs.declared.group.FactBox.{FactBox}
use Rattle.tree_pictures.specs.Placed.{tree_places}
use Rattle.tree_pictures.specs.ShellLines.{shell_lines}
use Rattle.outcome_groups.specs.declared.group.Group.{Group}
use Rattle.script_places.specs.ReasonWords.{reason_words, settling_words}
use Rattle.script_places.specs.StepWords.{scenario_words, state_words}
use Rattle.explanation.specs.declared.spots.Spot.{Spot}
use Rattle.explanation.specs.AlikeGroups.{further_texts, is_first, word_of}
use Rattle.explanation.specs.Changes.{changed_text}
use Rattle.explanation.specs.CommandWords.{is_kept_word, is_plain_name}
use Rattle.explanation.specs.Counting.{counted_text, numbered_text}
use Rattle.explanation.specs.Courses.{call_line, acts_text}
use Rattle.explanation.specs.Spots.{spot_of, spot_text, written_text}
use Rattle.explanation.specs.ToldTexts.{told_text}

-- ---- the run from the tree that an outcome shows

-- the run from a tree that is shown, which is a directory
abbrev pub shown_run : (Value → Option Replayed) → Value → Option Replayed
shown_run run (value.Dir entries) = run (value.Dir entries)
shown_run run value.Absent = None
shown_run run value.Reg = None
shown_run run (value.Link target) = None
shown_run run (value.Special kind) = None

-- the deeds of a run
abbrev pub deeds_of : Option Replayed → List Deed
deeds_of None = []
deeds_of (Some replayed) = replayed.deeds

-- ---- how outcomes end

-- whether well, with failure, or undecided
unfoldable pub way_words : Ending → List ℕ
way_words (Done state) = codes ": ends well; the package is left "
way_words (Failed state) = codes ": failure; the package is left "
way_words (Incomplete reason site) = codes ": undecided: "
way_words (Bound site) = codes ": undecided: "

-- the state in which the package is left, or why that is undecided
unfoldable pub why_words : Ending → List ℕ
why_words (Done state) = state_words state
why_words (Failed state) = state_words state
why_words (Incomplete reason site) = reason_words reason
why_words (Bound site) = codes "a loop takes more turns than it is given"

-- both, in words
abbrev pub ending_words : Ending → List ℕ
ending_words ending = way_words ending ++ why_words ending

-- the first line: where outcomes end, how, and how many there are
unfoldable pub group_head : Sources → Spot → Ending → ℕ → List ℕ
group_head sources spot ending count =
    line (spot_text sources spot ++ ending_words ending ++ codes " (" ++ counted_text count ++ codes ")")

-- a command has no meaning here
abbrev pub is_call : Reason → Bool
is_call reason.Call = true
is_call other = false

-- a base line that says how the calls of a command end
unfoldable pub call_lines : List ℕ → List ℕ
call_lines name =
    codes "a base line `call " ++ name ++ codes " ok` or `call " ++ name
    ++ codes " fails`, where it is true and the command changes no file that matters"

-- that no base line says that of a command, and which lines may help
unfoldable pub kept_lines : List ℕ → List ℕ
kept_lines name =
    codes "calls of " ++ show name
    ++ codes " cannot be stated (docs/FORMATS.md has the uses with a meaning); base lines on what stands at the places above may keep runs from here"

-- what would decide a place of which a command without a meaning begins with this word
unfoldable pub call_settled : List ℕ → List ℕ
call_settled word =
    if is_plain_name word then call_lines word
    else (if is_kept_word word then kept_lines word else settling_words reason.Call)

-- what would decide a place whose command begins with this word
unfoldable pub reason_settled : List ℕ → Reason → List ℕ
reason_settled word reason = if is_call reason then call_settled word else settling_words reason

-- what would decide it
unfoldable pub settled_by : List ℕ → Ending → List ℕ
settled_by word (Done state) = []
settled_by word (Failed state) = []
settled_by word (Incomplete reason site) = reason_settled word reason
settled_by word (Bound site) = codes "more turns (--turns)"

-- something is to be decided
abbrev pub is_open : Ending → Bool
is_open ending = ending_verdict ending == 2

-- what would decide it, as a line behind a title
unfoldable pub titled_settled : List ℕ → List ℕ → Ending → List ℕ
titled_settled title word ending = title ++ settled_by word ending ++ line []

-- the same, with its title
abbrev pub settled_text : List ℕ → Ending → List ℕ
settled_text word ending = titled_settled (codes "  What would decide it: ") word ending

-- the same, unless nothing is to be decided
unfoldable pub settling_line : List ℕ → Ending → List ℕ
settling_line word ending = if is_open ending then settled_text word ending else []

-- ---- how the run comes there

-- what is done in the step of a place, where it has a site
unfoldable pub way_text : Sources → Spot → Option Site → ReportEntry → List Deed → List ℕ
way_text sources spot None entry deeds = []
way_text sources spot (Some site) entry deeds = acts_text sources spot site deeds 0 entry.outcome.trace

-- the line before the calls, by the outcome's number
unfoldable pub way_head : ℕ → List ℕ
way_head number = numbered_text (codes "  How the run comes there (outcome ") number (line (codes "):"))

-- what a run makes of a tree, with the places marked that decide, by these boxes
unfoldable pub change_list : List FactBox → Value → Value → List ℕ
change_list boxes before after =
    changed_text (line (codes "  One such system, and what the run makes of it (- taken away, ~ changed, + made, <-- told above):"))
    boxes before after

-- how the whole of an outcome is shown, by its number
unfoldable pub whole_hint : ℕ → List ℕ
whole_hint number =
    numbered_text (codes "      (each place, and each act: --outcome ") number (line (codes ")"))

-- the shell lines that make a tree, behind a title
unfoldable pub titled_lines : List ℕ → Value → List ℕ
titled_lines title tree = title ++ shell_lines tree

-- the shell lines that make a tree
unfoldable pub making_lines : Value → List ℕ
making_lines tree = titled_lines (line (codes "  Shell lines that make it in an empty folder, whose path is in root:")) tree

-- how these lines are shown, by the outcome's number
unfoldable pub making_hint : ℕ → List ℕ
making_hint number = numbered_text (codes "  Shell lines that make it: --outcome ") number (line [])

-- a tree has so few places below its root that the lines are read at a glance
abbrev pub is_small : Value → Bool
is_small tree = nat_le (length (tree_places tree)) 40

-- the shell lines that make a small tree; of a larger one, how they are shown
unfoldable pub making_text : ℕ → Value → List ℕ
making_text number tree = if is_small tree then making_lines tree else making_hint number

-- how the run comes to a place, from the tree that an outcome shows, and what it changes of that
unfoldable pub example_text : Sources → Spot → Option Site → List FactBox → ReportEntry → List Deed → List ℕ
example_text sources spot site boxes entry deeds =
    way_head entry.outcome.number
    ++ flat_map call_line entry.replayed.calls
    ++ way_text sources spot site entry deeds
    ++ change_list boxes entry.outcome.shown entry.replayed.after
    ++ whole_hint entry.outcome.number
    ++ making_text entry.outcome.number entry.outcome.shown

-- how one outcome comes to a place
abbrev pub story_text : Sources → (Value → Option Replayed) → Spot → Option Site → List FactBox → ReportEntry → List ℕ
story_text sources run spot site boxes entry =
    example_text sources spot site boxes entry (deeds_of (shown_run run entry.outcome.shown))

-- ---- a group

-- how a scenario ends in the outcomes of a group: 1 where they failed, 2 where they are undecided, else 0
abbrev pub has_verdict : ℕ → Group → Bool
has_verdict verdict group = ending_verdict group.end.ending == verdict

-- the outcome at the first of these places
abbrev pub first_entry : List ℕ → List ReportEntry → Option ReportEntry
first_entry [] entries = None
first_entry (first ∷ members) entries = slice_get entries first

-- the same, if there is one
abbrev pub story_of : Sources → (Value → Option Replayed) → Spot → Option Site → List FactBox → Option ReportEntry → List ℕ
story_of sources run spot site boxes None = []
story_of sources run spot site boxes (Some entry) = story_text sources run spot site boxes entry

-- how the first outcome of a group comes to its place; of outcomes that are done nothing
unfoldable pub first_text : Sources → (Value → Option Replayed) → Spot → Group → List ReportEntry → List ℕ
first_text sources run spot group entries =
    if has_verdict 0 group then []
    else story_of sources run spot group.end.site group.boxes (first_entry group.members entries)

-- the first line of a group
abbrev pub group_title : Sources → Scenario → Group → List ℕ
group_title sources scenario group =
    group_head sources (spot_of scenario group.end.site) group.end.ending (length group.members)

-- what stands below it: what is written there, on which systems, what would decide it, how the run comes there, and the
-- other places of its sort
unfoldable pub group_body : Sources → (Value → Option Replayed) → ReportPart → List Group → Group → List ℕ
group_body sources run part groups group =
    let spot = spot_of part.scenario group.end.site in
    written_text sources spot
    ++ told_text group.exactly group.boxes
    ++ settling_line (word_of sources part.scenario group) group.end.ending
    ++ first_text sources run spot group part.entries
    ++ further_texts sources part.scenario group groups

-- a group
unfoldable pub group_text : Sources → (Value → Option Replayed) → ReportPart → List Group → Group → List ℕ
group_text sources run part groups group =
    line [] ++ group_title sources part.scenario group ++ group_body sources run part groups group

-- a group, if it has this verdict, and is not told together with one that stands before it
unfoldable pub if_verdict : Sources → (Value → Option Replayed) → ReportPart → ℕ → List Group → Group → List ℕ
if_verdict sources run part verdict groups group =
    if has_verdict verdict group && is_first sources part.scenario groups group
    then group_text sources run part groups group else []

-- ---- a line for a place

-- how a group ends, in a word for editors
abbrev pub severity : Ending → List ℕ
severity (Done state) = codes ": error: "
severity (Failed state) = codes ": error: "
severity (Incomplete reason site) = codes ": note: "
severity (Bound site) = codes ": note: "

-- the line of a group's place
unfoldable pub place_line : Sources → Scenario → Group → List ℕ
place_line sources scenario group =
    line (spot_text sources (spot_of scenario group.end.site) ++ severity group.end.ending
    ++ scenario_words scenario ++ ending_words group.end.ending
    ++ codes " (" ++ counted_text (length group.members) ++ codes ")")

-- the same, unless its outcomes are done
unfoldable pub place_unless : Sources → Scenario → Group → List ℕ
place_unless sources scenario group = if has_verdict 0 group then [] else place_line sources scenario group

-- Groups that differ in the place alone are told together: behind the first of them the places of the others, each with
-- what is told of its own start trees.
use Rattle.std.specs.Prelude.{ℕ, Bool, true, not, ◌&&◌, List, [], ◌∷◌, ◌++◌, length, codes, if◌then◌else◌}
use Rattle.std.specs.List.{flat_map}
use Rattle.std.specs.Str.{bytes_eq}
use Rattle.std.specs.Fmt.{decimal}
use Rattle.shown_texts.specs.Lines.{line}
use Rattle.dpkg_scenarios.specs.declared.scenario.Scenario.{Scenario}
use Rattle.checker_input.specs.declared.sources.Sources.{Sources}
use Rattle.outcome_groups.specs.declared.group.Group.{Group}
use Rattle.outcome_groups.specs.Ends.{end_alike, same_end}
use Rattle.script_places.specs.Positions.{position_of}
use Rattle.explanation.specs.declared.spots.Spot.{Spot}
use Rattle.explanation.specs.declared.spots.Spot.TheVariants.{InScript, InFiles, Nowhere}
use Rattle.explanation.specs.CommandWords.{word_at}
use Rattle.explanation.specs.Counting.{counted_text}
use Rattle.explanation.specs.Scripts.{script_text}
use Rattle.explanation.specs.Spots.{spot_of, written_text}
use Rattle.explanation.specs.ToldTexts.{told_text}

-- the first word of the command at a group's place
abbrev pub word_of : Sources → Scenario → Group → List ℕ
word_of sources scenario group = word_at sources (spot_of scenario group.end.site)

-- their outcomes end alike at commands of the same name in the same step
abbrev pub together : Sources → Scenario → Group → Group → Bool
together sources scenario a b =
    end_alike a.end b.end && bytes_eq (word_of sources scenario a) (word_of sources scenario b)

-- no group that is told together with this one stands before it
abbrev pub is_first : Sources → Scenario → List Group → Group → Bool
is_first sources scenario [] group = true
is_first sources scenario (other ∷ groups) group =
    if together sources scenario other group then same_end other.end group.end
    else is_first sources scenario groups group

-- another group that is told together with this one
abbrev pub is_further : Sources → Scenario → Group → Group → Bool
is_further sources scenario group other =
    together sources scenario group other && not (same_end group.end other.end)

-- where it is in its script: line and column; or which act among those on files
abbrev pub place_text : Sources → Spot → List ℕ
place_text sources (InScript side script at) =
    decimal (position_of (script_text sources side script) at).line
    ++ codes ":" ++ decimal (position_of (script_text sources side script) at).column
place_text sources (InFiles work at) = codes "act " ++ decimal at
place_text sources Nowhere = []

-- a place behind a title
unfoldable pub titled_place : List ℕ → Sources → Spot → List ℕ
titled_place title sources spot = title ++ place_text sources spot

-- how many outcomes end there, as the end of a line
unfoldable pub count_end : ℕ → List ℕ
count_end count = codes " (" ++ counted_text count ++ line (codes "):")

-- the line of a further place, by how many outcomes end there
abbrev pub further_line : Sources → Spot → ℕ → List ℕ
further_line sources spot count = titled_place (codes "  The same at ") sources spot ++ count_end count

-- a further place: what is written there, and on which systems
unfoldable pub further_text : Sources → Scenario → Group → List ℕ
further_text sources scenario group =
    let spot = spot_of scenario group.end.site in
    further_line sources spot (length group.members)
    ++ written_text sources spot
    ++ told_text group.exactly group.boxes

-- the same, if it is told together with a group
unfoldable pub further_unless : Sources → Scenario → Group → Group → List ℕ
further_unless sources scenario group other =
    if is_further sources scenario group other then further_text sources scenario other else []

-- all further places of a group
abbrev pub further_texts : Sources → Scenario → Group → List Group → List ℕ
further_texts sources scenario group groups = flat_map (further_unless sources scenario group) groups

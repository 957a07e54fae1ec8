-- How a run comes to a place: the scripts that are called, and what is done in the step of the place, in words.
use Rattle.std.specs.Prelude.{ℕ, suc, Bool, true, false, not, ◌&&◌, ◌==◌, List, [], ◌∷◌, ◌++◌, length, codes}
use Rattle.std.specs.Prelude.{Option, Some, None, if◌then◌else◌}
use Rattle.std.specs.List.{flat_map}
use Rattle.std.specs.Fmt.{decimal}
use Rattle.script_names.specs.declared.mark.Site.{Site}
use Rattle.script_names.specs.declared.mark.Mark.{Mark}
use Rattle.shown_texts.specs.Lines.{line}
use Rattle.shown_texts.specs.Paths.{path_text}
use Rattle.shown_texts.specs.Show.{show}
use Rattle.std.specs.Str.{bytes_eq}
use Rattle.utility_calls.specs.declared.acts.Act.{Act}
use Rattle.utility_calls.specs.Acts.{path_of, place_of}
use Rattle.utility_calls.specs.Backs.{names_of}
use Rattle.utility_calls.specs.Pairs.{same_names}
use Rattle.utility_calls.specs.declared.deeds.Deed.{Deed}
use Rattle.utility_calls.specs.declared.deeds.Deed.TheVariants.{Does, Returns, Keeps}
use Rattle.scenario_runs.specs.declared.call.ScriptCall.{ScriptCall}
use Rattle.scenario_runs.specs.declared.call.CallEnd.{CallEnd}
use Rattle.scenario_runs.specs.declared.call.CallEnd.TheVariants as how
use Rattle.checker_input.specs.declared.sources.Sources.{Sources}
use Rattle.script_places.specs.ActWords.{act_name, row_words}
use Rattle.script_places.specs.BackWords.{back_name, back_row_words}
use Rattle.script_places.specs.MarkedDeeds.{deed_of_mark}
use Rattle.script_places.specs.Positions.{position_of}
use Rattle.script_places.specs.StepWords.{script_words}
use Rattle.explanation.specs.declared.spots.Spot.{Spot}
use Rattle.explanation.specs.declared.spots.Spot.TheVariants.{InScript, InFiles, Nowhere}
use Rattle.explanation.specs.CommandWords.{is_plain_name, word_at}
use Rattle.explanation.specs.Scripts.{script_text}

-- ---- calls

-- a word of a call
abbrev pub word_text : List ℕ → List ℕ
word_text word = if length word == 0 then codes " \"\"" else codes " " ++ show word

-- how a call ends
abbrev pub end_words : CallEnd → List ℕ
end_words how.Ok = codes "succeeds"
end_words how.Failed = codes "FAILS"
end_words how.Ended = codes "is undecided"

-- the line of a call
unfoldable pub call_line : ScriptCall → List ℕ
call_line call =
    line (codes "      " ++ script_words call.side call.script ++ flat_map word_text call.words
    ++ codes ": " ++ end_words call.how)

-- ---- what is done

-- a further path, where it is another one
unfoldable pub further_path : List (List ℕ) → List (List ℕ) → List ℕ
further_path names others = if same_names names others then [] else codes " " ++ path_text others

-- the act is the question whether something stands at a path, which a command with this first word has by a base line alone
abbrev pub is_stated : List ℕ → Act → Bool
is_stated word act =
    bytes_eq (act_name act) (codes "test -e") && (is_plain_name word && not (bytes_eq word (codes "command")))

-- what is done: an act; or that a command asks for a path, as a base states of its calls
abbrev pub done_name : List ℕ → Act → List ℕ
done_name word act = if is_stated word act then word ++ codes " asks" else act_name act

-- where something was done, at a path or at two, with the words of its row
abbrev pub done_text : List (List ℕ) → List (List ℕ) → List ℕ → List ℕ
done_text names others words = codes " " ++ path_text names ++ further_path names others ++ codes ": " ++ words

-- a deed of the command with this first word, by its row
abbrev pub deed_text : List ℕ → Deed → ℕ → List ℕ
deed_text word (Does act) row = done_name word act ++ done_text (path_of act).names (place_of act) (row_words act row)
deed_text word (Returns back) row = back_name back ++ done_text (names_of back) (names_of back) (back_row_words back row)
deed_text word Keeps row = []

-- a further place in the script of a place, or in none
abbrev pub spot_in : Spot → ℕ → Spot
spot_in (InScript side script from) at = InScript side script at
spot_in (InFiles work from) at = Nowhere
spot_in Nowhere at = Nowhere

-- the script, and the line of a byte in it
abbrev pub line_number : Sources → Spot → ℕ → List ℕ
line_number sources (InScript side script from) at =
    script_words side script ++ codes ", line " ++ decimal (position_of (script_text sources side script) at).line ++ codes ": "
line_number sources (InFiles work from) at = []
line_number sources Nowhere at = []

-- the line of a deed of the step in which a place is
unfoldable pub act_line : Sources → Spot → Mark → Deed → List ℕ
act_line sources spot mark deed =
    line (codes "        " ++ line_number sources spot mark.site.at
    ++ deed_text (word_at sources (spot_in spot mark.site.at)) deed mark.row)

-- whether a mark is told at a place: in a script each of its step, and among acts on files that of the place alone
abbrev pub is_told : Spot → Site → Mark → Bool
is_told (InScript side script from) site mark = mark.site.step == site.step
is_told (InFiles work from) site mark = mark.site.step == site.step && mark.site.at == site.at
is_told Nowhere site mark = false

-- the line of a mark, where its deed is known
abbrev pub act_of : Sources → Spot → Mark → Option Deed → List ℕ
act_of sources spot mark None = []
act_of sources spot mark (Some deed) = act_line sources spot mark deed

-- the line of a mark, where it is told
abbrev pub told_act : Sources → Spot → Site → Mark → Option Deed → List ℕ
told_act sources spot site mark deed = if is_told spot site mark then act_of sources spot mark deed else []

-- what is done in the step of a place, by the marks of a run's trace behind the first n, and by the run's deeds
abbrev pub acts_text : Sources → Spot → Site → List Deed → ℕ → List Mark → List ℕ
acts_text sources spot site deeds n [] = []
acts_text sources spot site deeds n (mark ∷ trace) =
    told_act sources spot site mark (deed_of_mark deeds n) ++ acts_text sources spot site deeds (suc n) trace

-- Reading the pieces of a report: its names, endings, traces and calls. The readers are loose: they may read further
-- texts too.
use Rattle.std.specs.Prelude.{ℕ, Bool, true, false, List, [], ◌∷◌, ◌++◌, codes, Option, Some, None, if◌then◌else◌}
use Rattle.std.specs.List.{list_all}
use Rattle.std.specs.Option.{option_map, option_and_then}
use Rattle.std.specs.Str.{bytes_eq}
use Rattle.script_names.specs.Ascii.{space}
use Rattle.script_names.specs.Paths.{is_filled}
use Rattle.script_names.specs.declared.mark.Mark.{Mark}
use Rattle.shown_texts.specs.Marks.{site_of, mark_of, reason_of, is_site}
use Rattle.shown_texts.specs.Parts.{parts}
use Rattle.shown_texts.specs.Show.{are_bytes, shown_of}
use Rattle.dpkg_scenarios.specs.declared.scenario.Ending.{Ending}
use Rattle.dpkg_scenarios.specs.declared.scenario.Ending.TheVariants.{Done, Failed, Incomplete, Bound}
use Rattle.dpkg_scenarios.specs.declared.scenario.State.{State}
use Rattle.dpkg_scenarios.specs.declared.scenario.State.TheVariants.{Installed, Unpacked, HalfConfigured}
use Rattle.dpkg_scenarios.specs.declared.scenario.State.TheVariants.{HalfInstalled, ConfigFiles, NotInstalled}
use Rattle.dpkg_scenarios.specs.declared.scenario.Side.{Side}
use Rattle.dpkg_scenarios.specs.declared.scenario.Side.TheVariants.{New, Old}
use Rattle.dpkg_scenarios.specs.declared.scenario.ScriptKind.{ScriptKind}
use Rattle.dpkg_scenarios.specs.declared.scenario.ScriptKind.TheVariants.{Preinst, Postinst, Prerm, Postrm}
use Rattle.scenario_runs.specs.declared.call.CallEnd.{CallEnd}
use Rattle.scenario_runs.specs.declared.call.CallEnd.TheVariants as how
use Rattle.scenario_runs.specs.declared.call.ScriptCall.{ScriptCall}

-- ---- names

-- the state with this name
abbrev pub state_of : List ℕ → Option State
state_of text =
    if bytes_eq text (codes "Installed") then Some Installed
    else (if bytes_eq text (codes "Unpacked") then Some Unpacked
    else (if bytes_eq text (codes "Half-Configured") then Some HalfConfigured
    else (if bytes_eq text (codes "Half-Installed") then Some HalfInstalled
    else (if bytes_eq text (codes "Config-Files") then Some ConfigFiles
    else (if bytes_eq text (codes "Not-Installed") then Some NotInstalled else None)))))

-- the script with this name
abbrev pub script_of : List ℕ → Option ScriptKind
script_of text =
    if bytes_eq text (codes "preinst") then Some Preinst
    else (if bytes_eq text (codes "postinst") then Some Postinst
    else (if bytes_eq text (codes "prerm") then Some Prerm
    else (if bytes_eq text (codes "postrm") then Some Postrm else None)))

-- whose script it is, of a word for that
abbrev pub side_of : List ℕ → Option Side
side_of text =
    if bytes_eq text (codes "old") then Some Old
    else (if bytes_eq text (codes "new") then Some New else None)

-- how a call ended, of a word for that
abbrev pub call_end_of : List ℕ → Option CallEnd
call_end_of text =
    if bytes_eq text (codes "ok") then Some how.Ok
    else (if bytes_eq text (codes "failed") then Some how.Failed
    else (if bytes_eq text (codes "ended") then Some how.Ended else None))

-- ---- endings

-- the ending of these two words
abbrev pub result_of_two : List ℕ → List ℕ → Option Ending
result_of_two word text =
    if bytes_eq word (codes "done") then option_map (λ state. Done state) (state_of text)
    else (if bytes_eq word (codes "failed") then option_map (λ state. Failed state) (state_of text)
    else option_map (λ site. Bound site) (site_of text))

-- the ending of a reason and a site that are written so
abbrev pub result_of_stop : List ℕ → List ℕ → Option Ending
result_of_stop reason site =
    option_and_then (λ reason. option_map (λ site. Incomplete reason site) (site_of site)) (reason_of reason)

-- the ending of these words
abbrev pub result_of_words : List (List ℕ) → Option Ending
result_of_words [] = None
result_of_words (word ∷ []) = None
result_of_words (word ∷ text ∷ []) = result_of_two word text
result_of_words (word ∷ reason ∷ site ∷ []) = result_of_stop reason site
result_of_words (word ∷ reason ∷ site ∷ other ∷ words) = None

-- the ending that is written so
abbrev pub result_of : List ℕ → Option Ending
result_of text = result_of_words (parts space text)

-- ---- traces

-- the marks that are written so, behind others
abbrev pub marks_onto : List Mark → List (List ℕ) → Option (List Mark)
marks_onto marks [] = Some marks
marks_onto marks (text ∷ texts) = option_and_then (λ mark. marks_onto (marks ++ mark ∷ []) texts) (mark_of text)

-- the marks of a text that has them with a space between each two
abbrev pub trace_of : List ℕ → Option (List Mark)
trace_of text = if is_filled text then marks_onto [] (parts space text) else Some []

-- ---- calls

-- the call with these words and further ones, of which the last says how it ended
abbrev pub call_with : Side → ScriptKind → List (List ℕ) → List (List ℕ) → Option ScriptCall
call_with side script words [] = None
call_with side script words (last ∷ []) =
    option_map (λ how. record { side = side; script = script; words = words; how = how }) (call_end_of last)
call_with side script words (text ∷ next ∷ texts) =
    option_and_then (λ word. call_with side script (words ++ word ∷ []) (next ∷ texts)) (shown_of text)

-- the call of words for its side and its script, and of further ones
abbrev pub call_from : List ℕ → List ℕ → List (List ℕ) → Option ScriptCall
call_from side script texts =
    option_and_then (λ side. option_and_then (λ script. call_with side script [] texts) (script_of script))
    (side_of side)

-- the call of these words
abbrev pub call_of_words : List (List ℕ) → Option ScriptCall
call_of_words [] = None
call_of_words (call ∷ []) = None
call_of_words (call ∷ side ∷ []) = None
call_of_words (call ∷ side ∷ script ∷ texts) = call_from side script texts

-- the call of a line
abbrev pub call_of : List ℕ → Option ScriptCall
call_of text = call_of_words (parts space text)

-- ---- what the types represent

-- an ending whose site's numbers fit their types
abbrev pub is_ending : Ending → Bool
is_ending (Done state) = true
is_ending (Failed state) = true
is_ending (Incomplete reason site) = is_site site
is_ending (Bound site) = is_site site

-- a call whose words are of bytes
abbrev pub is_call : ScriptCall → Bool
is_call call = list_all are_bytes call.words

-- What is read of a report's pieces is what its type represents.
use Rattle.std.proofs.Common.{◌≡◌, ℕ, Bool, true, false, List, [], ◌∷◌, ◌++◌, Some, refl, sym, ap, ◌∙◌}
use Rattle.std.specs.Prelude.{codes, if◌then◌else◌}
use Rattle.std.specs.List.{list_all}
use Rattle.std.specs.Option.{option_map, option_and_then}
use Rattle.std.specs.Str.{bytes_eq}
use Rattle.std.proofs.lemmas.Bool.{and_from}
use Rattle.serde_json.specs.Data.{Items, no_items, item}
use Rattle.serde_json.specs.Find.{as_str}
use Rattle.script_names.specs.Paths.{is_filled}
use Rattle.script_names.specs.declared.mark.Mark.{Mark}
use Rattle.script_names.specs.declared.mark.Site.{Site}
use Rattle.script_names.specs.declared.reason.Reason.{Reason}
use Rattle.shown_texts.specs.Marks.{site_of, mark_of, reason_of, is_mark}
use Rattle.shown_texts.specs.Parts.{parts}
use Rattle.shown_texts.specs.Show.{are_bytes, shown_of}
use Rattle.shown_texts.proofs.Lists.{all_both}
use Rattle.dpkg_scenarios.specs.declared.scenario.Ending.{Ending}
use Rattle.dpkg_scenarios.specs.declared.scenario.Ending.TheVariants.{Done, Failed, Incomplete, Bound}
use Rattle.dpkg_scenarios.specs.declared.scenario.Side.{Side}
use Rattle.dpkg_scenarios.specs.declared.scenario.ScriptKind.{ScriptKind}
use Rattle.dpkg_scenarios.specs.declared.scenario.State.{State}
use Rattle.scenario_runs.specs.declared.call.CallEnd.{CallEnd}
use Rattle.scenario_runs.specs.declared.call.ScriptCall.{ScriptCall}
use Rattle.report_text.specs.PieceRead.{state_of, script_of, side_of, call_end_of, result_of_two, result_of_stop, result_of_words, result_of, marks_onto, trace_of, call_with, call_from, call_of_words, call_of, is_ending, is_call}
use Rattle.report_reader.specs.ReportRead.{calls_onto}
use Rattle.report_reader.proofs.TextFacts.{got, made, shown_bytes, site_fits, mark_fits}

-- ---- endings

two_fit : (word text : List ℕ) (ending : Ending) → result_of_two word text ≡ Some ending → is_ending ending ≡ true
two_fit word text ending e = step (bytes_eq word (codes "done")) (bytes_eq word (codes "failed")) e
  where
    step : (d f : Bool) → (if d then option_map (λ (s : State). Done s) (state_of text)
        else (if f then option_map (λ (s : State). Failed s) (state_of text) else option_map (λ (s : Site). Bound s) (site_of text))) ≡ Some ending → is_ending ending ≡ true
    step true f e = made (λ (s : State). Done s) (state_of text) ending e (λ s m same. ap is_ending (sym same))
    step false true e = made (λ (s : State). Failed s) (state_of text) ending e (λ s m same. ap is_ending (sym same))
    step false false e = made (λ (s : Site). Bound s) (site_of text) ending e (λ s m same. ap is_ending (sym same) ∙ site_fits text s m)

stop_fits : (reason site : List ℕ) (ending : Ending) → result_of_stop reason site ≡ Some ending → is_ending ending ≡ true
stop_fits reason site ending e =
    got (λ (r : Reason). option_map (λ (s : Site). Incomplete r s) (site_of site)) (reason_of reason) ending e
    (λ r m f. made (λ (s : Site). Incomplete r s) (site_of site) ending f (λ s n same. ap is_ending (sym same) ∙ site_fits site s n))

words_fit : (ws : List (List ℕ)) (ending : Ending) → result_of_words ws ≡ Some ending → is_ending ending ≡ true
words_fit [] ending e = cc
words_fit (a ∷ []) ending e = cc
words_fit (a ∷ b ∷ []) ending e = two_fit a b ending e
words_fit (a ∷ b ∷ c ∷ []) ending e = stop_fits b c ending e
words_fit (a ∷ b ∷ c ∷ d ∷ ws) ending e = cc

pub ending_fits : (text : List ℕ) (ending : Ending) → result_of text ≡ Some ending → is_ending ending ≡ true
ending_fits text ending e = words_fit (parts 32 text) ending e

-- ---- traces

marks_fit : (done : List Mark) (texts : List (List ℕ)) (marks : List Mark) → list_all is_mark done ≡ true → marks_onto done texts ≡ Some marks → list_all is_mark marks ≡ true
marks_fit done [] marks h e = let same : done ≡ marks = cc in ap (list_all is_mark) (sym same) ∙ h
marks_fit done (text ∷ texts) marks h e =
    got (λ (m : Mark). marks_onto (done ++ m ∷ []) texts) (mark_of text) marks e
    (λ m n f. marks_fit (done ++ m ∷ []) texts marks (all_both is_mark done (m ∷ []) h (and_from (is_mark m) true (mark_fits text m n) refl)) f)

pub trace_fits : (text : List ℕ) (trace : List Mark) → trace_of text ≡ Some trace → list_all is_mark trace ≡ true
trace_fits text trace e = step (is_filled text) e
  where
    step : (t : Bool) → (if t then marks_onto [] (parts 32 text) else Some []) ≡ Some trace → list_all is_mark trace ≡ true
    step true e = marks_fit [] (parts 32 text) trace refl e
    step false e = let same : [] ≡ trace = cc in ap (list_all is_mark) (sym same)

-- ---- calls

with_fits : (side : Side) (script : ScriptKind) (words texts : List (List ℕ)) (call : ScriptCall) → list_all are_bytes words ≡ true
    → call_with side script words texts ≡ Some call → is_call call ≡ true
with_fits side script words [] call h e = cc
with_fits side script words (last ∷ []) call h e =
    made (λ (how : CallEnd). let it : ScriptCall = record { side = side; script = script; words = words; how = how } in it) (call_end_of last) call e
    (λ how m same. ap is_call (sym same) ∙ h)
with_fits side script words (text ∷ next ∷ texts) call h e =
    got (λ (word : List ℕ). call_with side script (words ++ word ∷ []) (next ∷ texts)) (shown_of text) call e
    (λ word m f. with_fits side script (words ++ word ∷ []) (next ∷ texts) call
    (all_both are_bytes words (word ∷ []) h (and_from (are_bytes word) true (shown_bytes text word m) refl)) f)

from_fits : (side script : List ℕ) (texts : List (List ℕ)) (call : ScriptCall) → call_from side script texts ≡ Some call → is_call call ≡ true
from_fits side script texts call e =
    got (λ (whose : Side). option_and_then (λ (kind : ScriptKind). call_with whose kind [] texts) (script_of script)) (side_of side) call e
    (λ whose m f. got (λ (kind : ScriptKind). call_with whose kind [] texts) (script_of script) call f (λ kind n g. with_fits whose kind [] texts call refl g))

call_words_fit : (ws : List (List ℕ)) (call : ScriptCall) → call_of_words ws ≡ Some call → is_call call ≡ true
call_words_fit [] call e = cc
call_words_fit (a ∷ []) call e = cc
call_words_fit (a ∷ b ∷ []) call e = cc
call_words_fit (a ∷ side ∷ script ∷ texts) call e = from_fits side script texts call e

pub calls_fit : (done : List ScriptCall) (ds : Items) (calls : List ScriptCall) → list_all is_call done ≡ true → calls_onto done ds ≡ Some calls → list_all is_call calls ≡ true
calls_fit done no_items calls h e = let same : done ≡ calls = cc in ap (list_all is_call) (sym same) ∙ h
calls_fit done (item d ds) calls h e =
    got (λ (call : ScriptCall). calls_onto (done ++ call ∷ []) ds) (option_and_then call_of (as_str d)) calls e
    (λ call m f. calls_fit (done ++ call ∷ []) ds calls
    (all_both is_call done (call ∷ []) h (and_from (is_call call) true (got call_of (as_str d) call m (λ text n g. call_words_fit (parts 32 text) call g)) refl)) f)

-- The endings, traces, calls and literals of a report are texts of ASCII.
use Rattle.std.proofs.Common.{◌≡◌, ℕ, ◌-◌, ◌^◌, true, List, [], ◌∷◌, ◌++◌, map, refl, arith, decimal}
use Rattle.std.specs.Prelude.{◌&&◌, codes}
use Rattle.std.specs.List.{flat_map, list_all, join_with_byte}
use Rattle.std.proofs.lemmas.Bool.{and_parts, and_from, leb-true}
use Rattle.script_names.specs.Names.{is_name}
use Rattle.script_names.specs.Paths.{is_filled}
use Rattle.script_names.specs.declared.mark.Mark.{Mark}
use Rattle.shown_texts.specs.Marks.{mark_text, site_text, reason_name, is_mark}
use Rattle.shown_texts.specs.Show.{show, are_bytes}
use Rattle.shown_texts.proofs.Lists.{all_weaker}
use Rattle.feature_trees.specs.declared.kind.Kinds.{Kinds}
use Rattle.feature_trees.specs.declared.version.Version.{Version}
use Rattle.tree_clauses.specs.declared.clause.Literal.{Literal}
use Rattle.tree_clauses.specs.declared.clause.Literal.TheVariants.{Entry as EntryIs, Kind, Fence, NotEmpty, Similar, Target}
use Rattle.tree_clauses.specs.declared.clause.Var.{Var}
use Rattle.tree_clauses.specs.ClauseRead.{is_var, is_representable_name, is_literal}
use Rattle.tree_clauses.specs.ClauseText.{after_comma, joined, var_text, kinds_text, names_text, literal_content}
use Rattle.tree_clauses.proofs.ClauseLaw.{is_graphic, kinds_word}
use Rattle.dpkg_scenarios.specs.declared.scenario.Ending.{Ending}
use Rattle.dpkg_scenarios.specs.declared.scenario.Ending.TheVariants.{Done, Failed, Incomplete, Bound}
use Rattle.scenario_runs.specs.declared.call.ScriptCall.{ScriptCall}
use Rattle.report_text.specs.PieceRead.{is_ending, is_call}
use Rattle.dpkg_scenarios.specs.Names.{script_name}
use Rattle.report_text.specs.ReportNames.{state_name, side_name, call_end_name}
use Rattle.report_text.specs.ReportText.{result_text, call_word, call_content}
use Rattle.report_text.proofs.PieceReading.{state_shown, script_shown, side_shown, call_end_shown}
use Rattle.report_text.proofs.ShownBytes.{number_shown, site_shown, mark_shown, reason_shown}
use Rattle.report_text.proofs.LowTexts.{is_low, low, shown_low, plus, join_low, show_low}

-- ---- endings, traces, calls

pub result_low : (ending : Ending) → is_ending ending ≡ true → low (result_text ending) ≡ true
result_low (Done state) h = plus (codes "done ") (state_name state) refl (shown_low (state_name state) (state_shown state))
result_low (Failed state) h = plus (codes "failed ") (state_name state) refl (shown_low (state_name state) (state_shown state))
result_low (Incomplete reason site) h =
    plus (codes "incomplete ") ((reason_name reason ++ codes " ") ++ site_text site) refl
    (plus (reason_name reason ++ codes " ") (site_text site) (plus (reason_name reason) (codes " ") (shown_low (reason_name reason) (reason_shown reason)) refl)
    (shown_low (site_text site) (site_shown site h)))
result_low (Bound site) h = plus (codes "bound ") (site_text site) refl (shown_low (site_text site) (site_shown site h))

marks_low : (trace : List Mark) → list_all is_mark trace ≡ true → list_all low (map mark_text trace) ≡ true
marks_low [] h = refl
marks_low (m ∷ ms) h =
    let k = and_parts (is_mark m) (list_all is_mark ms) h in
    and_from (low (mark_text m)) (list_all low (map mark_text ms)) (shown_low (mark_text m) (mark_shown m k.0)) (marks_low ms k.1)

pub trace_low : (trace : List Mark) → list_all is_mark trace ≡ true → low (join_with_byte 32 (map mark_text trace)) ≡ true
trace_low trace h = join_low 32 (map mark_text trace) refl (marks_low trace h)

words_low : (words : List (List ℕ)) → list_all are_bytes words ≡ true → low (flat_map call_word words) ≡ true
words_low [] h = refl
words_low (w ∷ words) h =
    let k = and_parts (are_bytes w) (list_all are_bytes words) h in
    plus (call_word w) (flat_map call_word words) (plus (codes " ") (show w) refl (show_low w k.0)) (words_low words k.1)

pub call_low : (call : ScriptCall) → is_call call ≡ true → low (call_content call) ≡ true
call_low call h =
    let a = plus (codes "call ") (side_name call.side) refl (shown_low (side_name call.side) (side_shown call.side)) in
    let b = plus (codes "call " ++ side_name call.side) (codes " ") a refl in
    let c = plus ((codes "call " ++ side_name call.side) ++ codes " ") (script_name call.script) b (shown_low (script_name call.script) (script_shown call.script)) in
    let d = plus (((codes "call " ++ side_name call.side) ++ codes " ") ++ script_name call.script) (flat_map call_word call.words) c (words_low call.words h) in
    let e = plus ((((codes "call " ++ side_name call.side) ++ codes " ") ++ script_name call.script) ++ flat_map call_word call.words) (codes " ") d refl in
    plus (((((codes "call " ++ side_name call.side) ++ codes " ") ++ script_name call.script) ++ flat_map call_word call.words) ++ codes " ")
    (call_end_name call.how) e (shown_low (call_end_name call.how) (call_end_shown call.how))

pub calls_low : (calls : List ScriptCall) → list_all is_call calls ≡ true → list_all low (map call_content calls) ≡ true
calls_low [] h = refl
calls_low (call ∷ calls) h =
    let k = and_parts (is_call call) (list_all is_call calls) h in
    and_from (low (call_content call)) (list_all low (map call_content calls)) (call_low call k.0) (calls_low calls k.1)

-- ---- literals

var_low : (x : Var) → is_var x ≡ true → low (var_text x) ≡ true
var_low x h = plus (codes "v") (decimal x.0) refl (shown_low (decimal x.0) (number_shown x.0 (omega (arith, leb-true x.0 (2 ^ 32 - 1) h))))

name_low : (f : List ℕ) → is_representable_name f ≡ true → low (show f) ≡ true
name_low f h = show_low f (and_parts (is_name f) (are_bytes f) h).1

others_low : (names : List (List ℕ)) → list_all is_representable_name names ≡ true → low (flat_map after_comma (map show names)) ≡ true
others_low [] h = refl
others_low (f ∷ names) h =
    let k = and_parts (is_representable_name f) (list_all is_representable_name names) h in
    plus (after_comma (show f)) (flat_map after_comma (map show names)) (plus (codes ",") (show f) refl (name_low f k.0)) (others_low names k.1)

joined_low : (names : List (List ℕ)) → list_all is_representable_name names ≡ true → low (joined (map show names)) ≡ true
joined_low [] h = refl
joined_low (f ∷ names) h =
    let k = and_parts (is_representable_name f) (list_all is_representable_name names) h in
    plus (show f) (flat_map after_comma (map show names)) (name_low f k.0) (others_low names k.1)

names_low : (names : List (List ℕ)) → list_all is_representable_name names ≡ true → low (names_text names) ≡ true
names_low names h = plus (codes "{" ++ joined (map show names)) (codes "}") (plus (codes "{") (joined (map show names)) refl (joined_low names h)) refl

graphic_low : (b : ℕ) → is_graphic b ≡ true → is_low b ≡ true
graphic_low b h = grind arith

kinds_low : (version : Version) (kinds : Kinds) → low (kinds_text version kinds) ≡ true
kinds_low version kinds =
    let k = and_parts (is_filled (kinds_text version kinds)) (list_all is_graphic (kinds_text version kinds)) (kinds_word version kinds) in
    all_weaker is_graphic is_low graphic_low (kinds_text version kinds) k.1

three : (word a b : List ℕ) → low word ≡ true → low a ≡ true → low b ≡ true → low (((word ++ a) ++ codes " ") ++ b) ≡ true
three word a b h g f = plus ((word ++ a) ++ codes " ") b (plus (word ++ a) (codes " ") (plus word a h g) refl) f

four : (word a b c : List ℕ) → low word ≡ true → low a ≡ true → low b ≡ true → low c ≡ true → low (((((word ++ a) ++ codes " ") ++ b) ++ codes " ") ++ c) ≡ true
four word a b c h g f e = plus ((((word ++ a) ++ codes " ") ++ b) ++ codes " ") c (plus (((word ++ a) ++ codes " ") ++ b) (codes " ") (three word a b h g f) refl) e

pub literal_low : (version : Version) (l : Literal) → is_literal l ≡ true → low (literal_content version l) ≡ true
literal_low version (EntryIs x f y) h =
    let k = and_parts (is_var x) (is_representable_name f && is_var y) h in
    let r = and_parts (is_representable_name f) (is_var y) k.1 in
    four (codes "entry ") (var_text x) (show f) (var_text y) refl (var_low x k.0) (name_low f r.0) (var_low y r.1)
literal_low version (Kind x kinds) h = three (codes "kind ") (var_text x) (kinds_text version kinds) refl (var_low x h) (kinds_low version kinds)
literal_low version (Fence x names) h =
    let k = and_parts (is_var x) (list_all is_representable_name names) h in
    three (codes "fence ") (var_text x) (names_text names) refl (var_low x k.0) (names_low names k.1)
literal_low version (NotEmpty x) h = plus (codes "notempty ") (var_text x) refl (var_low x h)
literal_low version (Similar y names x) h =
    let k = and_parts (is_var y) (list_all is_representable_name names && is_var x) h in
    let r = and_parts (list_all is_representable_name names) (is_var x) k.1 in
    four (codes "similar ") (var_text y) (names_text names) (var_text x) refl (var_low y k.0) (names_low names r.0) (var_low x r.1)
literal_low version (Target x target) h =
    let k = and_parts (is_var x) (are_bytes target) h in
    three (codes "target ") (var_text x) (show target) refl (var_low x k.0) (show_low target k.1)

pub literals_low : (version : Version) (ls : List Literal) → list_all is_literal ls ≡ true → list_all low (map (literal_content version) ls) ≡ true
literals_low version [] h = refl
literals_low version (l ∷ ls) h =
    let k = and_parts (is_literal l) (list_all is_literal ls) h in
    and_from (low (literal_content version l)) (list_all low (map (literal_content version) ls)) (literal_low version l k.0) (literals_low version ls k.1)

-- The lines of an entry: none has a newline in it, and how they begin.
use Rattle.std.proofs.Common.{◌≡◌, ℕ, ◌^◌, ◌-◌, ◌<◌, Bool, true, false, List, [], ◌∷◌, ◌++◌, map, Option, Some, None, refl, ap, ◌∙◌, arith, decimal}
use Rattle.std.specs.Prelude.{not, ◌==◌, ◌&&◌, codes, if◌then◌else◌}
use Rattle.std.specs.List.{flat_map, list_all}
use Rattle.std.specs.Option.{option_map, option_and_then}
use Rattle.std.specs.Str.{bytes_eq}
use Rattle.std.proofs.lemmas.Bool.{and_parts, and_from, leb-true}
use Rattle.std.proofs.lemmas.Slice.Eq.{bytes_eq-Decides}
use Rattle.script_names.specs.Names.{is_name}
use Rattle.script_names.specs.Paths.{is_filled}
use Rattle.script_names.specs.declared.mark.Mark.{Mark}
use Rattle.shown_texts.specs.Lines.{is_line}
use Rattle.shown_texts.specs.Marks.{mark_text, site_text, reason_name, is_mark}
use Rattle.shown_texts.specs.Parts.{lacks}
use Rattle.shown_texts.specs.Show.{show, are_bytes, shown_of}
use Rattle.shown_texts.proofs.Lists.{all_weaker, all_both}
use Rattle.shown_texts.proofs.Spelled.{show_shown}
use Rattle.feature_trees.specs.declared.kind.Kinds.{Kinds}
use Rattle.feature_trees.specs.declared.kind.Special as special
use Rattle.feature_trees.specs.declared.kind.Special.TheVariants.{Fifo, Socket, Block, Char}
use Rattle.feature_trees.specs.declared.value.Value.{Value}
use Rattle.feature_trees.specs.declared.value.Value.TheVariants.{Reg, Link, Special, Dir}
use Rattle.feature_trees.specs.declared.version.Version.{Version}
use Rattle.feature_trees.specs.TreeLines.{special_of, letter_value, link_value}
use Rattle.tree_clauses.specs.declared.clause.Clause.{Clause}
use Rattle.tree_clauses.specs.declared.clause.Var.{Var}
use Rattle.tree_clauses.specs.declared.clause.Literal.{Literal}
use Rattle.tree_clauses.specs.declared.clause.Literal.TheVariants.{Entry, Kind, Fence, NotEmpty, Similar, Target}
use Rattle.tree_clauses.specs.ClauseRead.{is_var, is_representable_name, is_literal}
use Rattle.tree_clauses.specs.ClauseText.{after_comma, joined, var_text, kinds_text, names_text, literal_content}
use Rattle.tree_clauses.proofs.ClauseLaw.{is_graphic, kinds_word}
use Rattle.dpkg_scenarios.specs.declared.scenario.Ending.{Ending}
use Rattle.dpkg_scenarios.specs.declared.scenario.Ending.TheVariants.{Done, Failed, Incomplete, Bound}
use Rattle.scenario_runs.specs.declared.call.ScriptCall.{ScriptCall}
use Rattle.dpkg_scenarios.specs.Names.{script_name}
use Rattle.report_text.specs.ReportNames.{state_name, side_name, call_end_name, confirmed_name}
use Rattle.report_text.specs.ReportText.{result_text, trace_mark, call_word, call_content}
use Rattle.report_text.specs.PieceRead.{is_ending, is_call}
use Rattle.report_text.proofs.Blocks.{second, is_marked}
use Rattle.report_text.proofs.PieceReading.{state_shown, script_shown, side_shown, call_end_shown}
use Rattle.report_text.proofs.ShownBytes.{no_newline, number_shown, site_shown, mark_shown, reason_shown}

plus : (a b : List ℕ) → lacks 10 a ≡ true → lacks 10 b ≡ true → lacks 10 (a ++ b) ≡ true
plus a b h g = all_both (λ x. not (x == 10)) a b h g

-- ---- outcomes, traces, calls

result_line : (ending : Ending) → is_ending ending ≡ true → lacks 10 (result_text ending) ≡ true
result_line (Done state) h = plus (codes "done ") (state_name state) refl (no_newline (state_name state) (state_shown state))
result_line (Failed state) h = plus (codes "failed ") (state_name state) refl (no_newline (state_name state) (state_shown state))
result_line (Incomplete reason site) h =
    plus (codes "incomplete ") ((reason_name reason ++ codes " ") ++ site_text site) refl
    (plus (reason_name reason ++ codes " ") (site_text site) (plus (reason_name reason) (codes " ") (no_newline (reason_name reason) (reason_shown reason)) refl)
    (no_newline (site_text site) (site_shown site h)))
result_line (Bound site) h = plus (codes "bound ") (site_text site) refl (no_newline (site_text site) (site_shown site h))

abbrev pub outcome_content : ℕ → Ending → List ℕ
outcome_content n ending = codes "outcome " ++ decimal n ++ codes " " ++ result_text ending

pub outcome_lacks : (n : ℕ) (ending : Ending) → n < 2 ^ 64 → is_ending ending ≡ true → lacks 10 (outcome_content n ending) ≡ true
outcome_lacks n ending small h =
    plus ((codes "outcome " ++ decimal n) ++ codes " ") (result_text ending)
    (plus (codes "outcome " ++ decimal n) (codes " ") (plus (codes "outcome ") (decimal n) refl (no_newline (decimal n) (number_shown n small))) refl)
    (result_line ending h)

marks_lack : (trace : List Mark) → list_all is_mark trace ≡ true → lacks 10 (flat_map trace_mark trace) ≡ true
marks_lack [] h = refl
marks_lack (m ∷ ms) h =
    let k = and_parts (is_mark m) (list_all is_mark ms) h in
    plus (trace_mark m) (flat_map trace_mark ms) (plus (codes " ") (mark_text m) refl (no_newline (mark_text m) (mark_shown m k.0))) (marks_lack ms k.1)

abbrev pub trace_content : List Mark → List ℕ
trace_content trace = codes "trace" ++ flat_map trace_mark trace

pub trace_lacks : (trace : List Mark) → list_all is_mark trace ≡ true → lacks 10 (trace_content trace) ≡ true
trace_lacks trace h = plus (codes "trace") (flat_map trace_mark trace) refl (marks_lack trace h)

abbrev pub confirmed_content : Bool → List ℕ
confirmed_content confirmed = codes "confirmed " ++ confirmed_name confirmed

pub confirmed_lacks : (b : Bool) → lacks 10 (confirmed_content b) ≡ true
confirmed_lacks true = refl
confirmed_lacks false = refl

words_lack : (words : List (List ℕ)) → list_all are_bytes words ≡ true → lacks 10 (flat_map call_word words) ≡ true
words_lack [] h = refl
words_lack (w ∷ words) h =
    let k = and_parts (are_bytes w) (list_all are_bytes words) h in
    plus (call_word w) (flat_map call_word words) (plus (codes " ") (show w) refl (no_newline (show w) (show_shown w k.0))) (words_lack words k.1)

abbrev pub is_a : ℕ → Bool
is_a b = b == 97

call_marked : (call : ScriptCall) → is_call call ≡ true → is_marked is_a (call_content call) ≡ true
call_marked call h =
    let a = plus (codes "call ") (side_name call.side) refl (no_newline (side_name call.side) (side_shown call.side)) in
    let b = plus (codes "call " ++ side_name call.side) (codes " ") a refl in
    let c = plus ((codes "call " ++ side_name call.side) ++ codes " ") (script_name call.script) b (no_newline (script_name call.script) (script_shown call.script)) in
    let d = plus (((codes "call " ++ side_name call.side) ++ codes " ") ++ script_name call.script) (flat_map call_word call.words) c (words_lack call.words h) in
    let e = plus ((((codes "call " ++ side_name call.side) ++ codes " ") ++ script_name call.script) ++ flat_map call_word call.words) (codes " ") d refl in
    let f = plus (((((codes "call " ++ side_name call.side) ++ codes " ") ++ script_name call.script) ++ flat_map call_word call.words) ++ codes " ")
    (call_end_name call.how) e (no_newline (call_end_name call.how) (call_end_shown call.how)) in
    and_from (lacks 10 (call_content call)) (second is_a (call_content call)) f refl

pub calls_marked : (calls : List ScriptCall) → list_all is_call calls ≡ true → list_all (is_marked is_a) (map call_content calls) ≡ true
calls_marked [] h = refl
calls_marked (call ∷ calls) h =
    let k = and_parts (is_call call) (list_all is_call calls) h in
    and_from (is_marked is_a (call_content call)) (list_all (is_marked is_a) (map call_content calls)) (call_marked call k.0) (calls_marked calls k.1)

-- ---- clauses

var_lacks : (x : Var) → is_var x ≡ true → lacks 10 (var_text x) ≡ true
var_lacks x h = plus (codes "v") (decimal x.0) refl (no_newline (decimal x.0) (number_shown x.0 (omega (arith, leb-true x.0 (2 ^ 32 - 1) h))))

abbrev pub head_content : Clause → List ℕ
head_content clause = codes "clause start " ++ var_text clause.start ++ codes " now " ++ var_text clause.now

pub head_lacks : (clause : Clause) → is_var clause.start ≡ true → is_var clause.now ≡ true → lacks 10 (head_content clause) ≡ true
head_lacks clause s n =
    plus ((codes "clause start " ++ var_text clause.start) ++ codes " now ") (var_text clause.now)
    (plus (codes "clause start " ++ var_text clause.start) (codes " now ") (plus (codes "clause start ") (var_text clause.start) refl (var_lacks clause.start s)) refl)
    (var_lacks clause.now n)

name_lacks : (f : List ℕ) → is_representable_name f ≡ true → lacks 10 (show f) ≡ true
name_lacks f h = no_newline (show f) (show_shown f (and_parts (is_name f) (are_bytes f) h).1)

others_lack : (names : List (List ℕ)) → list_all is_representable_name names ≡ true → lacks 10 (flat_map after_comma (map show names)) ≡ true
others_lack [] h = refl
others_lack (f ∷ names) h =
    let k = and_parts (is_representable_name f) (list_all is_representable_name names) h in
    plus (after_comma (show f)) (flat_map after_comma (map show names)) (plus (codes ",") (show f) refl (name_lacks f k.0)) (others_lack names k.1)

joined_lacks : (names : List (List ℕ)) → list_all is_representable_name names ≡ true → lacks 10 (joined (map show names)) ≡ true
joined_lacks [] h = refl
joined_lacks (f ∷ names) h =
    let k = and_parts (is_representable_name f) (list_all is_representable_name names) h in
    plus (show f) (flat_map after_comma (map show names)) (name_lacks f k.0) (others_lack names k.1)

names_lack : (names : List (List ℕ)) → list_all is_representable_name names ≡ true → lacks 10 (names_text names) ≡ true
names_lack names h = plus (codes "{" ++ joined (map show names)) (codes "}") (plus (codes "{") (joined (map show names)) refl (joined_lacks names h)) refl

graphic_no_newline : (b : ℕ) → is_graphic b ≡ true → not (b == 10) ≡ true
graphic_no_newline b h = grind arith

kinds_lack : (version : Version) (kinds : Kinds) → lacks 10 (kinds_text version kinds) ≡ true
kinds_lack version kinds =
    let k = and_parts (is_filled (kinds_text version kinds)) (list_all is_graphic (kinds_text version kinds)) (kinds_word version kinds) in
    all_weaker is_graphic (λ b. not (b == 10)) graphic_no_newline (kinds_text version kinds) k.1

words_two : (word a b : List ℕ) → lacks 10 word ≡ true → lacks 10 a ≡ true → lacks 10 b ≡ true → lacks 10 (((word ++ a) ++ codes " ") ++ b) ≡ true
words_two word a b h g f = plus ((word ++ a) ++ codes " ") b (plus (word ++ a) (codes " ") (plus word a h g) refl) f

abbrev pub is_no_h : ℕ → Bool
is_no_h b = not (b == 104)

literal_lacks : (version : Version) (l : Literal) → is_literal l ≡ true → lacks 10 (literal_content version l) ≡ true
literal_lacks version (Entry x f y) h =
    let k = and_parts (is_var x) (is_representable_name f && is_var y) h in
    let r = and_parts (is_representable_name f) (is_var y) k.1 in
    plus ((((codes "entry " ++ var_text x) ++ codes " ") ++ show f) ++ codes " ") (var_text y)
    (plus (((codes "entry " ++ var_text x) ++ codes " ") ++ show f) (codes " ") (words_two (codes "entry ") (var_text x) (show f) refl (var_lacks x k.0) (name_lacks f r.0)) refl)
    (var_lacks y r.1)
literal_lacks version (Kind x kinds) h = words_two (codes "kind ") (var_text x) (kinds_text version kinds) refl (var_lacks x h) (kinds_lack version kinds)
literal_lacks version (Fence x names) h =
    let k = and_parts (is_var x) (list_all is_representable_name names) h in
    words_two (codes "fence ") (var_text x) (names_text names) refl (var_lacks x k.0) (names_lack names k.1)
literal_lacks version (NotEmpty x) h = plus (codes "notempty ") (var_text x) refl (var_lacks x h)
literal_lacks version (Similar y names x) h =
    let k = and_parts (is_var y) (list_all is_representable_name names && is_var x) h in
    let r = and_parts (list_all is_representable_name names) (is_var x) k.1 in
    plus ((((codes "similar " ++ var_text y) ++ codes " ") ++ names_text names) ++ codes " ") (var_text x)
    (plus (((codes "similar " ++ var_text y) ++ codes " ") ++ names_text names) (codes " ")
    (words_two (codes "similar ") (var_text y) (names_text names) refl (var_lacks y k.0) (names_lack names r.0)) refl)
    (var_lacks x r.1)
literal_lacks version (Target x target) h =
    let k = and_parts (is_var x) (are_bytes target) h in
    words_two (codes "target ") (var_text x) (show target) refl (var_lacks x k.0) (no_newline (show target) (show_shown target k.1))

literal_second : (version : Version) (l : Literal) → second is_no_h (literal_content version l) ≡ true
literal_second version (Entry x f y) = refl
literal_second version (Kind x kinds) = refl
literal_second version (Fence x names) = refl
literal_second version (NotEmpty x) = refl
literal_second version (Similar y names x) = refl
literal_second version (Target x target) = refl

pub literals_marked : (version : Version) (ls : List Literal) → list_all is_literal ls ≡ true → list_all (is_marked is_no_h) (map (literal_content version) ls) ≡ true
literals_marked version [] h = refl
literals_marked version (l ∷ ls) h =
    let k = and_parts (is_literal l) (list_all is_literal ls) h in
    and_from (is_marked is_no_h (literal_content version l)) (list_all (is_marked is_no_h) (map (literal_content version) ls))
    (and_from (lacks 10 (literal_content version l)) (second is_no_h (literal_content version l)) (literal_lacks version l k.0) (literal_second version l)) (literals_marked version ls k.1)

-- ---- trees

abbrev pub is_blank : ℕ → Bool
is_blank b = b == 32

letter_is : (a w rest : List ℕ) → bytes_eq a w ≡ true → second is_blank (w ++ 32 ∷ rest) ≡ true → second is_blank (a ++ 32 ∷ rest) ≡ true
letter_is a w rest p h = ap (λ t. second is_blank (t ++ 32 ∷ rest)) ((bytes_eq-Decides a w).0 p) ∙ h

special_second : (a : List ℕ) (s : special.Special) (rest : List ℕ) → special_of a ≡ Some s → second is_blank (a ++ 32 ∷ rest) ≡ true
special_second a s rest e =
    step (bytes_eq a (codes "p")) (bytes_eq a (codes "s")) (bytes_eq a (codes "b")) (bytes_eq a (codes "c")) (bytes_eq a (codes "o")) refl refl refl refl refl e
  where
    step : (v w x y z : Bool) → bytes_eq a (codes "p") ≡ v → bytes_eq a (codes "s") ≡ w → bytes_eq a (codes "b") ≡ x → bytes_eq a (codes "c") ≡ y → bytes_eq a (codes "o") ≡ z
        → (if v then Some Fifo else (if w then Some Socket else (if x then Some Block else (if y then Some Char else (if z then Some Fifo else None))))) ≡ Some s
        → second is_blank (a ++ 32 ∷ rest) ≡ true
    step true w x y z a1 a2 a3 a4 a5 e = letter_is a (codes "p") rest a1 refl
    step false true x y z a1 a2 a3 a4 a5 e = letter_is a (codes "s") rest a2 refl
    step false false true y z a1 a2 a3 a4 a5 e = letter_is a (codes "b") rest a3 refl
    step false false false true z a1 a2 a3 a4 a5 e = letter_is a (codes "c") rest a4 refl
    step false false false false true a1 a2 a3 a4 a5 e = letter_is a (codes "o") rest a5 refl
    step false false false false false a1 a2 a3 a4 a5 e = cc

pub letter_second : (a : List ℕ) (v : Value) (rest : List ℕ) → letter_value a ≡ Some v → second is_blank (a ++ 32 ∷ rest) ≡ true
letter_second a v rest e = step (bytes_eq a (codes "d")) (bytes_eq a (codes "f")) (special_of a) refl refl refl e
  where
    step : (x y : Bool) (o : Option special.Special) → bytes_eq a (codes "d") ≡ x → bytes_eq a (codes "f") ≡ y → special_of a ≡ o
        → (if x then Some (Dir []) else (if y then Some Reg else option_map (λ s. Special s) o)) ≡ Some v → second is_blank (a ++ 32 ∷ rest) ≡ true
    step true y o p q r e = letter_is a (codes "d") rest p refl
    step false true o p q r e = letter_is a (codes "f") rest q refl
    step false false (Some s) p q r e = special_second a s rest r
    step false false None p q r e = cc

pub link_second : (a target : List ℕ) (v : Value) (rest : List ℕ) → link_value a target ≡ Some v → second is_blank (a ++ 32 ∷ rest) ≡ true
link_second a target v rest e = step (bytes_eq a (codes "l")) refl e
  where
    step : (x : Bool) → bytes_eq a (codes "l") ≡ x → (if x then option_map (λ bytes. Link bytes) (shown_of target) else None) ≡ Some v
        → second is_blank (a ++ 32 ∷ rest) ≡ true
    step true p e = letter_is a (codes "l") rest p refl
    step false p e = cc

abbrev pub has : {X : Type 0} → Option X → Bool
has None = false
has (Some x) = true

pub some_first : {X Y A : Type 0} (o : Option X) (f : X → Option Y) → has (option_and_then f o) ≡ true → ((x : X) → o ≡ Some x → A) → A
some_first None f e more = cc
some_first (Some x) f e more = more x refl

-- lines that are read have a space behind their letter, where each that can be read has
pub each_marked : {X : Type 0} (says : List ℕ → Option X) → ((l : List ℕ) → has (says l) ≡ true → second is_blank l ≡ true)
    → (ls : List (List ℕ)) (xs : List X) → list_all is_line ls ≡ true → map says ls ≡ map Some xs → list_all (is_marked is_blank) ls ≡ true
each_marked says marks [] xs h e = refl
each_marked says marks (l ∷ ls) [] h e = cc
each_marked says marks (l ∷ ls) (x ∷ xs) h e =
    let k = and_parts (is_line l) (list_all is_line ls) h in
    let first : says l ≡ Some x = cc in
    let rest : map says ls ≡ map Some xs = cc in
    and_from (is_marked is_blank l) (list_all (is_marked is_blank) ls) (and_from (lacks 10 l) (second is_blank l) k.0 (marks l (ap has first)))
    (each_marked says marks ls xs k.1 rest)

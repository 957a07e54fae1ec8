-- The text of a whole report determines it.
use Rattle.std.proofs.Common.{◌≡◌, ℕ, suc, ◌+◌, ◌^◌, ◌<◌, ◌≤◌, Bool, true, false, List, [], ◌∷◌, ◌++◌, length, map, drop, refl, sym, ap, ◌∙◌, arith, append_assoc, append-nil, decimal}
use Rattle.std.specs.Prelude.{not, ◌==◌, ◌&&◌, codes}
use Rattle.std.specs.List.{flat_map, list_all, join_with_byte}
use Rattle.std.proofs.lemmas.Bool.{and_parts}
use Rattle.script_names.specs.declared.mark.Mark.{Mark}
use Rattle.shown_texts.specs.Lines.{line, lines_text}
use Rattle.shown_texts.specs.Marks.{mark_text, is_mark}
use Rattle.shown_texts.specs.Parts.{lacks}
use Rattle.shown_texts.proofs.Lists.{all_both}
use Rattle.feature_trees.specs.declared.kind.Kind.TheVariants as kind
use Rattle.feature_trees.specs.declared.shape.Entry.{Entry}
use Rattle.feature_trees.specs.declared.value.Value.{Value}
use Rattle.feature_trees.specs.declared.value.Value.TheVariants.{Absent, Reg, Link, Special, Dir}
use Rattle.feature_trees.specs.declared.version.Version.{Version}
use Rattle.feature_trees.specs.declared.version.Version.TheVariants.{Second}
use Rattle.feature_trees.specs.Shape.{count_all}
use Rattle.feature_trees.specs.Tree.{kind_of}
use Rattle.feature_trees.specs.TreeText.{tree_lines, tree_text}
use Rattle.feature_trees.proofs.LinesBack.{listed, lines_listed}
use Rattle.tree_clauses.specs.declared.clause.Clause.{Clause}
use Rattle.tree_clauses.specs.declared.clause.Literal.{Literal}
use Rattle.tree_clauses.specs.ClauseRead.{is_var, is_literal, is_clause, clause_of}
use Rattle.tree_clauses.specs.ClauseText.{literal_content, literal_text, clause_text}
use Rattle.tree_clauses.proofs.ClauseLaw.{clause_read}
use Rattle.dpkg_scenarios.specs.declared.scenario.Ending.{Ending}
use Rattle.scenario_runs.specs.declared.call.ScriptCall.{ScriptCall}
use Rattle.outcome_report.specs.declared.outcome_report.ReportEntry.{ReportEntry}
use Rattle.outcome_report.specs.declared.outcome_report.ReportPart.{ReportPart}
use Rattle.outcome_report.specs.declared.outcome_report.Report.{Report}
use Rattle.report_text.specs.declared.places.EndPlace.{EndPlace}
use Rattle.report_text.specs.Numbered.{AreNumbered, AllNumbered}
use Rattle.report_text.specs.PieceRead.{result_of, trace_of, call_of, is_ending, is_call}
use Rattle.report_text.specs.PlaceText.{place_line, places_text}
use Rattle.dpkg_scenarios.specs.Names.{scenario_name}
use Rattle.dpkg_scenarios.proofs.Named.{any_named, any_read}
use Rattle.report_text.specs.ReportText.{result_text, outcome_line, trace_mark, trace_line, confirmed_line, call_content, call_line, trees_text, entry_text}
use Rattle.report_text.specs.ReportText.{scenario_line, part_text, verdict_line, report_text}
use Rattle.report_text.specs.TextLaws.{TextsTellReports}
use Rattle.report_text.specs.Whole.{IsRepresentableTree, IsRepresentableEntry, AllRepresentable, AllPartsRepresentable, IsWholeEntry, AllWhole, AllPartsWhole}
use Rattle.report_text.proofs.Blocks.{same_behind, front_apart, line_apart, second, is_marked, lines_apart, read_apart, each_apart, wrong}
use Rattle.report_text.proofs.LowTexts.{low}
use Rattle.report_text.proofs.PieceReading.{scenario_shown, result_read, trace_read, call_read}
use Rattle.report_text.proofs.ShownBytes.{no_space, no_newline, number_shown}
use Rattle.report_text.proofs.TreeTexts.{lines_marked, lines_low, lines_told}
use Rattle.report_text.proofs.WholeLines.{outcome_content, outcome_lacks, trace_content, trace_lacks, confirmed_content, confirmed_lacks, is_a, calls_marked, head_content, head_lacks, is_no_h, literals_marked, is_blank}

-- ---- the tree, the clause and the calls at the front of a text

-- the lines of a tree
pub record TreeBlock (v : Value) : Type 0 where
  pub lines : List (List ℕ)
  pub are : lines ≡ tree_lines v
  pub marked : list_all (is_marked is_blank) lines ≡ true
  pub low : list_all low lines ≡ true

pub tree_block : (v : Value) → kind_of v ≡ kind.Dir → IsRepresentableTree v → TreeBlock v
tree_block Absent d h = cc
tree_block Reg d h = cc
tree_block (Link b) d h = cc
tree_block (Special k) d h = cc
tree_block (Dir es) d h = record {
  lines = listed (count_all es) [] es;
  are = lines_listed (count_all es) [] es (omega arith);
  marked = lines_marked (count_all es) es (refl, h.sound, h.bytes);
  low = lines_low (count_all es) [] es (refl, h.sound, h.bytes);
}

-- the lines of a tree are texts of ASCII
pub tree_low : (v : Value) → IsRepresentableTree v → list_all low (tree_lines v) ≡ true
tree_low Absent h = refl
tree_low Reg h = refl
tree_low (Link b) h = refl
tree_low (Special k) h = refl
tree_low (Dir es) h = let block = tree_block (Dir es) refl h in ap (list_all low) (sym block.are) ∙ block.low

entries_apart_by_lines : (es fs : List Entry) (s t : List ℕ) → IsRepresentableTree (Dir es) → IsRepresentableTree (Dir fs) → second is_blank s ≡ false → second is_blank t ≡ false
    → tree_text (Dir es) ++ s ≡ tree_text (Dir fs) ++ t → (Dir es ≡ Dir fs) × (s ≡ t)
unfolding tree_block
entries_apart_by_lines es fs s t h g a b e =
    let x = tree_block (Dir es) refl h in
    let y = tree_block (Dir fs) refl g in
    let both = lines_apart is_blank x.lines y.lines s t x.marked y.marked a b (ap (λ ls. lines_text ls ++ s) x.are ∙ e ∙ sym (ap (λ ls. lines_text ls ++ t) y.are)) in
    (ap Dir (lines_told es fs (refl, h.sound, h.bytes) (refl, g.sound, g.bytes) both.0), both.1)

directory_apart : (es : List Entry) (w : Value) (s t : List ℕ) → kind_of w ≡ kind.Dir → IsRepresentableTree (Dir es) → IsRepresentableTree w
    → second is_blank s ≡ false → second is_blank t ≡ false → tree_text (Dir es) ++ s ≡ tree_text w ++ t → (Dir es ≡ w) × (s ≡ t)
directory_apart es Absent s t d h g a b e = cc
directory_apart es Reg s t d h g a b e = cc
directory_apart es (Link x) s t d h g a b e = cc
directory_apart es (Special k) s t d h g a b e = cc
directory_apart es (Dir fs) s t d h g a b e = entries_apart_by_lines es fs s t h g a b e

pub tree_apart : (v w : Value) (s t : List ℕ) → kind_of v ≡ kind.Dir → kind_of w ≡ kind.Dir → IsRepresentableTree v → IsRepresentableTree w
    → second is_blank s ≡ false → second is_blank t ≡ false → tree_text v ++ s ≡ tree_text w ++ t → (v ≡ w) × (s ≡ t)
tree_apart Absent w s t c d h g a b e = cc
tree_apart Reg w s t c d h g a b e = cc
tree_apart (Link x) w s t c d h g a b e = cc
tree_apart (Special k) w s t c d h g a b e = cc
tree_apart (Dir es) w s t c d h g a b e = directory_apart es w s t d h g a b e

pub literals_spelled : (version : Version) (ls : List Literal) → flat_map (literal_text version) ls ≡ lines_text (map (literal_content version) ls)
literals_spelled version [] = refl
literals_spelled version (l ∷ ls) = ap (λ t. literal_text version l ++ t) (literals_spelled version ls)

clause_apart : (c d : Clause) (s t : List ℕ) → is_clause c ≡ true → is_clause d ≡ true → second is_no_h s ≡ false → second is_no_h t ≡ false
    → clause_text Second c ++ s ≡ clause_text Second d ++ t → (c ≡ d) × (s ≡ t)
clause_apart c d s t h g a b e =
    let k = and_parts (is_var c.start) (is_var c.now && list_all is_literal c.literals) h in
    let l = and_parts (is_var c.now) (list_all is_literal c.literals) k.1 in
    let m = and_parts (is_var d.start) (is_var d.now && list_all is_literal d.literals) g in
    let n = and_parts (is_var d.now) (list_all is_literal d.literals) m.1 in
    let heads = line_apart (head_content c) (head_content d) (flat_map (literal_text Second) c.literals ++ s) (flat_map (literal_text Second) d.literals ++ t)
    (head_lacks c k.0 l.0) (head_lacks d m.0 n.0)
    (sym (append_assoc (line (head_content c)) (flat_map (literal_text Second) c.literals) s) ∙ e ∙ append_assoc (line (head_content d)) (flat_map (literal_text Second) d.literals) t) in
    let both = lines_apart is_no_h (map (literal_content Second) c.literals) (map (literal_content Second) d.literals) s t (literals_marked Second c.literals l.1) (literals_marked Second d.literals n.1) a b
    (ap (λ x. x ++ s) (sym (literals_spelled Second c.literals)) ∙ heads.1 ∙ ap (λ x. x ++ t) (literals_spelled Second d.literals)) in
    let lines = literals_spelled Second c.literals ∙ ap lines_text both.0 ∙ sym (literals_spelled Second d.literals) in
    let same : clause_text Second c ≡ clause_text Second d = λ i. line (heads.0 i) ++ lines i in
    (read_apart (clause_text Second) clause_of c d (clause_read Second c h refl) (clause_read Second d g refl) same, both.1)

pub calls_spelled : (calls : List ScriptCall) → flat_map call_line calls ≡ lines_text (map call_content calls)
unfolding call_line
calls_spelled [] = refl
calls_spelled (call ∷ calls) = ap (λ t. line (call_content call) ++ t) (calls_spelled calls)

calls_apart : (xs ys : List ScriptCall) (s t : List ℕ) → list_all is_call xs ≡ true → list_all is_call ys ≡ true → second is_a s ≡ false → second is_a t ≡ false
    → flat_map call_line xs ++ s ≡ flat_map call_line ys ++ t → (xs ≡ ys) × (s ≡ t)
calls_apart xs ys s t h g a b e =
    let both = lines_apart is_a (map call_content xs) (map call_content ys) s t (calls_marked xs h) (calls_marked ys g) a b
    (ap (λ x. x ++ s) (sym (calls_spelled xs)) ∙ e ∙ ap (λ x. x ++ t) (calls_spelled ys)) in
    (each_apart call_content call_of is_call call_read xs ys h g both.0, both.1)

-- ---- the first two lines

ending_apart : (n m k : ℕ) (x y : Ending) → m ≡ n → k ≡ n → is_ending x ≡ true → is_ending y ≡ true → outcome_content m x ≡ outcome_content k y → x ≡ y
ending_apart n m k x y p q h g e =
    let moved : outcome_content n x ≡ outcome_content n y = ap (λ i. outcome_content i x) (sym p) ∙ e ∙ ap (λ i. outcome_content i y) q in
    read_apart result_text result_of x y (result_read x h) (result_read y g)
    (same_behind ((codes "outcome " ++ decimal n) ++ codes " ") (result_text x) (result_text y) moved)

pub marks_joined : (m : Mark) (ms : List Mark) → mark_text m ++ flat_map trace_mark ms ≡ join_with_byte 32 (map mark_text (m ∷ ms))
marks_joined m [] = append-nil (mark_text m)
marks_joined m (n ∷ ms) = ap (λ r. mark_text m ++ 32 ∷ r) (marks_joined n ms)

-- marks, each behind a space, without the first space
pub trace_joined : (ms : List Mark) → drop 1 (flat_map trace_mark ms) ≡ join_with_byte 32 (map mark_text ms)
trace_joined [] = refl
trace_joined (m ∷ ms) = marks_joined m ms

trace_apart : (x y : List Mark) → list_all is_mark x ≡ true → list_all is_mark y ≡ true → trace_content x ≡ trace_content y → x ≡ y
trace_apart x y h g e =
    let marks = same_behind (codes "trace") (flat_map trace_mark x) (flat_map trace_mark y) e in
    read_apart (λ ms. join_with_byte 32 (map mark_text ms)) trace_of x y (trace_read x h) (trace_read y g)
    (sym (trace_joined x) ∙ ap (drop 1) marks ∙ trace_joined y)

-- ---- an entry

regrouped : (o t c k l h x f y s : List ℕ)
    → ((((((o ++ t) ++ c) ++ k) ++ l) ++ (((h ++ x) ++ f) ++ y)) ++ s) ≡ o ++ (t ++ (c ++ (k ++ (l ++ (h ++ (x ++ (f ++ (y ++ s))))))))
regrouped o t c k l h x f y s = simp append_assoc

-- what stands behind the line of calls
abbrev behind_calls : ReportEntry → List ℕ → List ℕ
behind_calls e s =
    clause_text Second e.outcome.clause ++ (line (codes "shown") ++ (tree_text e.outcome.shown ++ (line (codes "after") ++ (tree_text e.replayed.after ++ s))))

entry_grouped : (e : ReportEntry) (s : List ℕ)
    → entry_text e ++ s
    ≡ line (outcome_content e.outcome.number e.outcome.ending)
    ++ (line (trace_content e.outcome.trace) ++ (line (confirmed_content e.confirmed) ++ (flat_map call_line e.replayed.calls ++ behind_calls e s)))
unfolding entry_text trees_text outcome_line trace_line confirmed_line
entry_grouped e s =
    regrouped (line (outcome_content e.outcome.number e.outcome.ending)) (line (trace_content e.outcome.trace)) (line (confirmed_content e.confirmed))
    (flat_map call_line e.replayed.calls) (clause_text Second e.outcome.clause) (line (codes "shown")) (tree_text e.outcome.shown) (line (codes "after"))
    (tree_text e.replayed.after) s

module _ (n : ℕ) (x y : ReportEntry) (s t : List ℕ) (p : x.outcome.number ≡ n) (q : y.outcome.number ≡ n) (h : IsRepresentableEntry x) (g : IsRepresentableEntry y)
    (v : IsWholeEntry x) (w : IsWholeEntry y) (a : second is_blank s ≡ false) (b : second is_blank t ≡ false) where
  pub entry_apart : entry_text x ++ s ≡ entry_text y ++ t → (x ≡ y) × (s ≡ t)
  entry_apart e =
      let first = line_apart (outcome_content x.outcome.number x.outcome.ending) (outcome_content y.outcome.number y.outcome.ending) _ _
      (outcome_lacks x.outcome.number x.outcome.ending (omega (arith, h.number)) h.ending)
      (outcome_lacks y.outcome.number y.outcome.ending (omega (arith, g.number)) g.ending) (sym (entry_grouped x s) ∙ e ∙ entry_grouped y t) in
      let second_line = line_apart (trace_content x.outcome.trace) (trace_content y.outcome.trace) _ _ (trace_lacks x.outcome.trace h.trace) (trace_lacks y.outcome.trace g.trace) first.1 in
      let third = line_apart (confirmed_content x.confirmed) (confirmed_content y.confirmed) _ _ (confirmed_lacks x.confirmed) (confirmed_lacks y.confirmed) second_line.1 in
      let calls = calls_apart x.replayed.calls y.replayed.calls (behind_calls x s) (behind_calls y t) h.calls g.calls refl refl third.1 in
      let clauses = clause_apart x.outcome.clause y.outcome.clause _ _ h.clause g.clause refl refl calls.1 in
      let shown_line = same_behind (line (codes "shown")) _ _ clauses.1 in
      let shown = tree_apart x.outcome.shown y.outcome.shown _ _ v.shown w.shown h.shown g.shown refl refl shown_line in
      let after_line = same_behind (line (codes "after")) _ _ shown.1 in
      let after = tree_apart x.replayed.after y.replayed.after s t v.after w.after h.after g.after a b after_line in
      let ending = ending_apart n x.outcome.number y.outcome.number x.outcome.ending y.outcome.ending p q h.ending g.ending first.0 in
      let trace = trace_apart x.outcome.trace y.outcome.trace h.trace g.trace second_line.0 in
      let number : x.outcome.number ≡ y.outcome.number = p ∙ sym q in
      let end_again : x.replayed.ending ≡ y.replayed.ending = v.agrees.ending ∙ ending ∙ sym w.agrees.ending in
      let trace_again : x.replayed.trace ≡ y.replayed.trace = v.agrees.trace ∙ trace ∙ sym w.agrees.trace in
      let confirmed : x.confirmed ≡ y.confirmed = v.confirmed ∙ sym w.confirmed in
      let same : x ≡ y = λ i. record {
        outcome = record { number = number i; ending = ending i; trace = trace i; clause = clauses.0 i; shown = shown.0 i };
        replayed = record { ending = end_again i; trace = trace_again i; after = after.0 i; calls = calls.0 i };
        confirmed = confirmed i;
      } in
      (same, after.1)

-- ---- entries

abbrev is_u : ℕ → Bool
is_u b = b == 117

entry_begins : (e : ReportEntry) (s : List ℕ) → second is_u (entry_text e ++ s) ≡ true
unfolding entry_text outcome_line
entry_begins e s = refl

entry_no_blank : (e : ReportEntry) (s : List ℕ) → second is_blank (entry_text e ++ s) ≡ false
unfolding entry_text outcome_line
entry_no_blank e s = refl

entries_no_blank : (es : List ReportEntry) (s : List ℕ) → second is_blank s ≡ false → second is_blank (flat_map entry_text es ++ s) ≡ false
entries_no_blank [] s a = a
entries_no_blank (e ∷ es) s a = ap (second is_blank) (append_assoc (entry_text e) (flat_map entry_text es) s) ∙ entry_no_blank e (flat_map entry_text es ++ s)

entries_begin : (e : ReportEntry) (es : List ReportEntry) (s : List ℕ) → second is_u (flat_map entry_text (e ∷ es) ++ s) ≡ true
entries_begin e es s = ap (second is_u) (append_assoc (entry_text e) (flat_map entry_text es) s) ∙ entry_begins e (flat_map entry_text es ++ s)

entries_apart : (n : ℕ) (xs ys : List ReportEntry) (s t : List ℕ) → AreNumbered n xs → AreNumbered n ys → AllRepresentable xs → AllRepresentable ys → AllWhole xs → AllWhole ys
    → second is_blank s ≡ false → second is_blank t ≡ false → second is_u s ≡ false → second is_u t ≡ false
    → flat_map entry_text xs ++ s ≡ flat_map entry_text ys ++ t → (xs ≡ ys) × (s ≡ t)
entries_apart n [] [] s t p q h g v w a b c d e = (refl, e)
entries_apart n [] (y ∷ ys) s t p q h g v w a b c d e = wrong (second is_u s) (ap (second is_u) e ∙ entries_begin y ys t) c
entries_apart n (x ∷ xs) [] s t p q h g v w a b c d e = wrong (second is_u t) (ap (second is_u) (sym e) ∙ entries_begin x xs s) d
entries_apart n (x ∷ xs) (y ∷ ys) s t p q h g v w a b c d e =
    let one = entry_apart n x y (flat_map entry_text xs ++ s) (flat_map entry_text ys ++ t) p.0 q.0 h.0 g.0 v.0 w.0 (entries_no_blank xs s a) (entries_no_blank ys t b)
    (sym (append_assoc (entry_text x) (flat_map entry_text xs) s) ∙ e ∙ append_assoc (entry_text y) (flat_map entry_text ys) t) in
    let more = entries_apart (suc n) xs ys s t p.1 q.1 h.1 g.1 v.1 w.1 a b c d one.1 in
    (λ i. one.0 i ∷ more.0 i, more.1)

-- ---- parts

places_stop : (p : ℕ → Bool) → p 108 ≡ false → (es : List (EndPlace × ℕ)) (s : List ℕ) → second p s ≡ false → second p (flat_map place_line es ++ s) ≡ false
unfolding place_line
places_stop p apart [] s a = a
places_stop p apart (e ∷ es) s a = ap (second p) (append_assoc (place_line e) (flat_map place_line es) s) ∙ apart

few : (n : ℕ) (es : List ReportEntry) → n ≤ 2 ^ 32 → AreNumbered n es → AllRepresentable es → n + length es ≤ 2 ^ 32
few n [] l p h = omega arith
few n (e ∷ es) l p h =
    let small = h.0.number in
    let same = p.0 in
    omega (arith, few (suc n) es (omega (arith, same, small)) p.1 h.1)

abbrev scenario_content : ReportPart → List ℕ
scenario_content part = codes "scenario " ++ scenario_name part.scenario ++ codes " outcomes " ++ decimal (length part.entries)

scenario_lacks : (part : ReportPart) → AreNumbered 1 part.entries → AllRepresentable part.entries → lacks 10 (scenario_content part) ≡ true
scenario_lacks part p h =
    let is = λ (b : ℕ). not (b == 10) in
    let small : length part.entries < 2 ^ 64 = omega (arith, few 1 part.entries (omega arith) p h) in
    all_both is ((codes "scenario " ++ scenario_name part.scenario) ++ codes " outcomes ") (decimal (length part.entries))
    (all_both is (codes "scenario " ++ scenario_name part.scenario) (codes " outcomes ")
    (all_both is (codes "scenario ") (scenario_name part.scenario) refl (no_newline (scenario_name part.scenario) (scenario_shown part.scenario))) refl)
    (no_newline (decimal (length part.entries)) (number_shown (length part.entries) small))

name_front : (a b c d : List ℕ) → (((a ++ b) ++ c) ++ d) ≡ a ++ (b ++ (c ++ d))
name_front a b c d = simp append_assoc

scenario_apart : (x y : ReportPart) → scenario_content x ≡ scenario_content y → x.scenario ≡ y.scenario
scenario_apart x y e =
    let grouped = sym (name_front (codes "scenario ") (scenario_name x.scenario) (codes " outcomes ") (decimal (length x.entries)))
    ∙ e ∙ name_front (codes "scenario ") (scenario_name y.scenario) (codes " outcomes ") (decimal (length y.entries)) in
    let behind = same_behind (codes "scenario ") _ _ grouped in
    let names = front_apart (λ b. not (b == 32)) (scenario_name x.scenario) (scenario_name y.scenario) (codes " outcomes " ++ decimal (length x.entries))
    (codes " outcomes " ++ decimal (length y.entries)) (no_space (scenario_name x.scenario) (scenario_shown x.scenario)) (no_space (scenario_name y.scenario) (scenario_shown y.scenario))
    refl refl behind in
    read_apart scenario_name any_named x.scenario y.scenario (any_read x.scenario) (any_read y.scenario) names.0

part_grouped : (part : ReportPart) (s : List ℕ)
    → part_text part ++ s ≡ line (scenario_content part) ++ (flat_map entry_text part.entries ++ (places_text part.entries ++ s))
unfolding part_text scenario_line
part_grouped part s = name_front (line (scenario_content part)) (flat_map entry_text part.entries) (places_text part.entries) s

part_apart : (x y : ReportPart) (s t : List ℕ) → AreNumbered 1 x.entries → AreNumbered 1 y.entries → AllRepresentable x.entries → AllRepresentable y.entries → AllWhole x.entries
    → AllWhole y.entries → second is_blank s ≡ false → second is_blank t ≡ false → second is_u s ≡ false → second is_u t ≡ false
    → part_text x ++ s ≡ part_text y ++ t → (x ≡ y) × (s ≡ t)
part_apart x y s t p q h g v w a b c d e =
    let heads = line_apart (scenario_content x) (scenario_content y) _ _ (scenario_lacks x p h) (scenario_lacks y q g) (sym (part_grouped x s) ∙ e ∙ part_grouped y t) in
    let scenario = scenario_apart x y heads.0 in
    let entries = entries_apart 1 x.entries y.entries (places_text x.entries ++ s) (places_text y.entries ++ t) p q h g v w
    (places_stop is_blank refl _ s a) (places_stop is_blank refl _ t b) (places_stop is_u refl _ s c) (places_stop is_u refl _ t d) heads.1 in
    let rest = same_behind (places_text x.entries) s t (entries.1 ∙ ap (λ es. places_text es ++ t) (sym entries.0)) in
    (λ i. record { scenario = scenario i; entries = entries.0 i }, rest)

abbrev is_c : ℕ → Bool
is_c b = b == 99

part_second : (p : ℕ → Bool) (part : ReportPart) (s : List ℕ) → second p (part_text part ++ s) ≡ p 99
unfolding part_text scenario_line
part_second p part s = refl

parts_second : (p : ℕ → Bool) (part : ReportPart) (parts : List ReportPart) (s : List ℕ) → second p (flat_map part_text (part ∷ parts) ++ s) ≡ p 99
parts_second p part parts s = ap (second p) (append_assoc (part_text part) (flat_map part_text parts) s) ∙ part_second p part (flat_map part_text parts ++ s)

parts_stop : (p : ℕ → Bool) → p 99 ≡ false → (parts : List ReportPart) (s : List ℕ) → second p s ≡ false → second p (flat_map part_text parts ++ s) ≡ false
parts_stop p apart [] s a = a
parts_stop p apart (part ∷ parts) s a = parts_second p part parts s ∙ apart

parts_apart : (xs ys : List ReportPart) (s t : List ℕ) → AllNumbered xs → AllNumbered ys → AllPartsRepresentable xs → AllPartsRepresentable ys → AllPartsWhole xs → AllPartsWhole ys
    → ((p : ℕ → Bool) → second p s ≡ p 101) → ((p : ℕ → Bool) → second p t ≡ p 101)
    → flat_map part_text xs ++ s ≡ flat_map part_text ys ++ t → xs ≡ ys
parts_apart [] [] s t p q h g v w a b e = refl
parts_apart [] (y ∷ ys) s t p q h g v w a b e = wrong (second is_c s) (ap (second is_c) e ∙ parts_second is_c y ys t) (a is_c)
parts_apart (x ∷ xs) [] s t p q h g v w a b e = wrong (second is_c t) (ap (second is_c) (sym e) ∙ parts_second is_c x xs s) (b is_c)
parts_apart (x ∷ xs) (y ∷ ys) s t p q h g v w a b e =
    let one = part_apart x y (flat_map part_text xs ++ s) (flat_map part_text ys ++ t) p.0 q.0 h.0 g.0 v.0 w.0
    (parts_stop is_blank refl xs s (a is_blank)) (parts_stop is_blank refl ys t (b is_blank)) (parts_stop is_u refl xs s (a is_u)) (parts_stop is_u refl ys t (b is_u))
    (sym (append_assoc (part_text x) (flat_map part_text xs) s) ∙ e ∙ append_assoc (part_text y) (flat_map part_text ys) t) in
    let more = parts_apart xs ys s t p.1 q.1 h.1 g.1 v.1 w.1 a b one.1 in
    λ i. one.0 i ∷ more i

-- ---- a report

verdict_second : (p : ℕ → Bool) (report : Report) → second p (verdict_line report) ≡ p 101
unfolding verdict_line
verdict_second p report = refl

report_grouped : (report : Report) → report_text report ≡ line (codes "colis report 2") ++ (flat_map part_text report.parts ++ verdict_line report)
unfolding report_text
report_grouped report = append_assoc (line (codes "colis report 2")) (flat_map part_text report.parts) (verdict_line report)

pub texts_tell : TextsTellReports
texts_tell x y h g v w e =
    let behind = same_behind (line (codes "colis report 2")) _ _ (sym (report_grouped x) ∙ e ∙ report_grouped y) in
    let parts = parts_apart x.parts y.parts (verdict_line x) (verdict_line y) v.numbered w.numbered h g v.entries w.entries
    (λ p. verdict_second p x) (λ p. verdict_second p y) behind in
    λ i. record { parts = parts i }

-- In every text of one word the same forms are found, but for what its substitutions hold.
use Rattle.std.proofs.Common.{◌≡◌, ℕ, zero, suc, Bool, true, false, if◌then◌else◌, nat_le, List, Option, Some, None, codes, refl, sym, ap, ◌∙◌}
use Rattle.shell_syntax.specs.declared.form.Form.{Form}
use Rattle.shell_syntax.specs.declared.form.Form.TheVariants as form
use Rattle.shell_lexer.specs.declared.token.RawPart.{RawPart}
use Rattle.token_laws.specs.Laws.{PartsAreSpelled}
use Rattle.shell_lexer.specs.Parts.{look, inner}
use Rattle.shell_lexer.specs.Late.{late, all_args, first_all, is_all_word, tilde, brace, is_plainly, subst_case, found, sooner}
use Rattle.token_laws.specs.PrintedLaws.{holds_no_all}
use Rattle.shell_lexer.specs.Reading.{Read}
use Rattle.shell_printing.proofs.Backs.{true_false}
use Rattle.shell_printing.proofs.WordNotes.{no_tilde, no_brace, are_plainly, Says}
use Rattle.token_laws.proofs.PrintedNotes.{is_none, nothing_found, no_fault, if_none}

none_of : {A : Type 0} (o : Option A) → is_none o ≡ true → o ≡ None
none_of None e = refl
none_of (Some x) e = absurd (true_false (sym e))

sooner_first : (a b : Option (ℕ × Form)) → sooner a b ≡ None → a ≡ None
sooner_first None b e = refl
sooner_first (Some a) None e = absurd (cc e)
sooner_first (Some a) (Some b) e = absurd (by (nat_le a.0 b.0) e) where
  by : (t : Bool) → (if t then Some a else Some b) ≡ None → ⊥
  by true e = cc e
  by false e = cc e

sooner_second : (a b : Option (ℕ × Form)) → sooner a b ≡ None → b ≡ None
sooner_second None b e = e
sooner_second (Some a) b e = absurd (none_of_some (sooner_first (Some a) b e)) where
  none_of_some : Some a ≡ None → ⊥
  none_of_some e = cc e

case_same : (depth at two : ℕ) (ns ms : _) → is_plainly (codes "case") ns ≡ is_plainly (codes "case") ms → subst_case depth at ns ≡ None → subst_case depth two ms ≡ None
case_same zero at two ns ms e h = refl
case_same (suc depth) at two ns ms e h = by (is_plainly (codes "case") ns) (is_plainly (codes "case") ms) e h where
  by : (x y : Bool) → x ≡ y → (if x then Some at else None) ≡ None → (if y then Some two else None) ≡ None
  by true y e h = absurd (cc h)
  by false true e h = absurd (true_false (sym e))
  by false false e h = refl

module _ (outside : PartsAreSpelled look false) (inside : PartsAreSpelled inner true) where
  -- nothing is found in one text of a word where nothing is found in another
  pub late_same : (ps qs : List RawPart) (v w : Read) (depth at two : ℕ) → Says outside inside ps v → Says outside inside qs w → no_tilde qs true ≡ no_tilde ps true → no_brace qs ≡ no_brace ps → are_plainly qs (codes "case") ≡ are_plainly ps (codes "case")
      → holds_no_all qs ≡ true → late depth at v.1 ≡ None → late depth two w.1 ≡ None
  late_same ps qs v w depth at two s k tildes braces plain none e =
      let a = found form.AllArgs (all_args v.1) in
      let t = found form.Tilde (tilde true v.1) in
      let b = found form.Brace (brace v.1) in
      let c = found form.SubstCase (subst_case depth at v.1) in
      let nothing = no_fault (sooner a (sooner t (sooner b c))) e in
      let behind = sooner_second a (sooner t (sooner b c)) nothing in
      let last = sooner_second t (sooner b c) behind in
      let no_t = nothing_found form.Tilde (tilde true v.1) (sooner_first t (sooner b c) behind) in
      let no_b = nothing_found form.Brace (brace v.1) (sooner_first b c last) in
      let no_c = nothing_found form.SubstCase (subst_case depth at v.1) (sooner_second b c last) in
      let all_none : all_args w.1 ≡ None = if_none (is_all_word w.1) (first_all w.1) (k.4 none) in
      let tilde_none : tilde true w.1 ≡ None = none_of (tilde true w.1) (k.0 true ∙ tildes ∙ sym (s.0 true) ∙ ap is_none no_t) in
      let brace_none : brace w.1 ≡ None = none_of (brace w.1) (k.2 ∙ braces ∙ sym s.2 ∙ ap is_none no_b) in
      let case_none : subst_case depth two w.1 ≡ None = case_same depth at two v.1 w.1 (s.3 (codes "case") ∙ sym plain ∙ sym (k.3 (codes "case"))) no_c in
      rw (all_none, tilde_none, brace_none, case_none) refl

-- Where a word begins, and what stands behind one: by the tests of the first byte, one after another.
use Rattle.std.proofs.Common.{◌≡◌, ℕ, Bool, true, false, ◌||◌, nat_eq, [], ◌∷◌, Option, Some, None, refl, sym, ap, ◌∙◌, subst}
use Rattle.shell_syntax.specs.declared.redirect.Redirect.{Redirect}
use Rattle.shell_lexer.specs.Operators.{Sight, Word, sight_by, sight_at, sight, less, greater, copied, redirected, out_to, in_from, copy_of, whole_word, null_word}
use Rattle.shell_lexer.specs.Parts.{Ends, look_by, look_at, look, dollar, escaped, has_quote}
use Rattle.token_laws.specs.PrintedLaws.{is_apart}
use Rattle.script_names.specs.ShellNames.{is_digit, is_letter}
use Rattle.shell_lexer.specs.Text.{Bytes, kind, is_blank, is_special, skip, place, tail, head_is, cells, run_of}
use Rattle.shell_printing.proofs.CutDollars.{either, IsDollar, dollar_seen}
use Rattle.shell_printing.proofs.WordBytes.{After, Steady, skip_first, eq_of, neither}
use Rattle.shell_printing.proofs.WordParts.{steady_head}

-- ---- what is seen as an operator is seen as no word

abbrev NotWord : Sight → Type 0
NotWord Word = ⊥
NotWord _ = Unit {0}

not_word : (s : Sight) → NotWord s → s ≡ Word → ⊥
not_word s n e = subst NotWord e n

redirected_not : (at : ℕ) (which : Option Redirect) (rest : Option Bytes) → NotWord (redirected at which rest)
redirected_not at None rest = tt
redirected_not at (Some which) None = tt
redirected_not at (Some which) (Some rest) = tt

copied_not : (at : ℕ) (number text : Bytes) → NotWord (copied at number text)
copied_not at number [] = tt
copied_not at number (b ∷ rest) = redirected_not at (copy_of number b) (whole_word (Some rest))

less_not : (at : ℕ) (number rest : Bytes) → NotWord (less at number rest)
less_not at number rest = either NotWord (head_is 60 (skip rest)) tt (redirected_not at (in_from number) (null_word rest))

greater_not : (at : ℕ) (number rest : Bytes) → NotWord (greater at number rest)
greater_not at number rest =
    either NotWord (head_is 62 (skip rest)) (redirected_not at (out_to number) (null_word (tail (skip rest))))
    (either NotWord (head_is 38 (skip rest)) (copied_not at number (skip (tail (skip rest)))) (redirected_not at (out_to number) (null_word rest)))

escaped_no_end : (c : ℕ) (u : Bytes) → escaped c u ≡ Ends → ⊥
escaped_no_end c [] h = cc h
escaped_no_end c (x ∷ u) h = cc h

dollar_no_end : (at : ℕ) (u : Bytes) → dollar false at u (skip u) ≡ Ends → ⊥
dollar_no_end at u h = subst (IsDollar u) h (dollar_seen u false at (skip u))

-- ---- a byte with which a word begins

-- it begins one before any text
module _ (len at c : ℕ) (u : Bytes) (all two : ℕ) (t : Bytes) where
  first_sight : Steady (c ∷ t) → sight_by len at c (kind c) u ≡ Word → sight_by all two c (kind c) t ≡ Word
  first_sight s =
      either (λ it. sight_by len at c it u ≡ Word → sight_by all two c it t ≡ Word) (is_blank c) (λ e. absurd (not_word _ tt e))
      (either (λ it. sight_by len at c it u ≡ Word → sight_by all two c it t ≡ Word) (nat_eq c 10) (λ e. absurd (not_word _ tt e))
      (either (λ it. sight_by len at c it u ≡ Word → sight_by all two c it t ≡ Word) (nat_eq c 59) (λ e. absurd (not_word _ (either NotWord (head_is 59 (skip u)) tt tt) e))
      (either (λ it. sight_by len at c it u ≡ Word → sight_by all two c it t ≡ Word) (nat_eq c 38) (λ e. absurd (not_word _ (either NotWord (head_is 38 (skip u)) tt tt) e))
      (either (λ it. sight_by len at c it u ≡ Word → sight_by all two c it t ≡ Word) (nat_eq c 124) (λ e. absurd (not_word _ (either NotWord (head_is 124 (skip u)) tt tt) e))
      (either (λ it. sight_by len at c it u ≡ Word → sight_by all two c it t ≡ Word) (nat_eq c 40) (λ e. absurd (not_word _ (either NotWord (head_is 40 (skip u)) tt tt) e))
      (either (λ it. sight_by len at c it u ≡ Word → sight_by all two c it t ≡ Word) (nat_eq c 41) (λ e. absurd (not_word _ tt e))
      (either (λ it. sight_by len at c it u ≡ Word → sight_by all two c it t ≡ Word) (nat_eq c 60) (λ e. absurd (not_word _ (less_not at [] u) e))
      (either (λ it. sight_by len at c it u ≡ Word → sight_by all two c it t ≡ Word) (nat_eq c 62) (λ e. absurd (not_word _ (greater_not at [] u) e))
      (either (λ it. sight_by len at c it u ≡ Word → sight_by all two c it t ≡ Word) (nat_eq c 35) (λ e. absurd (not_word _ tt e))
      (either (λ it. sight_by len at c it u ≡ Word → sight_by all two c it t ≡ Word) (nat_eq c 39) (λ e. refl)
      (either (λ it. sight_by len at c it u ≡ Word → sight_by all two c it t ≡ Word) (nat_eq c 34) (λ e. refl)
      (either (λ it. sight_by len at c it u ≡ Word → sight_by all two c it t ≡ Word) (nat_eq c 92) (λ e. refl)
      (either (λ it. sight_by len at c it u ≡ Word → sight_by all two c it t ≡ Word) (nat_eq c 96) (λ e. refl)
      (either (λ it. sight_by len at c it u ≡ Word → sight_by all two c it t ≡ Word) (nat_eq c 36) (λ e. refl)
      (either (λ it. sight_by len at c it u ≡ Word → sight_by all two c it t ≡ Word) (nat_eq c 123) (λ e. refl)
      (either (λ it. sight_by len at c it u ≡ Word → sight_by all two c it t ≡ Word) (nat_eq c 64) (λ e. refl)
      (either (λ it. sight_by len at c it u ≡ Word → sight_by all two c it t ≡ Word) (is_special c) (λ e. refl)
      (either (λ it. sight_by len at c it u ≡ Word → sight_by all two c it t ≡ Word) (is_digit c) (λ e. s all (run_of is_digit (cells (c ∷ t))))
      (either (λ it. sight_by len at c it u ≡ Word → sight_by all two c it t ≡ Word) (is_letter c) (λ e. refl) (λ e. refl))))))))))))))))))))

pub word_front : (len : ℕ) (text : Bytes) (c : ℕ) (u : Bytes) (all : ℕ) (t : Bytes) → skip text ≡ c ∷ u → skip (c ∷ t) ≡ c ∷ t → sight len text ≡ Word → Steady (c ∷ t) → sight all (c ∷ t) ≡ Word
word_front len text c u all t e f h s =
    let seen : sight_by len (place len (c ∷ u)) c (kind c) u ≡ Word = sym (ap (λ x. sight_at len (place len x) x) e) ∙ h in
    ap (λ x. sight_at all (place all x) x) f ∙ first_sight len (place len (c ∷ u)) c u all (place all (c ∷ t)) t s seen

-- ---- where a word begins none ends

at_front : (len at : ℕ) (x : Bytes) → sight_at len at x ≡ Word → look_at at x ≡ Ends → ⊥
at_front len at [] e h = not_word _ tt e
at_front len at (c ∷ u) e h = by e h where
  by : sight_by len at c (kind c) u ≡ Word → look_by at c (kind c) u ≡ Ends → ⊥
  by =
      either (λ it. sight_by len at c it u ≡ Word → look_by at c it u ≡ Ends → ⊥) (is_blank c) (λ e. absurd (not_word _ tt e))
      (either (λ it. sight_by len at c it u ≡ Word → look_by at c it u ≡ Ends → ⊥) (nat_eq c 10) (λ e. absurd (not_word _ tt e))
      (either (λ it. sight_by len at c it u ≡ Word → look_by at c it u ≡ Ends → ⊥) (nat_eq c 59) (λ e. absurd (not_word _ (either NotWord (head_is 59 (skip u)) tt tt) e))
      (either (λ it. sight_by len at c it u ≡ Word → look_by at c it u ≡ Ends → ⊥) (nat_eq c 38) (λ e. absurd (not_word _ (either NotWord (head_is 38 (skip u)) tt tt) e))
      (either (λ it. sight_by len at c it u ≡ Word → look_by at c it u ≡ Ends → ⊥) (nat_eq c 124) (λ e. absurd (not_word _ (either NotWord (head_is 124 (skip u)) tt tt) e))
      (either (λ it. sight_by len at c it u ≡ Word → look_by at c it u ≡ Ends → ⊥) (nat_eq c 40) (λ e. absurd (not_word _ (either NotWord (head_is 40 (skip u)) tt tt) e))
      (either (λ it. sight_by len at c it u ≡ Word → look_by at c it u ≡ Ends → ⊥) (nat_eq c 41) (λ e. absurd (not_word _ tt e))
      (either (λ it. sight_by len at c it u ≡ Word → look_by at c it u ≡ Ends → ⊥) (nat_eq c 60) (λ e. absurd (not_word _ (less_not at [] u) e))
      (either (λ it. sight_by len at c it u ≡ Word → look_by at c it u ≡ Ends → ⊥) (nat_eq c 62) (λ e. absurd (not_word _ (greater_not at [] u) e))
      (either (λ it. sight_by len at c it u ≡ Word → look_by at c it u ≡ Ends → ⊥) (nat_eq c 35) (λ e. absurd (not_word _ tt e))
      (either (λ it. sight_by len at c it u ≡ Word → look_by at c it u ≡ Ends → ⊥) (nat_eq c 39) (λ e h. neither (has_quote u) (λ e. cc e) (λ e. cc e) h)
      (either (λ it. sight_by len at c it u ≡ Word → look_by at c it u ≡ Ends → ⊥) (nat_eq c 34) (λ e h. cc h)
      (either (λ it. sight_by len at c it u ≡ Word → look_by at c it u ≡ Ends → ⊥) (nat_eq c 92) (λ e h. escaped_no_end c u h)
      (either (λ it. sight_by len at c it u ≡ Word → look_by at c it u ≡ Ends → ⊥) (nat_eq c 96) (λ e h. cc h)
      (either (λ it. sight_by len at c it u ≡ Word → look_by at c it u ≡ Ends → ⊥) (nat_eq c 36) (λ e h. dollar_no_end at u h)
      (either (λ it. sight_by len at c it u ≡ Word → look_by at c it u ≡ Ends → ⊥) (nat_eq c 123) (λ e h. cc h)
      (either (λ it. sight_by len at c it u ≡ Word → look_by at c it u ≡ Ends → ⊥) (nat_eq c 64) (λ e h. cc h)
      (either (λ it. sight_by len at c it u ≡ Word → look_by at c it u ≡ Ends → ⊥) (is_special c) (λ e h. cc h)
      (either (λ it. sight_by len at c it u ≡ Word → look_by at c it u ≡ Ends → ⊥) (is_digit c) (λ e h. cc h)
      (either (λ it. sight_by len at c it u ≡ Word → look_by at c it u ≡ Ends → ⊥) (is_letter c) (λ e h. cc h) (λ e h. cc h))))))))))))))))))))

pub begins_none : (len : ℕ) (text : Bytes) → sight len text ≡ Word → look len text ≡ Ends → ⊥
begins_none len text e h = at_front len (place len (skip text)) (skip text) e h

-- ---- what stands behind a printed word

apart_cases : (P : ℕ → Type 0) → P 32 → P 10 → (b : ℕ) → (nat_eq b 32 || nat_eq b 10) ≡ true → P b
apart_cases P p q b e = by (nat_eq b 32) refl e where
  by : (it : Bool) → nat_eq b 32 ≡ it → (it || nat_eq b 10) ≡ true → P b
  by true f g = subst P (sym (eq_of b 32 f)) p
  by false f g = subst P (sym (eq_of b 10 g)) q

pub ends_here : (all : ℕ) (behind : Bytes) → is_apart behind ≡ true → look all behind ≡ Ends
ends_here all [] e = refl
ends_here all (b ∷ t) e =
    apart_cases (λ x. look all (x ∷ t) ≡ Ends) (ap (λ u. look_at (place all u) u) (skip_first 32 t refl)) (ap (λ u. look_at (place all u) u) (skip_first 10 t refl)) b e

pub apart_follows : (behind : Bytes) → is_apart behind ≡ true → After (skip behind)
apart_follows [] e = tt
apart_follows (b ∷ t) e =
    apart_cases (λ x. After (skip (x ∷ t))) (subst After (sym (skip_first 32 t refl)) (λ at rest more. refl)) (subst After (sym (skip_first 10 t refl)) (λ at rest more. refl)) b e

pub apart_steady : (behind : Bytes) → is_apart behind ≡ true → Steady behind
apart_steady [] e = λ len number. refl
apart_steady (b ∷ t) e = apart_cases (λ x. Steady (x ∷ t)) (steady_head 32 t refl refl (λ n number more. refl)) (steady_head 10 t refl refl (λ n number more. refl)) b e

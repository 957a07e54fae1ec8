-- What a byte's kind says of the byte, and what bytes have a kind.
use Rattle.std.proofs.Common.{◌≡◌, ℕ, true, false, nat_eq, refl, sym, ap, ◌∙◌, arith}
use Rattle.std.proofs.lemmas.Grind.{common_steps}
use Rattle.shell_lexer.specs.declared.byte_kind.ByteKind.{ByteKind}
use Rattle.shell_lexer.specs.declared.byte_kind.ByteKind.TheVariants as k
use Rattle.script_names.specs.ShellNames.{is_digit, is_letter}
use Rattle.shell_lexer.specs.Text.{kind, word_kind, is_blank, is_special}
use Rattle.std.proofs.lemmas.Bool.{cond_both, eqb-true}

abbrev pub KindOf : ℕ → ByteKind → Type 0
KindOf b k.Blank = is_blank b ≡ true
KindOf b k.Newline = b ≡ 10
KindOf b k.Semi = b ≡ 59
KindOf b k.Amp = b ≡ 38
KindOf b k.Bar = b ≡ 124
KindOf b k.Open = b ≡ 40
KindOf b k.Close = b ≡ 41
KindOf b k.Less = b ≡ 60
KindOf b k.Greater = b ≡ 62
KindOf b k.Hash = b ≡ 35
KindOf b k.Single = b ≡ 39
KindOf b k.Double = b ≡ 34
KindOf b k.Back = b ≡ 92
KindOf b k.Tick = b ≡ 96
KindOf b k.Dollar = b ≡ 36
KindOf b k.Brace = b ≡ 123
KindOf b k.At = b ≡ 64
KindOf b k.Special = is_special b ≡ true
KindOf b k.Digit = is_digit b ≡ true
KindOf b k.Name = is_letter b ≡ true
KindOf b k.Other = (is_digit b ≡ false) × (is_letter b ≡ false)

word_kind_of : (b : ℕ) → KindOf b (word_kind b)
word_kind_of b =
    cond_both (nat_eq b 39) _ _ (KindOf b) (eqb-true b 39) (λ e.
    cond_both (nat_eq b 34) _ _ (KindOf b) (eqb-true b 34) (λ e.
    cond_both (nat_eq b 92) _ _ (KindOf b) (eqb-true b 92) (λ e.
    cond_both (nat_eq b 96) _ _ (KindOf b) (eqb-true b 96) (λ e.
    cond_both (nat_eq b 36) _ _ (KindOf b) (eqb-true b 36) (λ e.
    cond_both (nat_eq b 123) _ _ (KindOf b) (eqb-true b 123) (λ e.
    cond_both (nat_eq b 64) _ _ (KindOf b) (eqb-true b 64) (λ e.
    cond_both (is_special b) _ _ (KindOf b) (λ e. e) (λ e.
    cond_both (is_digit b) _ _ (KindOf b) (λ e. e) (λ d.
    cond_both (is_letter b) _ _ (KindOf b) (λ e. e) (λ l. (d, l)))))))))))

pub kind_of : (b : ℕ) → KindOf b (kind b)
kind_of b =
    cond_both (is_blank b) _ _ (KindOf b) (λ e. e) (λ e.
    cond_both (nat_eq b 10) _ _ (KindOf b) (eqb-true b 10) (λ e.
    cond_both (nat_eq b 59) _ _ (KindOf b) (eqb-true b 59) (λ e.
    cond_both (nat_eq b 38) _ _ (KindOf b) (eqb-true b 38) (λ e.
    cond_both (nat_eq b 124) _ _ (KindOf b) (eqb-true b 124) (λ e.
    cond_both (nat_eq b 40) _ _ (KindOf b) (eqb-true b 40) (λ e.
    cond_both (nat_eq b 41) _ _ (KindOf b) (eqb-true b 41) (λ e.
    cond_both (nat_eq b 60) _ _ (KindOf b) (eqb-true b 60) (λ e.
    cond_both (nat_eq b 62) _ _ (KindOf b) (eqb-true b 62) (λ e.
    cond_both (nat_eq b 35) _ _ (KindOf b) (eqb-true b 35) (λ e. word_kind_of b))))))))))

no_digit : (b : ℕ) → is_letter b ≡ true → is_digit b ≡ true → ⊥
no_digit b h e = grind (arith, common_steps)

-- a digit's kind, a letter's
digit_by : (b : ℕ) (it : ByteKind) → KindOf b it → is_digit b ≡ true → it ≡ k.Digit
digit_by b k.Digit h e = refl
digit_by b k.Blank h e = absurd (blank b h e) where
  blank : (b : ℕ) → is_blank b ≡ true → is_digit b ≡ true → ⊥
  blank b h e = grind (arith, common_steps)
digit_by b k.Special h e = absurd (special b h e) where
  special : (b : ℕ) → is_special b ≡ true → is_digit b ≡ true → ⊥
  special b h e = grind (arith, common_steps)
digit_by b k.Name h e = absurd (letter b h e) where
  letter : (b : ℕ) → is_letter b ≡ true → is_digit b ≡ true → ⊥
  letter b h e = grind (arith, common_steps)
digit_by b k.Other h e = absurd (cc (sym h.0 ∙ e))
digit_by b k.Newline h e = absurd (cc (sym (ap is_digit h) ∙ e))
digit_by b k.Semi h e = absurd (cc (sym (ap is_digit h) ∙ e))
digit_by b k.Amp h e = absurd (cc (sym (ap is_digit h) ∙ e))
digit_by b k.Bar h e = absurd (cc (sym (ap is_digit h) ∙ e))
digit_by b k.Open h e = absurd (cc (sym (ap is_digit h) ∙ e))
digit_by b k.Close h e = absurd (cc (sym (ap is_digit h) ∙ e))
digit_by b k.Less h e = absurd (cc (sym (ap is_digit h) ∙ e))
digit_by b k.Greater h e = absurd (cc (sym (ap is_digit h) ∙ e))
digit_by b k.Hash h e = absurd (cc (sym (ap is_digit h) ∙ e))
digit_by b k.Single h e = absurd (cc (sym (ap is_digit h) ∙ e))
digit_by b k.Double h e = absurd (cc (sym (ap is_digit h) ∙ e))
digit_by b k.Back h e = absurd (cc (sym (ap is_digit h) ∙ e))
digit_by b k.Tick h e = absurd (cc (sym (ap is_digit h) ∙ e))
digit_by b k.Dollar h e = absurd (cc (sym (ap is_digit h) ∙ e))
digit_by b k.Brace h e = absurd (cc (sym (ap is_digit h) ∙ e))
digit_by b k.At h e = absurd (cc (sym (ap is_digit h) ∙ e))

pub digit_kind : (b : ℕ) → is_digit b ≡ true → kind b ≡ k.Digit
digit_kind b e = digit_by b (kind b) (kind_of b) e

letter_by : (b : ℕ) (it : ByteKind) → KindOf b it → is_letter b ≡ true → it ≡ k.Name
letter_by b k.Name h e = refl
letter_by b k.Blank h e = absurd (blank b h e) where
  blank : (b : ℕ) → is_blank b ≡ true → is_letter b ≡ true → ⊥
  blank b h e = grind (arith, common_steps)
letter_by b k.Special h e = absurd (special b h e) where
  special : (b : ℕ) → is_special b ≡ true → is_letter b ≡ true → ⊥
  special b h e = grind (arith, common_steps)
letter_by b k.Digit h e = absurd (no_digit b e h)
letter_by b k.Other h e = absurd (cc (sym h.1 ∙ e))
letter_by b k.Newline h e = absurd (cc (sym (ap is_letter h) ∙ e))
letter_by b k.Semi h e = absurd (cc (sym (ap is_letter h) ∙ e))
letter_by b k.Amp h e = absurd (cc (sym (ap is_letter h) ∙ e))
letter_by b k.Bar h e = absurd (cc (sym (ap is_letter h) ∙ e))
letter_by b k.Open h e = absurd (cc (sym (ap is_letter h) ∙ e))
letter_by b k.Close h e = absurd (cc (sym (ap is_letter h) ∙ e))
letter_by b k.Less h e = absurd (cc (sym (ap is_letter h) ∙ e))
letter_by b k.Greater h e = absurd (cc (sym (ap is_letter h) ∙ e))
letter_by b k.Hash h e = absurd (cc (sym (ap is_letter h) ∙ e))
letter_by b k.Single h e = absurd (cc (sym (ap is_letter h) ∙ e))
letter_by b k.Double h e = absurd (cc (sym (ap is_letter h) ∙ e))
letter_by b k.Back h e = absurd (cc (sym (ap is_letter h) ∙ e))
letter_by b k.Tick h e = absurd (cc (sym (ap is_letter h) ∙ e))
letter_by b k.Dollar h e = absurd (cc (sym (ap is_letter h) ∙ e))
letter_by b k.Brace h e = absurd (cc (sym (ap is_letter h) ∙ e))
letter_by b k.At h e = absurd (cc (sym (ap is_letter h) ∙ e))

pub letter_kind : (b : ℕ) → is_letter b ≡ true → kind b ≡ k.Name
letter_kind b e = letter_by b (kind b) (kind_of b) e

-- A text without the newlines at its end is one text alone.
use Rattle.std.proofs.Common.{◌≡◌, ℕ, zero, suc, Bool, true, false, [], ◌∷◌, ◌++◌, refl, sym, ap, subst, ◌∙◌}
use Rattle.std.proofs.Common.{if◌then◌else◌}
use Rattle.std.specs.Prelude.{nat_eq, replicate}
use Rattle.std.proofs.lemmas.Bool.{eqb-true, eqb-false}
use Rattle.shell_words.specs.Trimmed.{IsTrimmed}
use Rattle.shell_rules.specs.State.{Text}
use Rattle.shell_rules.specs.Expansion.{before_trimmed, trimmed}

-- newlines alone
trimmed_newlines : (n : ℕ) → trimmed (replicate n 10) ≡ []
trimmed_newlines zero = refl
trimmed_newlines (suc n) = ap (before_trimmed 10) (trimmed_newlines n)

by_test : (b : ℕ) (test : Bool) → nat_eq b 10 ≡ test → (b ≡ 10 → ⊥)
    → (if test then (let none : Text = [] in none) else b ∷ []) ≡ b ∷ []
by_test b true e no_newline = absurd (no_newline (eqb-true b 10 e))
by_test b false e no_newline = refl

kept_byte : (b : ℕ) → (b ≡ 10 → ⊥) → (if nat_eq b 10 then (let none : Text = [] in none) else b ∷ []) ≡ b ∷ []
kept_byte b no_newline = by_test b (nat_eq b 10) refl no_newline

trimmed_behind : (left : Text) (n : ℕ) → ((front : Text) → left ≡ front ++ 10 ∷ [] → ⊥)
    → trimmed (left ++ replicate n 10) ≡ left
trimmed_behind [] n ends = trimmed_newlines n
trimmed_behind (b ∷ []) n ends =
    ap (before_trimmed b) (trimmed_newlines n) ∙ kept_byte b (λ e. ends [] (ap (λ x. x ∷ []) e))
trimmed_behind (b ∷ c ∷ rest) n ends =
    ap (before_trimmed b) (trimmed_behind (c ∷ rest) n (λ front e. ends (b ∷ front) (ap (λ x. b ∷ x) e)))

pub trimmed_is : (text left : Text) → IsTrimmed text left → left ≡ trimmed text
trimmed_is text left h = sym (ap trimmed h.whole ∙ trimmed_behind left h.newlines h.ends)

-- ---- the trimmed text is one

no_byte : (front : Text) → (let none : Text = [] in none) ≡ front ++ 10 ∷ [] → ⊥
no_byte [] e = cc
no_byte (b ∷ front) e = cc

one_byte : (b : ℕ) (front : Text) → b ∷ [] ≡ front ++ 10 ∷ [] → b ≡ 10
one_byte b [] e = cc
one_byte b (c ∷ front) e = absurd (no_byte front (cc e))

behind_byte : (b c : ℕ) (rest : Text) → ((front : Text) → c ∷ rest ≡ front ++ 10 ∷ [] → ⊥) → (front : Text)
    → b ∷ c ∷ rest ≡ front ++ 10 ∷ [] → ⊥
behind_byte b c rest h [] e = cc
behind_byte b c rest h (d ∷ front) e = h front (cc e)

last_byte : (b n : ℕ) (rest : Text) (test : Bool) → nat_eq b 10 ≡ test → rest ≡ replicate n 10
    → IsTrimmed (b ∷ rest) (if test then (let none : Text = [] in none) else b ∷ [])
last_byte b n rest true e h = record {
  newlines = suc n;
  whole = ap (λ x. x ∷ rest) (eqb-true b 10 e) ∙ ap (λ x. 10 ∷ x) h;
  ends = λ front f. no_byte front f;
}
last_byte b n rest false e h = record {
  newlines = n;
  whole = ap (λ x. b ∷ x) h;
  ends = λ front f. eqb-false b 10 e (one_byte b front f);
}

byte_trims : (b : ℕ) (rest left : Text) → IsTrimmed rest left → IsTrimmed (b ∷ rest) (before_trimmed b left)
byte_trims b rest [] h = last_byte b h.newlines rest (nat_eq b 10) refl h.whole
byte_trims b rest (c ∷ left) h = record {
  newlines = h.newlines;
  whole = ap (λ x. b ∷ x) h.whole;
  ends = behind_byte b c left h.ends;
}

trims : (text : Text) → IsTrimmed text (trimmed text)
trims [] = record { newlines = 0; whole = refl; ends = λ front e. no_byte front e }
trims (b ∷ rest) = byte_trims b rest (trimmed rest) (trims rest)

pub is_trimmed : (text left : Text) → left ≡ trimmed text → IsTrimmed text left
is_trimmed text left e = subst (λ x. IsTrimmed text x) (sym e) (trims text)

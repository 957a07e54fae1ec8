-- Different byte strings are spelled differently.
use Rattle.std.proofs.Common.{◌≡◌, ℕ, ◌+◌, ◌/◌, ◌%◌, ◌<◌, ◌≤◌, Bool, true, false, nat_lt, List, [], ◌∷◌, ◌++◌, drop, get_or, cond, refl, sym, ap, subst, arith}
use Rattle.std.proofs.lemmas.Bool.{ltb-true, ltb-false}
use Rattle.std.specs.List.{flat_map}
use Rattle.shown_texts.specs.Show.{is_literal, hex_digit, shown_byte, show}

less : (n : ℕ) → nat_lt n 10 ≡ true → n < 10
less n h = ltb-true n 10 h

more : (n : ℕ) → nat_lt n 10 ≡ false → 10 ≤ n
more n h = ltb-false n 10 h

digit_apart : (m n : ℕ) → hex_digit m ≡ hex_digit n → m ≡ n
digit_apart m n e = step (nat_lt m 10) (nat_lt n 10) refl refl e
  where
    step : (p q : Bool) → nat_lt m 10 ≡ p → nat_lt n 10 ≡ q → cond p (m + 48) (m + 87) ≡ cond q (n + 48) (n + 87) → m ≡ n
    step true true a b e = omega (arith, e)
    step true false a b e = omega (arith, e, less m a, more n b)
    step false true a b e = omega (arith, e, more m a, less n b)
    step false false a b e = omega (arith, e)

escaped : ℕ → List ℕ
escaped b = 92 ∷ 120 ∷ hex_digit (b / 16) ∷ hex_digit (b % 16) ∷ []

parts : (b c : ℕ) → b / 16 ≡ c / 16 → b % 16 ≡ c % 16 → b ≡ c
parts b c d m = omega (arith, d, m)

no_literal : {A : Type 0} (b : ℕ) → is_literal b ≡ true → b ≡ 92 → A
no_literal b h e = let g = subst (λ (x : ℕ). is_literal x ≡ true) e h in cc

byte_apart : (b c : ℕ) (s t : List ℕ) → shown_byte b ++ s ≡ shown_byte c ++ t → (b ≡ c) × (s ≡ t)
unfolding escaped
byte_apart b c s t e = step (is_literal b) (is_literal c) refl refl e
  where
    step : (p q : Bool) → is_literal b ≡ p → is_literal c ≡ q → cond p (b ∷ []) (escaped b) ++ s ≡ cond q (c ∷ []) (escaped c) ++ t → (b ≡ c) × (s ≡ t)
    step true true g h e = (ap (λ (l : List ℕ). get_or l 0 0) e, ap (λ (l : List ℕ). drop 1 l) e)
    step true false g h e = no_literal b g (ap (λ (l : List ℕ). get_or l 0 0) e)
    step false true g h e = no_literal c h (sym (ap (λ (l : List ℕ). get_or l 0 0) e))
    step false false g h e = (
      parts b c (digit_apart (b / 16) (c / 16) (ap (λ (l : List ℕ). get_or l 2 0) e)) (digit_apart (b % 16) (c % 16) (ap (λ (l : List ℕ). get_or l 3 0) e)),
      ap (λ (l : List ℕ). drop 4 l) e,
    )

not_empty : {A : Type 0} (b : ℕ) (s : List ℕ) → shown_byte b ++ s ≡ [] → A
not_empty {A = A} b s e = step (is_literal b) e
  where
    step : (p : Bool) → cond p (b ∷ []) (92 ∷ 120 ∷ hex_digit (b / 16) ∷ hex_digit (b % 16) ∷ []) ++ s ≡ [] → A
    step true e = cc
    step false e = cc

bytes_apart : (bs cs : List ℕ) → flat_map shown_byte bs ≡ flat_map shown_byte cs → bs ≡ cs
bytes_apart [] [] e = refl
bytes_apart [] (c ∷ cs) e = not_empty c (flat_map shown_byte cs) (sym e)
bytes_apart (b ∷ bs) [] e = not_empty b (flat_map shown_byte bs) e
bytes_apart (b ∷ bs) (c ∷ cs) e =
    let both = byte_apart b c (flat_map shown_byte bs) (flat_map shown_byte cs) e in
    let rest = bytes_apart bs cs both.1 in
    λ i. both.0 i ∷ rest i

-- `\e` is no spelling of bytes
not_none : {A : Type 0} (b : ℕ) (s : List ℕ) → shown_byte b ++ s ≡ 92 ∷ 101 ∷ [] → A
not_none {A = A} b s e = step (is_literal b) refl e
  where
    step : (p : Bool) → is_literal b ≡ p → cond p (b ∷ []) (92 ∷ 120 ∷ hex_digit (b / 16) ∷ hex_digit (b % 16) ∷ []) ++ s ≡ 92 ∷ 101 ∷ [] → A
    step true h e = no_literal b h (ap (λ (l : List ℕ). get_or l 0 0) e)
    step false h e = let g = ap (λ (l : List ℕ). get_or l 1 0) e in cc

pub shown_apart : (bytes others : List ℕ) → show bytes ≡ show others → bytes ≡ others
shown_apart [] [] e = refl
shown_apart [] (c ∷ cs) e = not_none c (flat_map shown_byte cs) (sym e)
shown_apart (b ∷ bs) [] e = not_none b (flat_map shown_byte bs) e
shown_apart (b ∷ bs) (c ∷ cs) e = bytes_apart (b ∷ bs) (c ∷ cs) e

-- Numbers on a command line.
use Rattle.std.proofs.Common.{◌≡◌, ℕ, ◌^◌, ◌<◌, ◌≤◌, true, List, [], ◌∷◌, length, drop, refl, sym, ap, subst, arith}
use Rattle.std.specs.Prelude.{cond, nat_le}
use Rattle.std.specs.List.{list_all}
use Rattle.std.specs.Str.Parse.{AllDigits, IsNumeral, digits_value, without_leading_plus}
use Rattle.std.proofs.Math.Nat.{pow-le-pow_right}
use Rattle.std.proofs.lemmas.Bool.{leb-true, and_parts, ne_eqb}
use Rattle.std.proofs.lemmas.Str.{digit_value_digit}
use Rattle.std.proofs.lemmas.Int.Digits.{digits_value-lt}
use Rattle.script_names.specs.ShellNames.{is_digit}

-- a digit has its value
digit : (b : ℕ) → is_digit b ≡ true → (48 ≤ b) × (b ≤ 57)
digit b h = let parts = and_parts (nat_le 48 b) (nat_le b 57) h in (leb-true 48 b parts.0, leb-true b 57 parts.1)

all_digits : (text : List ℕ) → list_all is_digit text ≡ true → AllDigits 10 text
all_digits [] h = tt
all_digits (b ∷ text) h =
    let parts = and_parts (is_digit b) (list_all is_digit text) h in
    let d = digit b parts.0 in
    let value = digit_value_digit b d in
    (omega (arith, value, d.1), all_digits text parts.1)

-- so no plus stands first
no_plus : (text : List ℕ) → list_all is_digit text ≡ true → without_leading_plus text ≡ text
no_plus [] h = refl
no_plus (b ∷ text) h =
    let d = digit b (and_parts (is_digit b) (list_all is_digit text) h).0 in
    ap (λ t. drop (cond t 1 0) (b ∷ text)) (ne_eqb b 43 (λ e. absurd (omega (arith, d.0, e))))

-- 1 to 6 digits are a numeral that fits 32 bits
pub reads : (text : List ℕ) → list_all is_digit text ≡ true → 0 < length text → length text ≤ 6
    → IsNumeral 10 (without_leading_plus text) × (digits_value 10 (without_leading_plus text) < 2 ^ 32)
reads text digits some few =
    let all = all_digits text digits in
    let low = digits_value-lt 10 text all in
    let high = pow-le-pow_right {n = 10} (omega arith) {i = length text} {j = 6} few in
    let fits : digits_value 10 text < 2 ^ 32 = omega (arith, low, high) in
    subst (λ t. IsNumeral 10 t × (digits_value 10 t < 2 ^ 32)) (sym (no_plus text digits)) ((some, all), fits)

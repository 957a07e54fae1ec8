-- The digits of a number are read as the number.
use Rattle.std.proofs.Common.{◌≡◌, ℕ, zero, suc, ◌^◌, ◌<◌, Bool, true, false, nat_lt, nat_le, nat_eq, List, length, get_or, Some, None, refl, sym, ap, ◌∙◌, arith, decimal}
use Rattle.std.specs.Prelude.{◌&&◌, ◌||◌, ◌==◌, not, slice_index, if◌then◌else◌}
use Rattle.std.specs.List.{list_all}
use Rattle.std.specs.Str.Parse.{digits_value}
use Rattle.std.proofs.lemmas.Bool.{ltb-true, leb-true, eqb-true, lt-ltb, le-leb, eq-eqb, ne_eqb, and_parts, and_from}
use Rattle.std.proofs.lemmas.Str.Parse.{IsDigitsTest, IsNumeralModel, numerals_by_value}
use Rattle.std.proofs.lemmas.Fmt.{digits_decimal, digits_value-decimal, decimal-digits_value, decimal_digit, decimal_nonempty, first_decimal}
use Rattle.shown_texts.specs.Numbers.{is_numeral, number_of}
use Rattle.script_names.specs.ShellNames.{is_digit}
use Rattle.shown_texts.specs.Parts.{lacks}
use Rattle.shown_texts.proofs.Lists.{all_weaker}
use Rattle.shown_texts.proofs.LineTexts.{some_same}

-- digits, as the test tells them
abbrev AreDigits : List ℕ → Type 0
AreDigits ds = list_all is_digit ds ≡ true

tells : IsDigitsTest AreDigits
tells = record {
  empty = refl;
  parts = λ c cs e. let k = and_parts (is_digit c) (list_all is_digit cs) e in let m = and_parts (nat_le 48 c) (nat_le c 57) k.0 in ((leb-true 48 c m.0, leb-true c 57 m.1), k.1);
  more = λ c cs k e. and_from (is_digit c) (list_all is_digit cs) (and_from (nat_le 48 c) (nat_le c 57) (le-leb 48 c k.0) (le-leb c 57 k.1)) e;
}

own : IsNumeralModel AreDigits (digits_value 10)
own = numerals_by_value AreDigits tells

-- the digits of a number are digits
pub decimal_digits : (n : ℕ) → n < 2 ^ 64 → list_all is_digit (decimal n) ≡ true
decimal_digits n small = digits_decimal own n small

abbrev is_led : List ℕ → Bool
is_led ds = nat_eq (length ds) 1 || not (slice_index ds 0 == 48)

or_true : (b c : Bool) → c ≡ true → (b || c) ≡ true
or_true true c e = refl
or_true false c e = e

decimal_led : (n : ℕ) → n < 2 ^ 64 → is_led (decimal n) ≡ true
decimal_led zero small = ap is_led (decimal_digit 0 (omega arith))
decimal_led (suc n) small =
    let more : 48 < get_or (decimal (suc n)) 0 0 = first_decimal (suc n) (omega arith) small in
    or_true (nat_eq (length (decimal (suc n))) 1) _ (ap not (ne_eqb (get_or (decimal (suc n)) 0 0) 48 (λ e. omega (arith, e, more))))

decimal_numeral : (n : ℕ) → n < 2 ^ 64 → is_numeral (decimal n) ≡ true
decimal_numeral n small =
    and_from (nat_lt 0 (length (decimal n))) _ (lt-ltb 0 (length (decimal n)) (decimal_nonempty n small))
    (and_from (list_all is_digit (decimal n)) (is_led (decimal n)) (decimal_digits n small) (decimal_led n small))

pub number_read : (most n : ℕ) → most < 2 ^ 64 → nat_le n most ≡ true → number_of most (decimal n) ≡ Some n
number_read most n fits h =
    let small : n < 2 ^ 64 = omega (arith, leb-true n most h) in
    ap (λ v. if is_numeral (decimal n) && nat_le v most then Some v else None) (digits_value-decimal own n small)
    ∙ ap (λ t. if t then Some n else None) (and_from (is_numeral (decimal n)) (nat_le n most) (decimal_numeral n small) h)

led_alone : (text : List ℕ) → is_led text ≡ true → get_or text 0 0 ≡ 48 → length text ≡ 1
led_alone text h e = step (nat_eq (length text) 1) refl h
  where
    step : (t : Bool) → nat_eq (length text) 1 ≡ t → (t || not (slice_index text 0 == 48)) ≡ true → length text ≡ 1
    step true d h = eqb-true (length text) 1 d
    step false d h = let z = eq-eqb (get_or text 0 0) 48 e in cc

pub number_spelled : (most : ℕ) (text : List ℕ) (n : ℕ) → most < 2 ^ 64 → number_of most text ≡ Some n → decimal n ≡ text
number_spelled most text n fits e = step (is_numeral text && nat_le (digits_value 10 text) most) refl e
  where
    step : (t : Bool) → (is_numeral text && nat_le (digits_value 10 text) most) ≡ t → (if t then Some (digits_value 10 text) else None) ≡ Some n → decimal n ≡ text
    step true d e =
        let k = and_parts (is_numeral text) (nat_le (digits_value 10 text) most) d in
        let a = and_parts (nat_lt 0 (length text)) (list_all is_digit text && is_led text) k.0 in
        let b = and_parts (list_all is_digit text) (is_led text) a.1 in
        let small : digits_value 10 text < 2 ^ 64 = omega (arith, fits, leb-true (digits_value 10 text) most k.1) in
        ap decimal (sym (some_same (digits_value 10 text) n e)) ∙ decimal-digits_value own text b.0 (ltb-true 0 (length text) a.0) (led_alone text b.1) small
    step false d e = cc

digit_no_colon : (b : ℕ) → is_digit b ≡ true → not (b == 58) ≡ true
digit_no_colon b h =
    let m = and_parts (nat_le 48 b) (nat_le b 57) h in
    ap not (ne_eqb b 58 (λ e. omega (arith, e, leb-true b 57 m.1)))

-- no colon stands in a number
pub decimal_lacks : (n : ℕ) → n < 2 ^ 64 → lacks 58 (decimal n) ≡ true
decimal_lacks n small = all_weaker is_digit (λ b. not (b == 58)) digit_no_colon (decimal n) (decimal_digits n small)

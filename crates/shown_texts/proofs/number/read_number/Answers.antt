use Rattle.std.proofs.Common.{◌≡◌, ℕ, zero, suc, ◌+◌, ◌-◌, ◌*◌, ◌<◌, ◌≤◌, Bool, true, false, List, [], ◌∷◌, length, get_or, drop, Some, None, refl, sym, ap, ◌∙◌, arith, drop-cons, nat_le, nat_lt}
use Rattle.std.specs.Prelude.{◌&&◌, if◌then◌else◌}
use Rattle.std.specs.List.{list_all}
use Rattle.std.specs.Char.{digit_value}
use Rattle.std.specs.Str.Parse.{digits_value, digits_value_after}
use Rattle.std.proofs.lemmas.Bool.{leb-true, lt-leb, and_parts}
use Rattle.std.proofs.lemmas.Str.{digit_value_digit}
use Rattle.shown_texts.specs.Numbers.{is_numeral, number_of}
use Rattle.script_names.specs.ShellNames.{is_digit}
use Rattle.shown_texts.proofs.number.read_number.Goals as goal

grows : (n : ℕ) (ds : List ℕ) → n ≤ digits_value_after 10 n ds
grows n [] = omega arith
grows n (d ∷ ds) = omega (arith, grows (n * 10 + digit_value d) ds)

digit_at : (text : List ℕ) (i : ℕ) → i < length text → list_all is_digit text ≡ true → is_digit (get_or text i 0) ≡ true
digit_at [] i lt h = absurd (omega arith)
digit_at (d ∷ ds) zero lt h = (and_parts (is_digit d) (list_all is_digit ds) h).0
digit_at (d ∷ ds) (suc i) lt h = digit_at ds i (omega arith) (and_parts (is_digit d) (list_all is_digit ds) h).1

-- a number that has grown past the limit stays past it
too_large : (most n i : ℕ) (text : List ℕ) → i < length text → is_numeral text ≡ true → digits_value_after 10 n (drop i text) ≡ digits_value 10 text
    → most < n * 10 + (get_or text i 0 - 48) → None ≡ number_of most text
too_large most n i text lt h same past =
    let digits = (and_parts (list_all is_digit text) _ (and_parts (nat_lt 0 (length text)) _ h).1).0 in
    let d = and_parts (nat_le 48 (get_or text i 0)) (nat_le (get_or text i 0) 57) (digit_at text i lt digits) in
    let value = digit_value_digit (get_or text i 0) (leb-true 48 (get_or text i 0) d.0, leb-true (get_or text i 0) 57 d.1) in
    let next : digits_value_after 10 n (get_or text i 0 ∷ drop (suc i) text) ≡ digits_value 10 text = ap (digits_value_after 10 n) (sym (drop-cons text i 0 lt)) ∙ same in
    let large : most < digits_value 10 text = omega (arith, past, value, next, grows (n * 10 + digit_value (get_or text i 0)) (drop (suc i) text)) in
    sym (ap (λ t. if is_numeral text && t then Some (digits_value 10 text) else None) (lt-leb (digits_value 10 text) most large) ∙ none (is_numeral text))
  where
    none : (t : Bool) → (if t && false then Some (digits_value 10 text) else None) ≡ None
    none true = refl
    none false = refl

pub returns-then-number-from-clause-found : goal.returns-then-number-from-clause-found
returns-then-number-from-clause-found c =
    let past : c.args.most < c.loop-digit.number * 10 + (get_or c.args.text.now c.loop-digit.digit-index 0 - 48) = omega (arith, c.if-number-from.true, c.from-in-loop-digit.ensures, c.from.ensures) in
    too_large c.args.most c.loop-digit.number c.loop-digit.digit-index c.args.text.now c.loop-digit-test.true
    (sym c.is_numeral.ensures ∙ c.if-not-is_numeral.false) c.loop-digit.invariant.same past

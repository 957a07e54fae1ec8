-- The spelling of bytes is read as the bytes, and of which bytes it is made.
use Rattle.std.proofs.Common.{◌≡◌, ℕ, ◌+◌, ◌-◌, ◌*◌, ◌/◌, ◌%◌, ◌<◌, ◌≤◌, Bool, true, false, nat_lt, List, [], ◌∷◌, ◌++◌, length, Some, None, refl, sym, ap, ◌∙◌, subst, arith}
use Rattle.std.specs.Prelude.{◌==◌, codes, if◌then◌else◌}
use Rattle.std.specs.List.{flat_map, list_all}
use Rattle.std.specs.Str.{bytes_eq}
use Rattle.std.proofs.lemmas.Bool.{ltb-true, lt-ltb, le-ltb, eqb-true, and_parts, and_from}
use Rattle.std.proofs.lemmas.Slice.Eq.{bytes_eq-Decides}
use Rattle.script_names.specs.Paths.{is_filled}
use Rattle.shown_texts.specs.Show.{is_shown, is_literal, hex_digit, hex_value, shown_byte, show, escaped, bytes_after, if_spelled, shown_of}
use Rattle.shown_texts.proofs.Apart.{shown_apart}
use Rattle.shown_texts.proofs.Lists.{all_both}
use Rattle.shown_texts.proofs.LineTexts.{some_same}

abbrev pub is_byte : ℕ → Bool
is_byte b = nat_lt b 256

-- what a digit is worth
hex_back : (d : ℕ) → d < 16 → hex_value (hex_digit d) ≡ d
hex_back d small = step (nat_lt d 10) refl
  where
    step : (t : Bool) → nat_lt d 10 ≡ t → hex_value (if t then d + 48 else d + 87) ≡ d
    step true e = let l : nat_lt (d + 48) 58 ≡ true = lt-ltb (d + 48) 58 (omega (arith, ltb-true d 10 e)) in
        let same : (d + 48 - 48) % 16 ≡ d = omega arith in
        ap (λ t. (if t then d + 48 - 48 else d + 48 - 87) % 16) l ∙ same
    step false e = let l : nat_lt (d + 87) 58 ≡ false = le-ltb (d + 87) 58 (omega arith) in
        let same : (d + 87 - 87) % 16 ≡ d = omega arith in
        ap (λ t. (if t then d + 87 - 48 else d + 87 - 87) % 16) l ∙ same

pub no_backslash : (b : ℕ) → is_literal b ≡ true → (b == 92) ≡ false
no_backslash b h = step (b == 92) refl
  where
    step : (t : Bool) → (b == 92) ≡ t → t ≡ false
    step true e = let g = subst (λ (x : ℕ). is_literal x ≡ true) (eqb-true b 92 e) h in cc
    step false e = refl

byte_read : (b : ℕ) (rest : List ℕ) → b < 256 → bytes_after 0 (shown_byte b ++ rest) ≡ b ∷ bytes_after 0 rest
byte_read b rest small = step (is_literal b) refl
  where
    step : (t : Bool) → is_literal b ≡ t
        → bytes_after 0 ((if t then b ∷ [] else 92 ∷ 120 ∷ hex_digit (b / 16) ∷ hex_digit (b % 16) ∷ []) ++ rest) ≡ b ∷ bytes_after 0 rest
    step true e = ap (λ t. if t then escaped rest ∷ bytes_after 3 rest else b ∷ bytes_after 0 rest) (no_backslash b e)
    step false e =
        let same : hex_value (hex_digit (b / 16)) * 16 + hex_value (hex_digit (b % 16)) ≡ b = omega (arith, hex_back (b / 16) (omega arith), hex_back (b % 16) (omega arith)) in
        ap (λ x. x ∷ bytes_after 0 rest) same

bytes_read : (bs : List ℕ) → list_all is_byte bs ≡ true → bytes_after 0 (flat_map shown_byte bs) ≡ bs
bytes_read [] h = refl
bytes_read (b ∷ bs) h =
    let k = and_parts (is_byte b) (list_all is_byte bs) h in
    byte_read b (flat_map shown_byte bs) (ltb-true b 256 k.0) ∙ ap (λ l. b ∷ l) (bytes_read bs k.1)

-- bytes that are spelled so are found
same_bytes : (xs : List ℕ) → bytes_eq xs xs ≡ true
same_bytes xs = (bytes_eq-Decides xs xs).1 refl

equal_bytes : (xs ys : List ℕ) → bytes_eq xs ys ≡ true → xs ≡ ys
equal_bytes xs ys e = (bytes_eq-Decides xs ys).0 e

-- the spelling of bytes is read as the bytes
pub show_read : (bs : List ℕ) → list_all is_byte bs ≡ true → shown_of (show bs) ≡ Some bs
show_read [] h = refl
show_read (b ∷ bs) h = step (bytes_eq (show (b ∷ bs)) (codes "\\e")) refl
  where
    step : (t : Bool) → bytes_eq (show (b ∷ bs)) (codes "\\e") ≡ t
        → (if t then Some [] else if_spelled (show (b ∷ bs)) (bytes_after 0 (show (b ∷ bs)))) ≡ Some (b ∷ bs)
    step true e = let same = shown_apart (b ∷ bs) [] (equal_bytes (show (b ∷ bs)) (codes "\\e") e) in cc
    step false e = ap (if_spelled (show (b ∷ bs))) (bytes_read (b ∷ bs) h) ∙ ap (λ t. if t then Some (b ∷ bs) else None) (same_bytes (show (b ∷ bs)))

spelled_so : (text bytes bs : List ℕ) → if_spelled text bytes ≡ Some bs → show bs ≡ text
spelled_so text bytes bs e = step (bytes_eq (show bytes) text) refl e
  where
    step : (t : Bool) → bytes_eq (show bytes) text ≡ t → (if t then Some bytes else None) ≡ Some bs → show bs ≡ text
    step true d e = ap show (sym (some_same bytes bs e)) ∙ equal_bytes (show bytes) text d
    step false d e = cc

-- what is read is spelled so
pub show_spelled : (text bs : List ℕ) → shown_of text ≡ Some bs → show bs ≡ text
show_spelled text bs e = step (bytes_eq text (codes "\\e")) refl e
  where
    step : (t : Bool) → bytes_eq text (codes "\\e") ≡ t → (if t then Some [] else if_spelled text (bytes_after 0 text)) ≡ Some bs → show bs ≡ text
    step true d e = ap show (sym (some_same [] bs e)) ∙ sym (equal_bytes text (codes "\\e") d)
    step false d e = spelled_so text (bytes_after 0 text) bs e

-- ---- of which bytes a spelling is made

shown_from : (b : ℕ) → 48 ≤ b → b ≤ 122 → is_shown b ≡ true
shown_from b l h = grind (arith)

hex_shown : (d : ℕ) → d < 16 → is_shown (hex_digit d) ≡ true
hex_shown d small = step (nat_lt d 10) refl
  where
    step : (t : Bool) → nat_lt d 10 ≡ t → is_shown (if t then d + 48 else d + 87) ≡ true
    step true e = shown_from (d + 48) (omega arith) (omega (arith, ltb-true d 10 e))
    step false e = shown_from (d + 87) (omega arith) (omega arith)

literal_shown : (b : ℕ) → is_literal b ≡ true → is_shown b ≡ true
literal_shown b h = grind (arith)

byte_shown : (b : ℕ) → b < 256 → list_all is_shown (shown_byte b) ≡ true
byte_shown b small = step (is_literal b) refl
  where
    step : (t : Bool) → is_literal b ≡ t → list_all is_shown (if t then b ∷ [] else 92 ∷ 120 ∷ hex_digit (b / 16) ∷ hex_digit (b % 16) ∷ []) ≡ true
    step true e = and_from (is_shown b) true (literal_shown b e) refl
    step false e =
        and_from (is_shown (hex_digit (b / 16))) _ (hex_shown (b / 16) (omega arith))
        (and_from (is_shown (hex_digit (b % 16))) true (hex_shown (b % 16) (omega arith)) refl)

bytes_shown : (bs : List ℕ) → list_all is_byte bs ≡ true → list_all is_shown (flat_map shown_byte bs) ≡ true
bytes_shown [] h = refl
bytes_shown (b ∷ bs) h =
    let k = and_parts (is_byte b) (list_all is_byte bs) h in
    all_both is_shown (shown_byte b) (flat_map shown_byte bs) (byte_shown b (ltb-true b 256 k.0)) (bytes_shown bs k.1)

-- no spelling has a separator
pub show_shown : (bs : List ℕ) → list_all is_byte bs ≡ true → list_all is_shown (show bs) ≡ true
show_shown [] h = refl
show_shown (b ∷ bs) h = bytes_shown (b ∷ bs) h

-- a spelling has a byte
pub show_filled : (bs : List ℕ) → is_filled (show bs) ≡ true
show_filled [] = refl
show_filled (b ∷ bs) = step (is_literal b)
  where
    step : (t : Bool) → is_filled ((if t then b ∷ [] else 92 ∷ 120 ∷ hex_digit (b / 16) ∷ hex_digit (b % 16) ∷ []) ++ flat_map shown_byte bs) ≡ true
    step true = refl
    step false = refl

filled_long : (xs : List ℕ) → is_filled xs ≡ true → 0 < length xs
filled_long [] e = cc
filled_long (x ∷ xs) e = omega arith

pub show_long : (bs : List ℕ) → 0 < length (show bs)
show_long bs = filled_long (show bs) (show_filled bs)

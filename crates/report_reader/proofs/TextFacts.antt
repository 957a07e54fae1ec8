-- What is read of a text is made of bytes, and its numbers fit.
use Rattle.std.proofs.Common.{◌≡◌, ℕ, ◌+◌, ◌-◌, ◌*◌, ◌/◌, ◌%◌, ◌^◌, ◌<◌, Bool, true, false, nat_lt, nat_le, List, [], ◌∷◌, ◌++◌, Some, None, refl, sym, ap, ◌∙◌, arith}
use Rattle.std.specs.Prelude.{Option, ◌&&◌, codes, if◌then◌else◌}
use Rattle.std.specs.List.{flat_map}
use Rattle.std.specs.Option.{option_map, option_and_then}
use Rattle.std.specs.Str.{bytes_eq}
use Rattle.std.specs.Str.Parse.{digits_value}
use Rattle.std.proofs.lemmas.Bool.{lt-ltb, and_parts, and_from}
use Rattle.std.proofs.lemmas.Slice.Eq.{bytes_eq-Decides}
use Rattle.script_names.specs.declared.mark.Mark.{Mark}
use Rattle.script_names.specs.declared.mark.Site.{Site}
use Rattle.shown_texts.specs.Marks.{site_from, site_of_parts, site_of, mark_from, mark_of_parts, mark_of, is_site, is_mark}
use Rattle.shown_texts.specs.Numbers.{is_numeral, number_of}
use Rattle.shown_texts.specs.Parts.{parts}
use Rattle.shown_texts.specs.Show.{is_literal, hex_digit, hex_value, shown_byte, show, are_bytes, escaped, bytes_after, if_spelled, shown_of}
use Rattle.shown_texts.proofs.Spelled.{no_backslash}

-- ---- what an option was made of

pub got : {X Y A : Type 0} (f : X → Option Y) (o : Option X) (y : Y) → option_and_then f o ≡ Some y → ((x : X) → o ≡ Some x → f x ≡ Some y → A) → A
got f None y e more = cc
got f (Some x) y e more = more x refl e

pub made : {X Y A : Type 0} (f : X → Y) (o : Option X) (y : Y) → option_map f o ≡ Some y → ((x : X) → o ≡ Some x → f x ≡ y → A) → A
made f None y e more = cc
made f (Some x) y e more = let same : f x ≡ y = cc in more x refl same

pub kept : {X A : Type 0} (b : Bool) (x y : X) → (if b then Some x else None) ≡ Some y → (b ≡ true → x ≡ y → A) → A
kept true x y e more = let same : x ≡ y = cc in more refl same
kept false x y e more = cc

-- ---- bytes

-- a byte, and bytes behind it
record IsNext (text rest : List ℕ) : Type 0 where
  byte : ℕ
  is : text ≡ byte ∷ rest
  small : byte < 256

literal_small : (b : ℕ) → is_literal b ≡ true → b < 256
literal_small b h = grind arith

worth : (b c : ℕ) → hex_value b * 16 + hex_value c < 256
worth b c = digits (if nat_lt b 58 then b - 48 else b - 87) (if nat_lt c 58 then c - 48 else c - 87)
  where
    digits : (m n : ℕ) → m % 16 * 16 + n % 16 < 256
    digits m n = omega arith

next_byte : (b : ℕ) (rest : List ℕ) → IsNext (bytes_after 0 (shown_byte b ++ rest)) (bytes_after 0 rest)
next_byte b rest = step (is_literal b) refl
  where
    step : (t : Bool) → is_literal b ≡ t
        → IsNext (bytes_after 0 ((if t then b ∷ [] else 92 ∷ 120 ∷ hex_digit (b / 16) ∷ hex_digit (b % 16) ∷ []) ++ rest)) (bytes_after 0 rest)
    step true e = record {
      byte = b;
      is = ap (λ t. if t then escaped rest ∷ bytes_after 3 rest else b ∷ bytes_after 0 rest) (no_backslash b e);
      small = literal_small b e;
    }
    step false e = record {
      byte = hex_value (hex_digit (b / 16)) * 16 + hex_value (hex_digit (b % 16));
      is = refl;
      small = worth (hex_digit (b / 16)) (hex_digit (b % 16));
    }

after_are_bytes : (bs : List ℕ) → are_bytes (bytes_after 0 (flat_map shown_byte bs)) ≡ true
after_are_bytes [] = refl
after_are_bytes (b ∷ bs) =
    let next = next_byte b (flat_map shown_byte bs) in
    ap are_bytes next.is
    ∙ and_from (nat_lt next.byte 256) (are_bytes (bytes_after 0 (flat_map shown_byte bs))) (lt-ltb next.byte 256 next.small) (after_are_bytes bs)

spelling_bytes : (text bs : List ℕ) → bytes_after 0 text ≡ bs → show bs ≡ text → are_bytes bs ≡ true
spelling_bytes text [] e s = refl
spelling_bytes text (b ∷ bs) e s = ap are_bytes (sym e ∙ ap (bytes_after 0) (sym s)) ∙ after_are_bytes (b ∷ bs)

if_spelled_bytes : (text bytes bs : List ℕ) → bytes_after 0 text ≡ bytes → if_spelled text bytes ≡ Some bs → are_bytes bs ≡ true
if_spelled_bytes text bytes bs is e =
    kept (bytes_eq (show bytes) text) bytes bs e (λ t same. spelling_bytes text bs (is ∙ same) (ap show (sym same) ∙ (bytes_eq-Decides (show bytes) text).0 t))

-- what a spelling spells is made of bytes
pub shown_bytes : (text bs : List ℕ) → shown_of text ≡ Some bs → are_bytes bs ≡ true
shown_bytes text bs e = step (bytes_eq text (codes "\\e")) e
  where
    step : (t : Bool) → (if t then Some [] else if_spelled text (bytes_after 0 text)) ≡ Some bs → are_bytes bs ≡ true
    step true e = let same : [] ≡ bs = cc in ap are_bytes (sym same)
    step false e = if_spelled_bytes text (bytes_after 0 text) bs refl e

-- ---- numbers

pub number_fits : (most : ℕ) (text : List ℕ) (n : ℕ) → number_of most text ≡ Some n → nat_le n most ≡ true
number_fits most text n e =
    kept (is_numeral text && nat_le (digits_value 10 text) most) (digits_value 10 text) n e
    (λ t same. ap (λ v. nat_le v most) (sym same) ∙ (and_parts (is_numeral text) (nat_le (digits_value 10 text) most) t).1)

site_from_fits : (a b : List ℕ) (site : Site) → site_from a b ≡ Some site → is_site site ≡ true
site_from_fits a b site e =
    got (λ (s : ℕ). option_map (λ (x : ℕ). let it : Site = record { step = s; at = x } in it) (number_of (2 ^ 32 - 1) b)) (number_of (2 ^ 16 - 1) a) site e
    (λ s m f. made (λ (x : ℕ). let it : Site = record { step = s; at = x } in it) (number_of (2 ^ 32 - 1) b) site f
    (λ x n same. ap is_site (sym same)
    ∙ and_from (nat_le s (2 ^ 16 - 1)) (nat_le x (2 ^ 32 - 1)) (number_fits (2 ^ 16 - 1) a s m) (number_fits (2 ^ 32 - 1) b x n)))

parts_site : (ps : List (List ℕ)) (site : Site) → site_of_parts ps ≡ Some site → is_site site ≡ true
parts_site [] site e = cc
parts_site (a ∷ []) site e = cc
parts_site (a ∷ b ∷ []) site e = site_from_fits a b site e
parts_site (a ∷ b ∷ c ∷ ps) site e = cc

pub site_fits : (text : List ℕ) (site : Site) → site_of text ≡ Some site → is_site site ≡ true
site_fits text site e = parts_site (parts 58 text) site e

mark_from_fits : (a b c : List ℕ) (mark : Mark) → mark_from a b c ≡ Some mark → is_mark mark ≡ true
mark_from_fits a b c mark e =
    got (λ (s : Site). option_map (λ (r : ℕ). let it : Mark = record { site = s; row = r } in it) (number_of 255 c)) (site_from a b) mark e
    (λ s m f. made (λ (r : ℕ). let it : Mark = record { site = s; row = r } in it) (number_of 255 c) mark f
    (λ r n same. ap is_mark (sym same) ∙ and_from (is_site s) (nat_le r 255) (site_from_fits a b s m) (number_fits 255 c r n)))

parts_mark : (ps : List (List ℕ)) (mark : Mark) → mark_of_parts ps ≡ Some mark → is_mark mark ≡ true
parts_mark [] mark e = cc
parts_mark (a ∷ []) mark e = cc
parts_mark (a ∷ b ∷ []) mark e = cc
parts_mark (a ∷ b ∷ c ∷ []) mark e = mark_from_fits a b c mark e
parts_mark (a ∷ b ∷ c ∷ d ∷ ps) mark e = cc

pub mark_fits : (text : List ℕ) (mark : Mark) → mark_of text ≡ Some mark → is_mark mark ≡ true
mark_fits text mark e = parts_mark (parts 58 text) mark e

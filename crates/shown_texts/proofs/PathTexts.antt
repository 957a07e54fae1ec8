-- Paths are read back.
use Rattle.std.proofs.Common.{◌≡◌, ℕ, ◌+◌, ◌/◌, ◌%◌, ◌≤◌, Bool, true, false, nat_lt, nat_le, List, [], ◌∷◌, ◌++◌, length, map, Option, Some, None, refl, sym, ap, ◌∙◌, arith, append_assoc, append-nil}
use Rattle.std.specs.Prelude.{◌&&◌, ◌==◌, not, if◌then◌else◌}
use Rattle.std.specs.List.{flat_map, list_all, join_with_byte}
use Rattle.std.specs.Option.{option_and_then}
use Rattle.std.proofs.lemmas.Bool.{eqb-true, and_parts, and_from}
use Rattle.std.proofs.lemmas.List.Splits.{join_with_byte-slice_split}
use Rattle.script_names.specs.Names.{is_name, is_plain_byte, is_dots}
use Rattle.script_names.specs.Paths.{is_filled}
use Rattle.shown_texts.specs.Parts.{parts, lacks}
use Rattle.shown_texts.specs.Show.{is_literal, hex_digit, shown_byte, show, are_bytes, shown_of}
use Rattle.shown_texts.specs.Paths.{after_slash, path_text, if_name, name_of, names_onto, names_of, path_of, are_names}
use Rattle.shown_texts.proofs.Lists.{all_both}
use Rattle.shown_texts.proofs.Cuts.{joined_cut}
use Rattle.shown_texts.proofs.Spelled.{show_read, show_spelled, show_filled}
use Rattle.shown_texts.proofs.LineTexts.{some_same}

-- each name after a slash
pub slashes_joined : (name : List ℕ) (names : List (List ℕ)) → flat_map after_slash (name ∷ names) ≡ path_text (name ∷ names)
slashes_joined name [] = append-nil (after_slash name)
slashes_joined name (next ∷ names) = ap (λ l. after_slash name ++ l) (slashes_joined next names)

-- ---- no slash stands in the spelling of a name

above_slash : (b : ℕ) → 48 ≤ b → not (b == 47) ≡ true
above_slash b l = grind arith

hex_above : (d : ℕ) → 48 ≤ hex_digit d
hex_above d = step (nat_lt d 10)
  where
    step : (t : Bool) → 48 ≤ (if t then d + 48 else d + 87)
    step true = omega arith
    step false = omega arith

byte_lacks : (b : ℕ) → is_plain_byte b ≡ true → lacks 47 (shown_byte b) ≡ true
byte_lacks b h = step (is_literal b)
  where
    step : (t : Bool) → lacks 47 (if t then b ∷ [] else 92 ∷ 120 ∷ hex_digit (b / 16) ∷ hex_digit (b % 16) ∷ []) ≡ true
    step true = and_from (not (b == 47)) true (and_parts (not (b == 0)) (not (b == 47)) h).1 refl
    step false =
        and_from (not (hex_digit (b / 16) == 47)) _ (above_slash _ (hex_above (b / 16)))
        (and_from (not (hex_digit (b % 16) == 47)) true (above_slash _ (hex_above (b % 16))) refl)

bytes_lack : (bs : List ℕ) → list_all is_plain_byte bs ≡ true → lacks 47 (flat_map shown_byte bs) ≡ true
bytes_lack [] h = refl
bytes_lack (b ∷ bs) h =
    let k = and_parts (is_plain_byte b) (list_all is_plain_byte bs) h in
    all_both (λ x. not (x == 47)) (shown_byte b) (flat_map shown_byte bs) (byte_lacks b k.0) (bytes_lack bs k.1)

plain : (f : List ℕ) → is_name f ≡ true → list_all is_plain_byte f ≡ true
plain f h =
    (and_parts (nat_lt 0 (length f) && nat_le (length f) 255) (list_all is_plain_byte f)
    (and_parts (nat_lt 0 (length f) && nat_le (length f) 255 && list_all is_plain_byte f) (not (is_dots f)) h).0).1

name_lacks : (f : List ℕ) → is_name f ≡ true → lacks 47 (show f) ≡ true
name_lacks [] h = refl
name_lacks (b ∷ bs) h = bytes_lack (b ∷ bs) (plain (b ∷ bs) h)

abbrev is_representable_name : List ℕ → Bool
is_representable_name name = is_name name && are_bytes name

all_lack : (names : List (List ℕ)) → list_all is_representable_name names ≡ true → list_all (lacks 47) (map show names) ≡ true
all_lack [] h = refl
all_lack (name ∷ names) h =
    let k = and_parts (is_representable_name name) (list_all is_representable_name names) h in
    let m = and_parts (is_name name) (are_bytes name) k.0 in
    and_from (lacks 47 (show name)) _ (name_lacks name m.0) (all_lack names k.1)

-- ---- names

name_read : (name : List ℕ) → is_representable_name name ≡ true → name_of (show name) ≡ Some name
name_read name h =
    let m = and_parts (is_name name) (are_bytes name) h in
    ap (option_and_then if_name) (show_read name m.1) ∙ ap (λ t. if t then Some name else None) m.0

names_read : (done names : List (List ℕ)) → list_all is_representable_name names ≡ true → names_onto done (map show names) ≡ Some (done ++ names)
names_read done [] h = ap Some (sym (append-nil done))
names_read done (name ∷ names) h =
    let k = and_parts (is_representable_name name) (list_all is_representable_name names) h in
    ap (option_and_then (λ n. names_onto (done ++ n ∷ []) (map show names))) (name_read name k.0)
    ∙ names_read (done ++ name ∷ []) names k.1 ∙ ap Some (append_assoc done (name ∷ []) names)

if_name_same : (bytes name : List ℕ) → if_name bytes ≡ Some name → bytes ≡ name
if_name_same bytes name e = step (is_name bytes) e
  where
    step : (t : Bool) → (if t then Some bytes else None) ≡ Some name → bytes ≡ name
    step true e = some_same bytes name e
    step false e = cc

name_spelled : (text name : List ℕ) → name_of text ≡ Some name → show name ≡ text
name_spelled text name e = step (shown_of text) refl e
  where
    step : (o : Option (List ℕ)) → shown_of text ≡ o → option_and_then if_name o ≡ Some name → show name ≡ text
    step None d e = cc
    step (Some bytes) d e = ap show (sym (if_name_same bytes name e)) ∙ show_spelled text bytes d

shown_more : (done : List (List ℕ)) (name : List ℕ) (rest : List (List ℕ)) → map show (done ++ name ∷ []) ++ rest ≡ map show done ++ (show name ∷ rest)
shown_more [] name rest = refl
shown_more (d ∷ done) name rest = ap (λ l. show d ∷ l) (shown_more done name rest)

next_spelled : (done : List (List ℕ)) (text : List ℕ) (texts : List (List ℕ)) (names : List (List ℕ))
    → ((name : List ℕ) → names_onto (done ++ name ∷ []) texts ≡ Some names → map show names ≡ map show (done ++ name ∷ []) ++ texts)
    → option_and_then (λ name. names_onto (done ++ name ∷ []) texts) (name_of text) ≡ Some names → map show names ≡ map show done ++ (text ∷ texts)
next_spelled done text texts names rest e = step (name_of text) refl e
  where
    step : (o : Option (List ℕ)) → name_of text ≡ o → option_and_then (λ name. names_onto (done ++ name ∷ []) texts) o ≡ Some names
        → map show names ≡ map show done ++ (text ∷ texts)
    step None d e = cc
    step (Some name) d e = rest name e ∙ shown_more done name texts ∙ ap (λ t. map show done ++ (t ∷ texts)) (name_spelled text name d)

names_spelled : (done texts names : List (List ℕ)) → names_onto done texts ≡ Some names → map show names ≡ map show done ++ texts
names_spelled done [] names e = ap (map show) (sym (some_same done names e)) ∙ sym (append-nil (map show done))
names_spelled done (text ∷ texts) names e = next_spelled done text texts names (λ name d. names_spelled (done ++ name ∷ []) texts names d) e

-- ---- paths

joined_filled : (name : List ℕ) (names : List (List ℕ)) → is_filled (join_with_byte 47 (map show (name ∷ names))) ≡ true
joined_filled name [] = show_filled name
joined_filled name (next ∷ names) = more (show name) _ (show_filled name)
  where
    more : (xs ys : List ℕ) → is_filled xs ≡ true → is_filled (xs ++ ys) ≡ true
    more [] ys e = cc
    more (x ∷ xs) ys e = refl

pub path_read : (names : List (List ℕ)) → are_names names ≡ true → path_of (path_text names) ≡ Some names
path_read [] h = refl
path_read (name ∷ names) h =
    let text = join_with_byte 47 (map show (name ∷ names)) in
    ap (λ t. if t then names_onto [] (parts 47 text) else Some []) (joined_filled name names)
    ∙ ap (names_onto []) (joined_cut 47 (show name) (map show names) (all_lack (name ∷ names) h)) ∙ names_read [] (name ∷ names) h

below_spelled : (text : List ℕ) (names : List (List ℕ)) → names_of text ≡ Some names → join_with_byte 47 (map show names) ≡ text
below_spelled [] names e = ap (λ ns. join_with_byte 47 (map show ns)) (sym (some_same [] names e))
below_spelled (b ∷ text) names e = ap (join_with_byte 47) (names_spelled [] (parts 47 (b ∷ text)) names e) ∙ join_with_byte-slice_split 47 (b ∷ text)

pub path_spelled : (text : List ℕ) (names : List (List ℕ)) → path_of text ≡ Some names → path_text names ≡ text
path_spelled [] names e = cc
path_spelled (b ∷ text) names e = step (b == 47) refl e
  where
    step : (t : Bool) → (b == 47) ≡ t → (if t then names_of text else None) ≡ Some names → path_text names ≡ b ∷ text
    step true d e = ap (λ l. 47 ∷ l) (below_spelled text names e) ∙ ap (λ x. x ∷ text) (sym (eqb-true b 47 d))
    step false d e = cc

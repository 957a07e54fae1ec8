-- What a browser reads of an escaped text, and what stands bare in it.
use Rattle.std.proofs.Common.{◌≡◌, ℕ, Bool, true, false, List, [], ◌∷◌, ◌++◌, refl, sym, ap, ◌∙◌, subst}
use Rattle.std.specs.Prelude.{not, is_some, ◌==◌, ◌&&◌, ◌||◌, if◌then◌else◌}
use Rattle.std.specs.List.{flat_map, list_all}
use Rattle.std.specs.Option.{unwrap_or}
use Rattle.std.proofs.lemmas.Bool.{eqb-true, and_parts, and_from}
use Rattle.html_texts.specs.Visible.{stands_at, all_stand, visible_byte, visible_from, visible, is_visible}
use Rattle.html_texts.specs.Escaped.{is_special, reference, escaped_byte, escaped, meant, meant_size, read_from, is_inert, refers, is_escaped}
use Rattle.script_places.specs.Positions.{passed_behind}

-- a fact that holds of the five bytes and of all others holds of each byte
each_byte : (P : ℕ → Type 0) → P 60 → P 62 → P 38 → P 34 → P 39
    → ((b : ℕ) → (b == 60) ≡ false → (b == 62) ≡ false → (b == 38) ≡ false → (b == 34) ≡ false → (b == 39) ≡ false → P b)
    → (b : ℕ) → P b
each_byte P lt gt am dq sq others b = step (b == 60) refl
  where
    step5 : (t : Bool) → (b == 39) ≡ t → (b == 60) ≡ false → (b == 62) ≡ false → (b == 38) ≡ false → (b == 34) ≡ false → P b
    step5 true e l g a d = subst P (sym (eqb-true b 39 e)) sq
    step5 false e l g a d = others b l g a d e

    step4 : (t : Bool) → (b == 34) ≡ t → (b == 60) ≡ false → (b == 62) ≡ false → (b == 38) ≡ false → P b
    step4 true e l g a = subst P (sym (eqb-true b 34 e)) dq
    step4 false e l g a = step5 (b == 39) refl l g a e

    step3 : (t : Bool) → (b == 38) ≡ t → (b == 60) ≡ false → (b == 62) ≡ false → P b
    step3 true e l g = subst P (sym (eqb-true b 38 e)) am
    step3 false e l g = step4 (b == 34) refl l g e

    step2 : (t : Bool) → (b == 62) ≡ t → (b == 60) ≡ false → P b
    step2 true e l = subst P (sym (eqb-true b 62 e)) gt
    step2 false e l = step3 (b == 38) refl l e

    step : (t : Bool) → (b == 60) ≡ t → P b
    step true e = subst P (sym (eqb-true b 60 e)) lt
    step false e = step2 (b == 62) refl e

-- a byte that is none of the five stays
plain_byte : (b : ℕ) → (b == 60) ≡ false → (b == 62) ≡ false → (b == 38) ≡ false → (b == 34) ≡ false → (b == 39) ≡ false
    → escaped_byte b ≡ b ∷ []
plain_byte b l g a d s =
    let none : is_special b ≡ false = λ i. l i || g i || a i || d i || s i in
    ap (λ t. if t then 38 ∷ reference b else b ∷ []) none

-- a byte in a page is read as the byte
byte_read : (rest : List ℕ) (b : ℕ) → read_from 0 (escaped_byte b ++ rest) ≡ b ∷ read_from 0 rest
byte_read rest = each_byte (λ b. read_from 0 (escaped_byte b ++ rest) ≡ b ∷ read_from 0 rest) refl refl refl refl refl other
  where
    other : (b : ℕ) → (b == 60) ≡ false → (b == 62) ≡ false → (b == 38) ≡ false → (b == 34) ≡ false → (b == 39) ≡ false
        → read_from 0 (escaped_byte b ++ rest) ≡ b ∷ read_from 0 rest
    other b l g a d s =
        ap (λ bytes. read_from 0 (bytes ++ rest)) (plain_byte b l g a d s)
        ∙ ap (λ t. if t then unwrap_or (meant rest) 38 ∷ read_from (meant_size (meant rest)) rest else b ∷ read_from 0 rest) a

pub text_read : (text : List ℕ) → read_from 0 (escaped text) ≡ text
text_read [] = refl
text_read (b ∷ text) = byte_read (flat_map escaped_byte text) b ∙ ap (λ l. b ∷ l) (text_read text)

-- a byte in a page leaves nothing bare
byte_bare : (rest : List ℕ) → is_escaped rest ≡ true → (b : ℕ) → is_escaped (escaped_byte b ++ rest) ≡ true
byte_bare rest h = each_byte (λ b. is_escaped (escaped_byte b ++ rest) ≡ true) h h h h h other
  where
    other : (b : ℕ) → (b == 60) ≡ false → (b == 62) ≡ false → (b == 38) ≡ false → (b == 34) ≡ false → (b == 39) ≡ false
        → is_escaped (escaped_byte b ++ rest) ≡ true
    other b l g a d s =
        let k = and_parts (list_all is_inert rest) (refers rest) h in
        let inert : is_inert b ≡ true = λ i. not (l i) && not (g i) && not (d i) && not (s i) in
        let begins : (not (b == 38) || is_some (meant rest)) ≡ true = λ i. not (a i) || is_some (meant rest) in
        ap (λ bytes. is_escaped (bytes ++ rest)) (plain_byte b l g a d s)
        ∙ and_from (list_all is_inert (b ∷ rest)) (refers (b ∷ rest))
        (and_from (is_inert b) (list_all is_inert rest) inert k.0)
        (and_from (not (b == 38) || is_some (meant rest)) (refers rest) begins k.1)

pub text_bare : (text : List ℕ) → is_escaped (escaped text) ≡ true
text_bare [] = refl
text_bare (b ∷ text) = byte_bare (flat_map escaped_byte text) (text_bare text) b

-- bytes that stand as they are stay
stays_from : (passed : ℕ) (text : List ℕ) → all_stand passed text ≡ true → visible_from passed true text ≡ text
stays_from passed [] h = refl
stays_from passed (b ∷ text) h =
    let k = and_parts (stands_at passed true (b ∷ text)) (all_stand (passed_behind passed (b ∷ text)) text) h in
    step (stands_at passed true (b ∷ text)) k.0 (stays_from (passed_behind passed (b ∷ text)) text k.1)
  where
    step : (t : Bool) → t ≡ true → visible_from (passed_behind passed (b ∷ text)) true text ≡ text
        → visible_byte t b ++ visible_from (passed_behind passed (b ∷ text)) t text ≡ b ∷ text
    step true e same = ap (λ l. b ∷ l) same
    step false e same = absurd (cc e)

pub stays : (text : List ℕ) → is_visible text ≡ true → visible text ≡ text
stays text h = stays_from 0 text h

-- Bytes without the blanks at their end, looked at from the last byte on.
use Rattle.std.proofs.Common.{◌≡◌, ℕ, ◌+◌, ◌-◌, ◌<◌, ◌≤◌, Bool, true, false, List, [], ◌∷◌, ◌++◌, length, take, drop, get_or, map, Bor, Some, refl, sym, ap, ◌∙◌, arith}
use Rattle.std.specs.Prelude.{◌&&◌, nat_eq, if◌then◌else◌}
use Rattle.std.specs.List.{list_all, starts_with}
use Rattle.std.proofs.lemmas.List.{take_more, drop_more}
use Rattle.package_lists.specs.Control.{is_blank, before_blanks, trimmed, first_field}

all_last : (xs : List ℕ) (b : ℕ) → list_all is_blank (xs ++ b ∷ []) ≡ (list_all is_blank xs && is_blank b)
all_last [] b = step (is_blank b)
  where
    step : (t : Bool) → (t && true) ≡ t
    step true = refl
    step false = refl
all_last (x ∷ xs) b = ap (λ t. is_blank x && t) (all_last xs b) ∙ assoc (is_blank x) (list_all is_blank xs) (is_blank b)
  where
    assoc : (a b c : Bool) → (a && (b && c)) ≡ ((a && b) && c)
    assoc true b c = refl
    assoc false b c = refl

and_true : (t : Bool) → (t && true) ≡ t
and_true true = refl
and_true false = refl

and_false : (t : Bool) → (t && false) ≡ false
and_false true = refl
and_false false = refl

-- a blank at the end goes, another byte stays
blank_last : (xs : List ℕ) (b : ℕ) → is_blank b ≡ true → before_blanks (xs ++ b ∷ []) ≡ before_blanks xs
blank_last [] b e = ap (λ t. if (t && true) then [] else b ∷ []) e
blank_last (x ∷ xs) b e =
    ap (λ t. if t then [] else x ∷ before_blanks (xs ++ b ∷ [])) (all_last (x ∷ xs) b ∙ ap (λ t. list_all is_blank (x ∷ xs) && t) e ∙ and_true (list_all is_blank (x ∷ xs)))
    ∙ ap (λ l. if list_all is_blank (x ∷ xs) then [] else x ∷ l) (blank_last xs b e)

other_last : (xs : List ℕ) (b : ℕ) → is_blank b ≡ false → before_blanks (xs ++ b ∷ []) ≡ xs ++ b ∷ []
other_last [] b e = ap (λ t. if (t && true) then [] else b ∷ []) e
other_last (x ∷ xs) b e =
    ap (λ t. if t then [] else x ∷ before_blanks (xs ++ b ∷ [])) (all_last (x ∷ xs) b ∙ ap (λ t. list_all is_blank (x ∷ xs) && t) e ∙ and_false (list_all is_blank (x ∷ xs)))
    ∙ ap (λ l. x ∷ l) (other_last xs b e)

module _ (bytes : List ℕ) (end : ℕ) (some : 0 < end) (within : end ≤ length bytes) where
  cut_last : take end bytes ≡ take (end - 1) bytes ++ get_or bytes (end - 1) 0 ∷ []
  cut_last = ap (λ n. take n bytes) e ∙ take_more bytes (end - 1) 0 (omega (arith, some, within))
    where
      e : end ≡ (end - 1) + 1
      e = omega (arith, some)

  pub blank_goes : is_blank (get_or bytes (end - 1) 0) ≡ true → before_blanks (take end bytes) ≡ before_blanks (take (end - 1) bytes)
  blank_goes e = ap before_blanks cut_last ∙ blank_last (take (end - 1) bytes) (get_or bytes (end - 1) 0) e

  pub other_stays : is_blank (get_or bytes (end - 1) 0) ≡ false → before_blanks (take end bytes) ≡ take end bytes
  other_stays e = ap before_blanks cut_last ∙ other_last (take (end - 1) bytes) (get_or bytes (end - 1) 0) e ∙ sym cut_last

-- the first of the lines that are left has the field
pub found_field : (field : List ℕ) (lines : List (Bor (List ℕ))) (i : ℕ) (d : Bor (List ℕ)) (n : ℕ) → i < length lines
    → starts_with nat_eq (get_or lines i d).now field ≡ true
    → first_field field n (map (λ line. line.now) (drop i lines)) ≡ Some (n, trimmed (drop (length field) (get_or lines i d).now))
found_field field lines i d n lt e =
    ap (λ ls. first_field field n (map (λ line. line.now) ls)) (drop_more lines i d lt)
    ∙ ap (λ b. if b then Some (n, trimmed (drop (length field) (get_or lines i d).now)) else first_field field (n + 1) (map (λ line. line.now) (drop (i + 1) lines))) e

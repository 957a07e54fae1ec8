-- What was listed up to a place, and what stands from there on, is all.
use Rattle.std.proofs.Common.{◌≡◌, ℕ, zero, suc, ◌+◌, List, [], ◌∷◌, ◌++◌, drop, ap, ◌∙◌, append_assoc}
use Rattle.std.specs.Prelude.{slice_get, Some}
use native.Mathlib.Numerals.{unary_clauses}

from_place : {X : Type 0} (n : ℕ) (xs : List X) (x : X) → Some x ≡ slice_get xs n → x ∷ drop (suc n) xs ≡ drop n xs
from_place n [] x e = cc
from_place zero (y ∷ xs) x e = cc
from_place (suc n) (y ∷ xs) x e = from_place n xs x e

pub one_listed : {X : Type 0} (n : ℕ) (xs listed : List X) (x : X) → Some x ≡ slice_get xs n → listed ++ drop n xs ≡ xs
    → (listed ++ x ∷ []) ++ drop (n + 1) xs ≡ xs
one_listed n xs listed x e is = simp unary_clauses
    (append_assoc listed (x ∷ []) (drop (suc n) xs) ∙ ap (λ (t : List _). listed ++ t) (from_place n xs x e) ∙ is)

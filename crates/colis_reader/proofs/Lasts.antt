-- The last item of a list, and what stands before it.
use Rattle.std.proofs.Common.{◌≡◌, ◌-◌, List, [], ◌∷◌, ◌++◌, length, take, get_or, refl, ap, length-append, arith}

pub last_length : {X : Type 0} (xs : List X) (x : X) → length (xs ++ x ∷ []) - 1 ≡ length xs
last_length xs x = omega (arith, length-append xs (x ∷ []))

pub last_here : {X : Type 0} (xs : List X) (x d : X) → get_or (xs ++ x ∷ []) (length xs) d ≡ x
last_here [] x d = refl
last_here (y ∷ xs) x d = last_here xs x d

pub before_last : {X : Type 0} (xs : List X) (x : X) → take (length xs) (xs ++ x ∷ []) ≡ xs
before_last [] x = refl
before_last (y ∷ xs) x = ap (λ l. y ∷ l) (before_last xs x)

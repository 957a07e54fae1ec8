-- Results that are settled, from the first to the last.
use Rattle.std.proofs.Common.{◌≡◌, List, [], ◌∷◌, ◌++◌, map, Result, Ok, Err, refl, ap, length, arith}
use Rattle.checker_calls.specs.Settled.{settled, after_value}

-- a list of length 0 is empty
pub empty : {X : Type 0} (xs : List X) → length xs ≡ 0 → xs ≡ []
empty [] none = refl
empty (x ∷ xs) none = absurd (omega (arith, none))

module _ {T E : Type 0} where
  -- all are values
  pub settled_values : (values : List T) → settled {T = T} {E = E} (map Ok values) ≡ Ok values
  settled_values [] = refl
  settled_values (value ∷ values) = ap (after_value value) (settled_values values)

  -- a fault after values
  pub settled_fault : (values : List T) (fault : E) (rest : List (Result T E)) → settled (map Ok values ++ Err fault ∷ rest) ≡ Err fault
  settled_fault [] fault rest = refl
  settled_fault (value ∷ values) fault rest = ap (after_value value) (settled_fault values fault rest)

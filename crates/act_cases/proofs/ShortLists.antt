-- Lists of no name or of one.
use Rattle.std.proofs.Common.{◌≡◌, ℕ, List, [], ◌∷◌, arith}
use Rattle.std.specs.List.{Contains}

pub none_contained : (f : List ℕ) → ¬ (Contains [] f)
none_contained f h = let lt = h.1 in absurd (omega (arith, lt))

pub one_contained : (f h : List ℕ) → f ≡ h → Contains (f ∷ []) h
one_contained f h e = (0, omega arith, e)

-- The numbers below one are those that are less.
use Rattle.std.proofs.Common.{ℕ, zero, suc, ◌<◌, inl, inr, get_or, length, arith, Contains}
use Rattle.tree_clauses.specs.Plain.{numbers_below}
use Rattle.tree_clauses.proofs.Names.{nat_cases}
use Rattle.tree_clauses.proofs.Orders.{contains_head, contains_tail}

pub contains_below : (n x : ℕ) → x < n → Contains (numbers_below n) x
contains_below zero x w = absurd (omega arith)
contains_below (suc n) x w = elim (nat_cases x n) [
  | inl e ↦ rw e (contains_head n (numbers_below n))
  | inr ne ↦ contains_tail n x (numbers_below n) (contains_below n x (omega arith))
]

at_below : (n k d : ℕ) → k < length (numbers_below n) → get_or (numbers_below n) k d < n
at_below zero k d w = absurd (omega arith)
at_below (suc n) zero d w = omega arith
at_below (suc n) (suc k) d w = let h = at_below n k d (omega arith) in omega (arith, h)

pub below_contained : (n x : ℕ) → Contains (numbers_below n) x → x < n
below_contained n x c = let h = at_below n c.0 x c.1 in let e = c.2 in omega (arith, h, e)

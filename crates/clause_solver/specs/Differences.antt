-- The place where two names differ first: each byte has nine places, one for whether there is a byte, and one for each
-- of its bits, the lowest first.
use Rattle.std.specs.Prelude.{ℕ, zero, suc, ◌+◌, ◌/◌, ◌%◌, ◌==◌, List, [], ◌∷◌, if◌then◌else◌}

-- how many of the lowest bits of two bytes are the same, of so many
abbrev pub same_bits : ℕ → ℕ → ℕ → ℕ
same_bits zero a b = 0
same_bits (suc n) a b = if (a % 2) == (b % 2) then same_bits n (a / 2) (b / 2) + 1 else 0

-- the place where two names differ first
abbrev pub difference : List ℕ → List ℕ → ℕ
difference [] g = 0
difference (a ∷ f) [] = 0
difference (a ∷ f) (b ∷ g) = if a == b then difference f g + 9 else same_bits 8 a b + 1

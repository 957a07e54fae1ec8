-- What contracts see of the variables.
use Rattle.std.specs.Prelude.{ℕ, List, Vec, map}

-- each name with its value, the name as its bytes
abbrev pub named : {A : Type 0} → List (Vec ℕ A × List ℕ) → List (List ℕ × List ℕ)
named = map (λ e. (e.0.items, e.1))

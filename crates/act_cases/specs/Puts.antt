-- A value put at names: the literals of the tree that comes of it, from the last directory on the way outwards.
use Rattle.std.specs.Prelude.{ℕ, zero, suc, ◌+◌, List, [], ◌∷◌, ◌++◌, length}
use Rattle.tree_clauses.specs.declared.clause.Literal.{Literal}
use Rattle.tree_clauses.specs.declared.clause.Literal.TheVariants.{Entry, Similar}
use Rattle.act_cases.specs.Looks.{var}

-- the variable of what the first so many names lead to: x is that of the value that they go from, and those of the
-- entries begin with y
abbrev pub variable_at : ℕ → ℕ → ℕ → ℕ
variable_at x y zero = x
variable_at x y (suc i) = y + i

-- the variable of the value with the one of z put at the names: z where there are none, else the last one that is
-- made, of which the first is r
abbrev pub root_of : List (List ℕ) → ℕ → ℕ → ℕ
root_of [] z r = z
root_of (f ∷ rest) z r = r + length rest

-- the literals: what an entry becomes, and then the value with this entry in place of the old one
abbrev pub put_literals : ℕ → ℕ → List (List ℕ) → ℕ → ℕ → List Literal
put_literals x y [] z r = []
put_literals x y (f ∷ rest) z r =
    put_literals y (y + 1) rest z r
    ++ (Similar (var (r + length rest)) (f ∷ []) (var x)
    ∷ Entry (var (r + length rest)) f (var (root_of rest z r)) ∷ [])

-- The names that the definitions of a store use, and how many of them begin alike.
use Rattle.std.specs.Prelude.{◌≡◌, ◌<◌, length, IsTrue, ℕ, zero, suc, ◌+◌, ◌*◌, List, [], ◌∷◌, Bool, true, false}
use Rattle.std.specs.Prelude.{◌&&◌, ◌||◌, nat_eq}
use Rattle.clause_solver.specs.declared.variable.Definition.{Definition}
use Rattle.clause_solver.specs.declared.variable.Definition.TheVariants.{Start, Child, Derived, Ensured, Made}
use Rattle.clause_solver.specs.declared.variable.Variable.{Variable}
use Rattle.clause_solver.specs.Variables.{var_at}
use Rattle.script_names.specs.Ascii.{lower_a, lower_b}
use Rattle.script_names.specs.Names.{is_name}

-- the name in a definition
abbrev pub name_used : Definition → List ℕ
name_used Start = []
name_used (Child p f) = f
name_used (Derived x f y) = f
name_used (Ensured x) = []
name_used (Made m) = []

-- whether a name begins with these bytes
abbrev pub begins : List ℕ → List ℕ → Bool
begins [] f = true
begins (x ∷ p) [] = false
begins (x ∷ p) (y ∷ f) = nat_eq x y && begins p f

-- one for true
abbrev pub one_if : Bool → ℕ
one_if false = 0
one_if true = 1

-- how many of the names begin with these bytes
abbrev pub beginning : List ℕ → List Variable → ℕ
beginning p [] = 0
beginning p (v ∷ vs) = one_if (begins p (name_used v.definition)) + beginning p vs

-- two to the power of n
abbrev pub two_to : ℕ → ℕ
two_to zero = 1
two_to (suc n) = 2 * two_to n

-- a name that no definition uses
pub record IsNew (vars : List Variable) (z : List ℕ) : Type 0 where
  pub name : IsTrue (is_name z)
  pub child : (j p : ℕ) → j < length vars → (var_at vars j).definition ≡ Child p z → ⊥
  pub derived : (j x y : ℕ) → j < length vars → (var_at vars j).definition ≡ Derived x z y → ⊥

-- the two letters that new names are made of: `a` and `b`
abbrev pub is_letter : ℕ → Bool
is_letter x = nat_eq x lower_a || nat_eq x lower_b

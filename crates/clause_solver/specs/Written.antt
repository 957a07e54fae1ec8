-- The literals of a store, variable by variable: those of the definition, and then those of the facts.
use Rattle.std.specs.Prelude.{ℕ, suc, List, [], ◌∷◌, ◌++◌, Option, Some, None, Bool, true, false, ◌&&◌, if◌then◌else◌}
use Rattle.feature_trees.specs.declared.kind.Kind.TheVariants as kind
use Rattle.feature_trees.specs.declared.kind.Kinds.{Kinds}
use Rattle.feature_trees.specs.Kinds.{of}
use Rattle.tree_clauses.specs.declared.clause.Var.{Var}
use Rattle.tree_clauses.specs.declared.clause.Literal.{Literal}
use Rattle.tree_clauses.specs.declared.clause.Literal.TheVariants.{Entry, Kind, Fence, NotEmpty, Similar, Target}
use Rattle.clause_solver.specs.declared.variable.MadeValue.{MadeValue}
use Rattle.clause_solver.specs.declared.variable.MadeValue.TheVariants as made
use Rattle.clause_solver.specs.declared.variable.Definition.{Definition}
use Rattle.clause_solver.specs.declared.variable.Definition.TheVariants.{Start, Child, Derived, Ensured, Made}
use Rattle.clause_solver.specs.declared.variable.Variable.{Variable}

-- the variable with this number
abbrev pub var : ℕ → Var
var i = record { 0 = i }

-- the literals of a made value
abbrev pub made_literals : ℕ → MadeValue → List Literal
made_literals i made.Absent = Kind (var i) (of kind.Absent) ∷ []
made_literals i made.Reg = Kind (var i) (of kind.Reg) ∷ []
made_literals i (made.Link b) = Target (var i) b ∷ []
made_literals i made.Dir = Kind (var i) (of kind.Dir) ∷ Fence (var i) [] ∷ []

-- the literals of a definition
abbrev pub definition_literals : ℕ → Definition → List Literal
definition_literals i Start = []
definition_literals i (Child p f) = Entry (var p) f (var i) ∷ []
definition_literals i (Derived x f y) = Similar (var i) (f ∷ []) (var x) ∷ Entry (var i) f (var y) ∷ []
definition_literals i (Ensured x) = Similar (var i) [] (var x) ∷ []
definition_literals i (Made m) = made_literals i m

-- whether every kind is in the set
abbrev pub is_all : Kinds → Bool
is_all s = s.absent && (s.reg && (s.link && (s.fifo && (s.socket && (s.block && (s.char && s.dir))))))

-- the literal of the kinds, which is left out where they are all kinds
abbrev pub kinds_literals : ℕ → Kinds → List Literal
kinds_literals i s = if is_all s then [] else (Kind (var i) s ∷ [])

-- the literal of a fence
abbrev pub fence_literals : ℕ → Option (List (List ℕ)) → List Literal
fence_literals i None = []
fence_literals i (Some names) = Fence (var i) names ∷ []

-- the literal of a directory that has an entry
abbrev pub filled_literals : ℕ → Bool → List Literal
filled_literals i false = []
filled_literals i true = NotEmpty (var i) ∷ []

-- the literal of a target
abbrev pub target_literals : ℕ → Option (List ℕ) → List Literal
target_literals i None = []
target_literals i (Some b) = Target (var i) b ∷ []

-- the literals of one variable
abbrev pub literals_of : ℕ → Variable → List Literal
literals_of i v =
    definition_literals i v.definition
    ++ (kinds_literals i v.kinds
    ++ (fence_literals i v.fence ++ (filled_literals i v.not_empty ++ target_literals i v.target)))

-- the literals of the variables from a number on
abbrev pub literals_from : ℕ → List Variable → List Literal
literals_from i [] = []
literals_from i (v ∷ vs) = literals_of i v ++ literals_from (suc i) vs

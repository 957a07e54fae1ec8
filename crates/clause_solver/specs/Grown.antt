-- The start tree in which each place has its greatest kind.
use Rattle.std.specs.Prelude.{ℕ, suc, List, [], ◌∷◌, Bool, true, false, Option, unwrap_or, nat_eq, if◌then◌else◌}
use Rattle.script_names.specs.Ascii.{lower_x}
use Rattle.feature_trees.specs.declared.kind.Kind.{Kind}
use Rattle.feature_trees.specs.declared.kind.Kind.TheVariants as kind
use Rattle.feature_trees.specs.declared.value.Value.{Value}
use Rattle.feature_trees.specs.declared.value.Value.TheVariants.{Absent, Reg, Link, Special, Dir}
use Rattle.feature_trees.specs.declared.shape.Entry.{Entry}
use Rattle.feature_trees.specs.Tree.{update}
use Rattle.feature_trees.specs.View.{node_of}
use Rattle.clause_solver.specs.declared.variable.Definition.{Definition}
use Rattle.clause_solver.specs.declared.variable.Definition.TheVariants.{Start, Child, Derived, Ensured, Made}
use Rattle.clause_solver.specs.declared.variable.Variable.{Variable}
use Rattle.tree_clauses.specs.Literals.{Valuation}
use Rattle.clause_solver.specs.Greatest.{kind_at}

-- the target of a link of which no target is known: `x`
abbrev pub some_target : List ℕ
some_target = lower_x ∷ []

-- a value of a kind, with the target where it is a link and one is known, and with the entries where it is a directory
abbrev pub grown : Kind → Option (List ℕ) → List Entry → Value
grown kind.Absent target es = Absent
grown kind.Reg target es = Reg
grown kind.Link target es = Link (unwrap_or target some_target)
grown (kind.Special s) target es = Special s
grown kind.Dir target es = Dir es

-- the entries of the place p with the value of one more variable, where the variable is an entry of p
abbrev pub add : ℕ → Definition → Value → List Entry → List Entry
add p Start t es = es
add p (Child q f) t es = if nat_eq q p then update es f t else es
add p (Derived x f y) t es = es
add p (Ensured x) t es = es
add p (Made m) t es = es

-- the entries of the place p among these variables, whose values are given, added to some
abbrev pub children : ℕ → List Variable → Valuation → List Entry → List Entry
children p [] ts first = first
children p (c ∷ cs) [] first = first
children p (c ∷ cs) (t ∷ ts) first = add p c.definition t (children p cs ts first)

-- one entry of a new name, where one is wanted
abbrev pub extra : Bool → List ℕ → List Entry
extra false z = []
extra true z = record { name = z; node = node_of Reg } ∷ []

-- the values of the variables from a number on
abbrev pub values : List Kind → (ℕ → Bool) → List ℕ → ℕ → List Variable → Valuation
values best open_at z k [] = []
values best open_at z k (c ∷ cs) =
    grown (kind_at best k) c.target (children k cs (values best open_at z (suc k) cs) (extra (open_at k) z))
    ∷ values best open_at z (suc k) cs

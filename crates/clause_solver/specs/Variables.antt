-- The variables of a store: what a definition and the facts say of a valuation, and the order that they stand in.
use Rattle.std.specs.Prelude.{◌≡◌, ◌≢◌, ℕ, ◌<◌, ◌⊎◌, List, [], ◌∷◌, length, Option, Some, None, slice_index_or}
use Rattle.std.specs.Prelude.{slice_set, IsTrue, Bool, true, false, if◌then◌else◌}
use Rattle.std.specs.List.{list_any}
use Rattle.std.specs.Ordering.{is_eq}
use Rattle.script_names.specs.Names.{is_name}
use Rattle.feature_trees.specs.declared.value.Value.{Value}
use Rattle.feature_trees.specs.declared.value.Value.TheVariants as value
use Rattle.feature_trees.specs.declared.kind.Kind.{Kind}
use Rattle.feature_trees.specs.declared.kind.Kind.TheVariants as kind
use Rattle.feature_trees.specs.declared.kind.Kinds.{Kinds}
use Rattle.feature_trees.specs.Kinds.{has, none, of, both}
use Rattle.feature_trees.specs.Tree.{entry, kind_of, name_cmp, update, entries_of}
use Rattle.tree_clauses.specs.Literals.{Valuation, value_of_variable, IsSound}
use Rattle.clause_solver.specs.declared.variable.MadeValue.{MadeValue}
use Rattle.clause_solver.specs.declared.variable.MadeValue.TheVariants as made
use Rattle.clause_solver.specs.declared.variable.Definition.{Definition}
use Rattle.clause_solver.specs.declared.variable.Definition.TheVariants.{Start, Child, Derived, Ensured, Made}
use Rattle.clause_solver.specs.declared.variable.Variable.{Variable}

-- stands past the end of the list of variables
abbrev pub no_variable : Variable
no_variable = record { definition = Start; kinds = none; fence = None; not_empty = false; target = None }

-- the variable with this number
abbrev pub var_at : List Variable → ℕ → Variable
var_at vars i = slice_index_or vars i no_variable

-- the name is one of these
abbrev pub Listed : List ℕ → List (List ℕ) → Type 0
Listed f [] = ⊥
Listed f (g ∷ gs) = (f ≡ g) ⊎ Listed f gs

-- whether the name is one of these
abbrev pub member : List ℕ → List (List ℕ) → Bool
member f names = list_any (λ g. is_eq (name_cmp f g)) names

-- whether a fence lets the name in
abbrev pub allowed : Option (List (List ℕ)) → List ℕ → Bool
allowed None f = true
allowed (Some names) f = member f names

-- the value that is made
abbrev pub made_value : MadeValue → Value
made_value made.Absent = value.Absent
made_value made.Reg = value.Reg
made_value (made.Link b) = value.Link b
made_value made.Dir = value.Dir []

-- the value that a definition gives, from those of the earlier variables
abbrev pub defined : Valuation → Definition → Value
defined g Start = value_of_variable g 0
defined g (Child p f) = entry (value_of_variable g p) f
defined g (Derived x f y) = value.Dir (update (entries_of (value_of_variable g x)) f (value_of_variable g y))
defined g (Ensured x) = value.Dir (entries_of (value_of_variable g x))
defined g (Made m) = made_value m

-- the valuation gives the variable its defined value, and the facts on it hold
pub record Fits (g : Valuation) (i : ℕ) (v : Variable) : Type 0 where
  pub is : value_of_variable g i ≡ defined g v.definition
  pub kind : IsTrue (has v.kinds (kind_of (value_of_variable g i)))
  pub fenced : (f : List ℕ) → entry (value_of_variable g i) f ≢ value.Absent → IsTrue (allowed v.fence f)
  pub filled : IsTrue v.not_empty → (f : List ℕ) × (entry (value_of_variable g i) f ≢ value.Absent)
  pub aimed : (b : List ℕ) → v.target ≡ Some b → value_of_variable g i ≡ value.Link b

-- the valuation gives every variable its defined value, and the facts on each hold
abbrev pub AllFit : List Variable → Valuation → Type 0
AllFit vars g = (i : ℕ) → i < length vars → Fits g i (var_at vars i)

-- a place of the start tree
abbrev pub is_node : Definition → Bool
is_node Start = true
is_node (Child p f) = true
is_node (Derived x f y) = false
is_node (Ensured x) = false
is_node (Made m) = false

-- a definition names earlier variables alone, a child is one of a place of the start tree, and names are names
abbrev pub Earlier : List Variable → ℕ → Definition → Type 0
Earlier vars i Start = i ≡ 0
Earlier vars i (Child p f) = (p < i) × IsTrue (is_node (var_at vars p).definition) × IsTrue (is_name f)
Earlier vars i (Derived x f y) = (x < i) × (y < i) × IsTrue (is_name f)
Earlier vars i (Ensured x) = x < i
Earlier vars i (Made m) = Unit {0}

-- the variable is a place of the start tree, and its kinds allow a symbolic link at most
abbrev pub IsLinkPlace : Variable → Type 0
IsLinkPlace v = IsTrue (is_node v.definition) × ((k : Kind) → IsTrue (has v.kinds k) → k ≡ kind.Link)

-- the order that the variables of every store stand in
pub record Ordered (vars : List Variable) : Type 0 where
  pub some : 0 < length vars
  pub first : (var_at vars 0).definition ≡ Start
  pub earlier : (i : ℕ) → i < length vars → Earlier vars i (var_at vars i).definition
  -- no two children are the same entry
  pub single : (i j p : ℕ) (f : List ℕ) → i < j → j < length vars → (var_at vars i).definition ≡ Child p f
      → (var_at vars j).definition ≡ Child p f → ⊥
  -- each name of a fence has its variable
  pub known : (i : ℕ) (names : List (List ℕ)) (f : List ℕ) → i < length vars → (var_at vars i).fence ≡ Some names
      → IsTrue (member f names) → (m : ℕ) × (m < length vars) × ((var_at vars m).definition ≡ Child i f)
  -- only places of the start tree have fences
  pub nodes : (i : ℕ) → i < length vars → is_node (var_at vars i).definition ≡ false → (var_at vars i).fence ≡ None
  -- what has a target is a place of the start tree, and can be nothing but a link
  pub aims : (i : ℕ) (b : List ℕ) → i < length vars → (var_at vars i).target ≡ Some b → IsLinkPlace (var_at vars i)

-- the variable is a directory wherever all is met
abbrev pub AlwaysDir : List Variable → ℕ → Type 0
AlwaysDir vars x =
    (g : Valuation) → length g ≡ length vars → IsSound g → AllFit vars g → kind_of (value_of_variable g x) ≡ kind.Dir

-- the variable's kinds allow a directory at most
abbrev pub OnlyDir : List Variable → ℕ → Type 0
OnlyDir vars i = (k : Kind) → IsTrue (has (var_at vars i).kinds k) → k ≡ kind.Dir

-- the variable of the entry f of x, where there is one
abbrev pub IsChild : List Variable → ℕ → List ℕ → ℕ → Type 0
IsChild vars x f i = (i < length vars) × ((var_at vars i).definition ≡ Child x f)

-- whether the definition fixes the kind, and it is one of the set
abbrev pub fixed_in : Definition → Kinds → Bool
fixed_in Start k = false
fixed_in (Child p f) k = false
fixed_in (Derived x f y) k = has k kind.Dir
fixed_in (Ensured x) k = has k kind.Dir
fixed_in (Made m) k = has k (kind_of (made_value m))

-- the kinds of a variable that is narrowed to a set; where its definition says as much, they stay
abbrev pub narrowed_kinds : Variable → Kinds → Kinds
narrowed_kinds v k = if fixed_in v.definition k then v.kinds else both v.kinds k

-- the variable at a place is narrowed to a set
abbrev pub narrowed : List Variable → ℕ → Kinds → List Variable
narrowed vars x k = slice_set vars x (record (var_at vars x) { kinds = narrowed_kinds (var_at vars x) k })

-- the variable at a place has an entry
abbrev pub filled : List Variable → ℕ → List Variable
filled vars x = slice_set vars x (record (var_at vars x) { not_empty = true })

-- the variable at a place has this target as a symbolic link
abbrev pub aimed : List Variable → ℕ → List ℕ → List Variable
aimed vars x b = slice_set vars x (record (var_at vars x) { target = Some b })

-- the one kind that a definition fixes, else the kinds that are given
abbrev pub possible_by : Definition → Kinds → Kinds
possible_by Start ks = ks
possible_by (Child p f) ks = ks
possible_by (Derived x f y) ks = of kind.Dir
possible_by (Ensured x) ks = of kind.Dir
possible_by (Made m) ks = of (kind_of (made_value m))

-- the kinds that a variable can have, by its definition and its own kinds
abbrev pub possible : Variable → Kinds
possible v = possible_by v.definition v.kinds

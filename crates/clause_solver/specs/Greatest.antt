-- The greatest kind of each variable, in one pass, and when it is a kind that the facts allow.
use Rattle.std.specs.Prelude.{◌≡◌, ◌≢◌, ℕ, ◌<◌, List, [], ◌∷◌, length, Option, Some, None, slice_index_or, IsTrue}
use Rattle.std.specs.Prelude.{Bool, true, false, ◌&&◌, if◌then◌else◌}
use Rattle.feature_trees.specs.declared.kind.Kind.{Kind}
use Rattle.feature_trees.specs.declared.kind.Kind.TheVariants.{Absent, Reg, Link, Special, Dir}
use Rattle.feature_trees.specs.declared.kind.Special.TheVariants.{Fifo, Socket, Block, Char}
use Rattle.feature_trees.specs.declared.kind.Kinds.{Kinds}
use Rattle.feature_trees.specs.Kinds.{has}
use Rattle.feature_trees.specs.Tree.{kind_of}
use Rattle.clause_solver.specs.declared.variable.Definition.{Definition}
use Rattle.clause_solver.specs.declared.variable.Definition.TheVariants.{Start, Child, Derived, Ensured, Made}
use Rattle.clause_solver.specs.declared.variable.Variable.{Variable}
use Rattle.clause_solver.specs.Variables.{var_at, Listed, allowed, made_value, is_node}

-- the kind at a place of a list of kinds
abbrev pub kind_at : List Kind → ℕ → Kind
kind_at best i = slice_index_or best i Absent

-- the first of the special kinds in a set, or absent
abbrev pub choose_special : Kinds → Kind
choose_special s =
    if s.fifo then Special Fifo
    else (if s.socket then Special Socket
    else (if s.block then Special Block else (if s.char then Special Char else Absent)))

-- the greatest kind of a set: a directory where it may be one, then a file, a link or a special kind, and absent last
abbrev pub choose : Kinds → Kind
choose s = if s.dir then Dir else (if s.reg then Reg else (if s.link then Link else choose_special s))

-- whether the kind is a directory
abbrev pub is_dir : Kind → Bool
is_dir Absent = false
is_dir Reg = false
is_dir Link = false
is_dir (Special s) = false
is_dir Dir = true

-- the greatest kind by a definition, given those of the earlier variables
abbrev pub best_by : List Variable → List Kind → Kinds → Definition → Kind
best_by vars best ks Start = choose ks
best_by vars best ks (Child p f) =
    if is_dir (kind_at best p) && allowed (var_at vars p).fence f then choose ks else Absent
best_by vars best ks (Derived x f y) = Dir
best_by vars best ks (Ensured x) = Dir
best_by vars best ks (Made m) = kind_of (made_value m)

-- the greatest kind of a variable
abbrev pub best_of : List Variable → List Kind → ℕ → Kind
best_of vars best i = best_by vars best (var_at vars i).kinds (var_at vars i).definition

-- each variable has its greatest kind
abbrev pub IsBest : List Variable → List Kind → Type 0
IsBest vars best = (i : ℕ) → i < length vars → kind_at best i ≡ best_of vars best i

-- whether there is no fence
abbrev pub is_unfenced : Option (List (List ℕ)) → Bool
is_unfenced None = true
is_unfenced (Some names) = false

-- whether the variable has no fence
abbrev pub unfenced : List Variable → ℕ → Bool
unfenced vars n = is_unfenced (var_at vars n).fence

-- the places without a fence, or none
abbrev pub unfenced_if : List Variable → Bool → ℕ → Bool
unfenced_if vars counted n = counted && unfenced vars n

-- among the greatest kinds the variable has an entry under another name than these: a place of the start tree where it
-- is open, or where such an entry of it is there (`child_present`); a directory with an entry replaced where that
-- entry is such a one and there (`here`), or where the directory that it is made from has one (`below`); and a
-- directory with the entries of a variable where that has one (`kept`). A place that is open may have one more entry
-- of any name.
pub data HasEntryOutside (vars : List Variable) (best : List Kind) (open_at : ℕ → Bool) : ℕ → List (List ℕ)
    → Type 0 where
  free : {n : ℕ} {ds : List (List ℕ)} → IsTrue (is_node (var_at vars n).definition) → kind_at best n ≡ Dir
      → IsTrue (open_at n) → HasEntryOutside vars best open_at n ds
  child_present : {n : ℕ} {ds : List (List ℕ)} (m : ℕ) (f : List ℕ) → m < length vars
      → (var_at vars m).definition ≡ Child n f → kind_at best m ≢ Absent → ¬ (Listed f ds)
      → HasEntryOutside vars best open_at n ds
  here : {n : ℕ} {ds : List (List ℕ)} (x : ℕ) (f : List ℕ) (y : ℕ) → (var_at vars n).definition ≡ Derived x f y
      → kind_at best y ≢ Absent → ¬ (Listed f ds) → HasEntryOutside vars best open_at n ds
  below : {n : ℕ} {ds : List (List ℕ)} (x : ℕ) (f : List ℕ) (y : ℕ) → (var_at vars n).definition ≡ Derived x f y
      → HasEntryOutside vars best open_at x (f ∷ ds) → HasEntryOutside vars best open_at n ds
  kept : {n : ℕ} {ds : List (List ℕ)} (x : ℕ) → (var_at vars n).definition ≡ Ensured x
      → HasEntryOutside vars best open_at x ds → HasEntryOutside vars best open_at n ds

-- the greatest kind of a variable fits its facts
pub record IsSatisfiedAt (vars : List Variable) (best : List Kind) (open_at : ℕ → Bool) (i : ℕ) : Type 0 where
  pub fits : IsTrue (has (var_at vars i).kinds (kind_at best i))
  pub filled : IsTrue (var_at vars i).not_empty → HasEntryOutside vars best open_at i []

-- the greatest kind of every variable fits its facts
abbrev pub IsSatisfied : List Variable → List Kind → (ℕ → Bool) → Type 0
IsSatisfied vars best open_at = (i : ℕ) → i < length vars → IsSatisfiedAt vars best open_at i

-- the name that a child has
abbrev pub name_in : Definition → List ℕ
name_in Start = []
name_in (Child p f) = f
name_in (Derived x f y) = []
name_in (Ensured x) = []
name_in (Made m) = []

-- a place that may have any entry
abbrev pub IsOpen : List Kind → (ℕ → Bool) → ℕ → Type 0
IsOpen best open_at x = (kind_at best x ≡ Dir) × IsTrue (open_at x)

-- the variable m is an entry of x outside the names, and is there
abbrev pub IsPresentChild : List Variable → List Kind → ℕ → List (List ℕ) → ℕ → Type 0
IsPresentChild vars best x ds m =
    ((var_at vars m).definition ≡ Child x (name_in (var_at vars m).definition)) × (kind_at best m ≢ Absent)
    × (¬ (Listed (name_in (var_at vars m).definition) ds))

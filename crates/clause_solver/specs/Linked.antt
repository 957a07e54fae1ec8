-- How the entries of a place of the start tree are found: each place leads to its last entry, and each entry to the
-- one before it of the same place, and by its links to those before it by the place where the names differ first.
-- Likewise how the entry of a directory is found that is derived from others: by links along these.
use Rattle.std.specs.Prelude.{◌≡◌, ◌≢◌, ℕ, ◌+◌, ◌<◌, ◌≤◌, List, [], ◌∷◌, ◌++◌, length, Option, None, Some}
use Rattle.std.specs.Prelude.{slice_index_or, slice_set, ◌&&◌, ◌==◌, nat_le, nat_lt, if◌then◌else◌}
use Rattle.clause_solver.specs.Differences.{difference}
use Rattle.clause_solver.specs.declared.kin.Kin.{Kin}
use Rattle.clause_solver.specs.declared.kin.Link.{Link}
use Rattle.clause_solver.specs.declared.variable.Definition.{Definition}
use Rattle.clause_solver.specs.declared.variable.Definition.TheVariants.{Start, Child, Derived, Ensured, Made}
use Rattle.clause_solver.specs.declared.variable.Variable.{Variable}
use Rattle.feature_trees.specs.Tree.{entry}
use Rattle.tree_clauses.specs.Literals.{Valuation, value_of_variable, IsSound}
use Rattle.clause_solver.specs.Variables.{var_at, defined}

-- the links of a variable that has no entry and is none
abbrev pub other_kin : List Link → Option ℕ → ℕ → Kin
other_kin links top end = record { youngest = None; older = None; links = links; top = top; end = end }

-- stands past the end of the list of links
abbrev pub no_kin : Kin
no_kin = other_kin [] None 0

-- the links of the variable with this number
abbrev pub kin_at : List Kin → ℕ → Kin
kin_at kin i = slice_index_or kin i no_kin

-- the variable with this number is an entry of the place p
abbrev pub IsChildOf : List Variable → ℕ → ℕ → Type 0
IsChildOf vars p i = (f : List ℕ) × ((var_at vars i).definition ≡ Child p f)

-- the last entry of the place p among the first n variables, where there is one
abbrev pub IsLastChild : List Variable → ℕ → ℕ → Option ℕ → Type 0
IsLastChild vars p n None = (i : ℕ) → i < n → IsChildOf vars p i → ⊥
IsLastChild vars p n (Some m) =
    (m < n) × IsChildOf vars p m × ((i : ℕ) → m < i → i < n → IsChildOf vars p i → ⊥)

-- where the link for a place of difference leads, where there is one
abbrev pub link_at : List Link → ℕ → Option ℕ
link_at [] place = None
link_at (link ∷ links) place = if link.place == place then Some link.to else link_at links place

-- the links for the places of difference from one up to another
abbrev pub between : ℕ → ℕ → List Link → List Link
between low high [] = []
between low high (link ∷ links) =
    if nat_le low link.place && nat_lt link.place high then link ∷ between low high links else between low high links

-- the number is there, and no smaller than this one
abbrev pub Reaches : ℕ → Option ℕ → Type 0
Reaches i None = ⊥
Reaches i (Some m) = i ≤ m

-- where there is a number, it is that of an entry of the place p among the first n variables
abbrev pub LeadsToEntry : List Variable → ℕ → ℕ → Option ℕ → Type 0
LeadsToEntry vars p n None = Unit {0}
LeadsToEntry vars p n (Some m) = (m < n) × IsChildOf vars p m

-- the links of an entry f of the place p, from the first n variables: each leads to an entry of the place, and each
-- entry among them stands at the link for the place where its name differs first, or before it
pub record AreLinks (vars : List Variable) (p : ℕ) (f : List ℕ) (n : ℕ) (links : List Link) : Type 0 where
  pub entries : (place : ℕ) → LeadsToEntry vars p n (link_at links place)
  pub all : (i : ℕ) (g : List ℕ) → i < n → (var_at vars i).definition ≡ Child p g
      → Reaches i (link_at links (difference f g))

-- each variable has its defined value
abbrev pub AreDefined : List Variable → Valuation → Type 0
AreDefined vars g = (i : ℕ) → i < length vars → value_of_variable g i ≡ defined g (var_at vars i).definition

-- the entry f of x is the entry f of n, by the definitions alone
abbrev pub PassesTo : List Variable → ℕ → List ℕ → ℕ → Type 0
PassesTo vars x f n =
    (g : Valuation) → IsSound g → AreDefined vars g → entry (value_of_variable g x) f ≡ entry (value_of_variable g n) f

-- a place of the start tree or a made value: the way down through the definitions goes on from no other
abbrev pub IsEnd : Definition → Type 0
IsEnd Start = Unit {0}
IsEnd (Child p f) = Unit {0}
IsEnd (Derived x f y) = ⊥
IsEnd (Ensured x) = ⊥
IsEnd (Made m) = Unit {0}

-- the variable with this number is a directory that is derived from another
abbrev pub IsDerived : List Variable → ℕ → Type 0
IsDerived vars i = (x y : ℕ) × (f : List ℕ) × ((var_at vars i).definition ≡ Derived x f y)

-- where there is a number, it is that of a derived directory among the first n variables, with the same end
abbrev pub LeadsDown : List Variable → List Kin → ℕ → ℕ → Option ℕ → Type 0
LeadsDown vars kin end n None = Unit {0}
LeadsDown vars kin end n (Some m) = (m < n) × IsDerived vars m × ((kin_at kin m).end ≡ end)

-- the number, and where there is none the end
abbrev pub or_end : Option ℕ → ℕ → ℕ
or_end None end = end
or_end (Some m) end = m

-- the links of a directory that is derived from x with another value under f, among the first n variables, with this
-- end: each other entry of x is that of the directory to which the link leads for the place where its name differs
-- first from f, or, where there is no link, that of the end
pub record AreLinksDown (vars : List Variable) (kin : List Kin) (x : ℕ) (f : List ℕ) (end n : ℕ) (links : List Link)
    : Type 0 where
  pub down : (place : ℕ) → LeadsDown vars kin end n (link_at links place)
  pub passes : (g : List ℕ) → g ≢ f → PassesTo vars x g (or_end (link_at links (difference f g)) end)

-- each variable leads to the derived directory that has the same entries, where there is one, and to its end; and each
-- derived directory by its links to those that it is derived from
pub record AreLinkedDown (vars : List Variable) (kin : List Kin) : Type 0 where
  pub inside : (x : ℕ) → x < length vars → (kin_at kin x).end < length vars
  pub ends : (x : ℕ) → x < length vars → IsEnd (var_at vars (kin_at kin x).end).definition
  pub down : (x : ℕ) → x < length vars → LeadsDown vars kin (kin_at kin x).end (length vars) (kin_at kin x).top
  pub passes : (x : ℕ) (f : List ℕ) → x < length vars
      → PassesTo vars x f (or_end (kin_at kin x).top (kin_at kin x).end)
  pub links : (i x y : ℕ) (f : List ℕ) → i < length vars → (var_at vars i).definition ≡ Derived x f y
      → AreLinksDown vars kin x f (kin_at kin i).end i (kin_at kin i).links

-- each variable leads to its last entry, and each entry to the last one before it of the same place, and by its links
-- to all before it; and each directory leads to those that it is derived from
pub record AreLinked (vars : List Variable) (kin : List Kin) : Type 0 where
  pub counted : length kin ≡ length vars
  pub youngest : (p : ℕ) → p < length vars → IsLastChild vars p (length vars) (kin_at kin p).youngest
  pub older : (i p : ℕ) → i < length vars → IsChildOf vars p i → IsLastChild vars p i (kin_at kin i).older
  pub links : (i p : ℕ) (f : List ℕ) → i < length vars → (var_at vars i).definition ≡ Child p f
      → AreLinks vars p f i (kin_at kin i).links
  pub below : AreLinkedDown vars kin

-- the links of a further entry, of which those for the places below `from` are known, with those for the places from
-- there on up to the one where its name differs first from that of the entry m, which has these links of its own
abbrev pub more_links : List Link → ℕ → ℕ → ℕ → List Link → List Link
more_links links from place m own =
    if nat_lt place from then links
    else ((links ++ between from place own) ++ record { place = place; to = m } ∷ [])

-- below which place the links are known then
abbrev pub more_places : ℕ → ℕ → ℕ
more_places from place = if nat_lt place from then from else place + 1

-- the links with one entry of the place p more, which has these links of its own
abbrev pub with_entry : List Kin → ℕ → List Link → List Kin
with_entry kin p links =
    slice_set kin p (record (kin_at kin p) { youngest = Some (length kin) })
    ++ record (other_kin links None (length kin)) { older = (kin_at kin p).youngest } ∷ []

-- the new links are the old ones with those of one variable more
abbrev pub WithVariable : List Variable → List Kin → Definition → List Kin → Type 0
WithVariable vars kin Start new = new ≡ kin ++ other_kin [] None (length kin) ∷ []
WithVariable vars kin (Child p f) new =
    (links : List Link) × AreLinks vars p f (length vars) links × (new ≡ with_entry kin p links)
WithVariable vars kin (Derived x f y) new =
    (links : List Link) × AreLinksDown vars kin x f (kin_at kin x).end (length vars) links
    × (new ≡ kin ++ other_kin links (Some (length kin)) (kin_at kin x).end ∷ [])
WithVariable vars kin (Ensured x) new = new ≡ kin ++ other_kin [] (kin_at kin x).top (kin_at kin x).end ∷ []
WithVariable vars kin (Made m) new = new ≡ kin ++ other_kin [] None (length kin) ∷ []

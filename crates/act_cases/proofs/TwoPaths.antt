-- Moves and copies, which look along two paths.
use Rattle.std.proofs.Common.{◌≡◌, ◌≢◌, ℕ, ◌-◌, Bool, true, false, IsTrue, inl, inr, Option, Some, None, List, [], ◌∷◌, length, refl, sym, ap, subst, arith}
use Rattle.std.proofs.lemmas.Option.{slice_get-get_or}
use Rattle.script_names.specs.Paths.{PathParts}
use Rattle.feature_trees.specs.declared.kind.Kind.{Kind}
use Rattle.feature_trees.specs.declared.kind.Kind.TheVariants.{Absent, Reg, Link, Special, Dir}
use Rattle.feature_trees.specs.declared.kind.Special.TheVariants.{Fifo, Socket, Block, Char}
use Rattle.feature_trees.specs.declared.value.Value.{Value}
use Rattle.feature_trees.specs.Kinds.{has}
use Rattle.feature_trees.specs.Tree.{at, kind_of}
use Rattle.utility_calls.specs.declared.acts.Act.{Act}
use Rattle.utility_calls.specs.declared.acts.Act.TheVariants.{Move, Copy}
use Rattle.utility_calls.specs.Acts.{path_of, place_of, inner_name, moved, source, source_of, is_prefix, is_below, takes, last_name, is_question, IsPerformed}
use Rattle.utility_calls.proofs.ActChanges.{IsStillOrTakes, still_or_takes}
use Rattle.act_cases.specs.Moves.{copied, taken}
use Rattle.act_cases.specs.Cases.{HasSource}
use Rattle.act_cases.proofs.RuleSees.{some_name}

-- what holds of moves and of copies holds of the acts on two paths
pub two_by : (P : Act → Type 0) → ((a b : PathParts) → P (Move a b)) → ((a b : PathParts) (deep : Bool) → P (Copy a b deep)) → (act : Act) → HasSource (source act) → P act
two_by P moves copies act two = by (source act) two (still_or_takes act)
  where
    by : (o : Option PathParts) → HasSource o → IsStillOrTakes act o → P act
    by None h s = absurd h
    by (Some a) h s = elim s.1 [ inl e ↦ subst P (sym e) (moves a s.0) | inr c ↦ subst P (sym c.1) (copies a s.0 c.0) ]

pub changes_tree : (act : Act) → HasSource (source act) → is_question act ≡ false
changes_tree = two_by (λ act. is_question act ≡ false) (λ a b. refl) (λ a b deep. refl)

-- what is moved or copied stands at the path
pub source_kind : (act : Act) → HasSource (source act) → (t : Value) → source_of act t ≡ kind_of (at t (path_of act).names)
source_kind = two_by (λ act. (t : Value) → source_of act t ≡ kind_of (at t (path_of act).names)) (λ a b t. refl) (λ a b deep t. refl)

last_some : (names : List (List ℕ)) → names ≢ [] → IsTrue (some_name (last_name names))
last_some [] ne = absurd (ne refl)
last_some (f ∷ rest) ne = ap some_name (slice_get-get_or (f ∷ rest) (length (f ∷ rest) - 1) f (omega arith))

pub inner_some : (act : Act) → HasSource (source act) → (path_of act).names ≢ [] → IsTrue (some_name (inner_name act))
inner_some = two_by (λ act. (path_of act).names ≢ [] → IsTrue (some_name (inner_name act))) (λ a b ne. last_some a.names ne) (λ a b deep ne. last_some a.names ne)

-- ---- a move, or a copy

-- whether nothing is moved
abbrev pub is_still : Option PathParts → Bool
is_still None = true
is_still (Some p) = false

-- the names of a move's paths differ
pub paths_differ : (act : Act) → HasSource (source act) → is_still (moved act) ≡ false → IsPerformed act → (path_of act).names ≢ place_of act
paths_differ = two_by (λ act. is_still (moved act) ≡ false → IsPerformed act → (path_of act).names ≢ place_of act) (λ a b h performed. performed.1) (λ a b deep h performed. absurd (cc))

pub beside_first : (act : Act) → HasSource (source act) → is_still (moved act) ≡ false → is_below act ≡ false → is_prefix (path_of act).names (place_of act) ≡ false
beside_first =
    two_by (λ act. is_still (moved act) ≡ false → is_below act ≡ false → is_prefix (path_of act).names (place_of act) ≡ false) (λ a b h beside. beside)
    (λ a b deep h beside. absurd (cc))

-- ---- what is moved or copied

copied_is : (a b : PathParts) (deep : Bool) (k : Kind) → takes (Copy a b deep) k ≡ has (copied deep) k
copied_is a b false Absent = refl
copied_is a b false Reg = refl
copied_is a b false Link = refl
copied_is a b false (Special Fifo) = refl
copied_is a b false (Special Socket) = refl
copied_is a b false (Special Block) = refl
copied_is a b false (Special Char) = refl
copied_is a b false Dir = refl
copied_is a b true Absent = refl
copied_is a b true Reg = refl
copied_is a b true Link = refl
copied_is a b true (Special Fifo) = refl
copied_is a b true (Special Socket) = refl
copied_is a b true (Special Block) = refl
copied_is a b true (Special Char) = refl
copied_is a b true Dir = refl

pub taken_is : (act : Act) → HasSource (source act) → (k : Kind) → takes act k ≡ has (taken act) k
taken_is = two_by (λ act. (k : Kind) → takes act k ≡ has (taken act) k) (λ a b k. refl) (λ a b deep k. copied_is a b deep k)

-- Where each row of an act applies on a tree, and that exactly one does.
use Rattle.std.specs.Prelude.{◌≡◌, ◌≢◌, ℕ, ◌+◌, ◌<◌, ◌≤◌, ◌⊎◌, IsTrue, List, [], ◌∷◌, length}
use Rattle.feature_trees.specs.declared.value.Value.{Value}
use Rattle.feature_trees.specs.declared.kind.Kind.TheVariants.{Absent, Link, Dir}
use Rattle.feature_trees.specs.Sound.{IsTree}
use Rattle.feature_trees.specs.Tree.{at, kind_of}
use Rattle.utility_calls.specs.declared.acts.Act.{Act}
use Rattle.utility_calls.specs.Ways.{kind_at, NoLinkOnWay}
use Rattle.utility_calls.specs.declared.sights.Rule.{Rule}
use Rattle.utility_calls.specs.Table.{rules, rule_holds}
use Rattle.utility_calls.specs.Acts.{path_of, place_of, is_below, source_of, looks_at_way, sight_on, IsPerformed, row}

-- the row is one of these
abbrev pub IsAmong : Rule → List Rule → Type 0
IsAmong r [] = ⊥
IsAmong r (other ∷ rs) = (r ≡ other) ⊎ IsAmong r rs

-- Where the path ends in a slash, nothing or a directory stands there.
abbrev pub FitsSlash : Act → Value → Type 0
FitsSlash act tree =
    IsTrue (path_of act).slash
    → (kind_of (at tree (path_of act).names) ≡ Absent) ⊎ (kind_of (at tree (path_of act).names) ≡ Dir)

-- no strict prefix of the act's path is a link, and its slash fits: all rows behind 64 need this
abbrev pub Reaches : Act → Value → Type 0
Reaches act tree = NoLinkOnWay tree (path_of act).names × FitsSlash act tree

-- A move looks at the way of its second path where it moves something, or where that path is below the first; a copy
-- where it copies something.
abbrev pub LooksAtWay : Act → Value → Type 0
LooksAtWay act tree = IsTrue (looks_at_way act tree)

-- the row of this number applies to the act on the tree
pub data Applies (act : Act) (tree : Value) : ℕ → Type 0 where
  -- row k, from 1 to one less than the path's count of names: a link stands at its first k names
  on_way : (k : ℕ) → 1 ≤ k → k < length (path_of act).names → kind_at tree (path_of act).names k ≡ Link
      → Applies act tree k
  -- row 64: the path ends in a slash, and what stands there is neither absent nor a directory
  at_slash : NoLinkOnWay tree (path_of act).names → IsTrue (path_of act).slash
      → kind_of (at tree (path_of act).names) ≢ Absent → kind_of (at tree (path_of act).names) ≢ Dir
      → Applies act tree 64
  -- row 128 and k, of an act that looks at the way of a second path, k from 1 to one less than that path's count of
  -- names: a link stands at its first k names
  on_second_way : (k : ℕ) → Reaches act tree → LooksAtWay act tree → 1 ≤ k → k < length (place_of act)
      → kind_at tree (place_of act) k ≡ Link → Applies act tree (128 + k)
  -- a row of the act's table
  own : (r : Rule) → Reaches act tree → (LooksAtWay act tree → NoLinkOnWay tree (place_of act))
      → IsAmong r (rules (is_below act) act) → IsTrue (rule_holds (source_of act tree) (sight_on act tree) r)
      → Applies act tree r.number

-- the row of an act on a tree applies
abbrev pub RowApplies : Type 0
RowApplies = (act : Act) (tree : Value) → IsPerformed act → IsTree tree → Applies act tree (row act tree).number

-- no other row does
abbrev pub NoOtherApplies : Type 0
NoOtherApplies =
    (act : Act) (tree : Value) (n : ℕ) → IsPerformed act → IsTree tree → Applies act tree n → n ≡ (row act tree).number

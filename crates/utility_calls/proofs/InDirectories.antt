-- What an act puts or takes away is in a directory.
use Rattle.std.proofs.Common.{◌≡◌, ◌≢◌, ℕ, Bool, true, false, not, ◌&&◌, ◌||◌, IsTrue, Option, Some, None, List, []}
use Rattle.std.proofs.lemmas.Bool.{not-true}
use Rattle.std.proofs.Common.{refl, sym, ap, subst, ◌∙◌}
use Rattle.feature_trees.specs.declared.value.Value.{Value}
use Rattle.feature_trees.specs.declared.value.Value.TheVariants as value
use Rattle.feature_trees.specs.declared.kind.Kind.{Kind}
use Rattle.feature_trees.specs.declared.kind.Kind.TheVariants.{Absent, Reg, Link, Special, Dir}
use Rattle.feature_trees.specs.declared.kind.Special.{Special as SpecialKind}
use Rattle.feature_trees.specs.declared.kind.Special.TheVariants.{Fifo, Socket, Block, Char}
use Rattle.feature_trees.specs.Kinds.{has, of}
use Rattle.feature_trees.specs.Sound.{sound}
use Rattle.feature_trees.specs.Tree.{at, kind_of, has_parents}
use Rattle.feature_trees.proofs.Laws.{and_parts}
use Rattle.script_names.specs.Paths.{PathParts}
use Rattle.utility_calls.specs.declared.acts.Act.{Act}
use Rattle.utility_calls.specs.declared.acts.Act.TheVariants.{Exists, IsReg, IsDir, IsLink, CanRun, IsSpecial, MakeDir, EnsureDir}
use Rattle.utility_calls.specs.declared.acts.Act.TheVariants.{RemoveDir, Remove, Touch, Symlink, Move, Attr, Copy, PlaceFile}
use Rattle.utility_calls.specs.declared.acts.Act.TheVariants.{PlaceLink, PlaceConf, Discard, DiscardDir}
use Rattle.utility_calls.specs.declared.sights.Sight.{Sight}
use Rattle.utility_calls.specs.declared.sights.Row.{Row}
use Rattle.utility_calls.specs.declared.sights.Effect.{Effect}
use Rattle.utility_calls.specs.declared.sights.Effect.TheVariants.{Nothing, MakesDir, KeepsDir, MakesFile, MakesLink}
use Rattle.utility_calls.specs.declared.sights.Effect.TheVariants.{LinksInside, TakesAway, Moves, MovesInside, Copies}
use Rattle.utility_calls.specs.declared.sights.Effect.TheVariants.{CopiesInside}
use Rattle.utility_calls.specs.Ways.{link_on_way}
use Rattle.utility_calls.specs.declared.sights.Rule.{Rule}
use Rattle.utility_calls.specs.Table.{rules, first_row, can_run_by, is_special_rules, remove_by, symlink_by}
use Rattle.utility_calls.specs.Table.{move_by, copy_by}
use Rattle.utility_calls.specs.Acts.{path_of, place_of, inner_name, inner_of, with_name, source_of, is_prefix, is_below}
use Rattle.utility_calls.specs.Acts.{is_there, second_link, by_way, by_slash, sight_on, own_row, row, is_question}
use Rattle.utility_calls.specs.Acts.{IsPerformed}
use Rattle.utility_calls.specs.ActChanges.{IsInDirectory}
use Rattle.utility_calls.proofs.ActRow.{all_sights, each_sight, possible, given_possible, seen_possible}
use Rattle.utility_calls.proofs.Above.{some_in, there_parents, inside_parents, kept_parents, clear_place, clear_inside}
use Rattle.utility_calls.proofs.ActChanges.{question_row}

-- ---- what each effect needs to see: of an act without a source, of a move of what is of kind k, and of a copy

abbrev seen_by : Effect → Sight → Bool
seen_by Nothing s = true
seen_by MakesDir s = s.in_dir
seen_by KeepsDir s = s.in_dir
seen_by MakesFile s = s.in_dir
seen_by MakesLink s = s.in_dir
seen_by LinksInside s = has (of Dir) s.kind
seen_by TakesAway s = s.in_dir
seen_by Moves s = false
seen_by MovesInside s = false
seen_by Copies s = false
seen_by CopiesInside s = false

abbrev seen_by_move : Bool → Effect → Kind → Sight → Bool
seen_by_move below Nothing k s = true
seen_by_move below MakesDir k s = false
seen_by_move below KeepsDir k s = false
seen_by_move below MakesFile k s = false
seen_by_move below MakesLink k s = false
seen_by_move below LinksInside k s = false
seen_by_move below TakesAway k s = false
seen_by_move below Moves k s = not below && (is_there k && s.in_dir)
seen_by_move below MovesInside k s = not below && (is_there k && has (of Dir) s.kind)
seen_by_move below Copies k s = false
seen_by_move below CopiesInside k s = false

abbrev seen_by_copy : Effect → Sight → Bool
seen_by_copy Nothing s = true
seen_by_copy MakesDir s = false
seen_by_copy KeepsDir s = false
seen_by_copy MakesFile s = false
seen_by_copy MakesLink s = false
seen_by_copy LinksInside s = false
seen_by_copy TakesAway s = false
seen_by_copy Moves s = false
seen_by_copy MovesInside s = false
seen_by_copy Copies s = s.in_dir
seen_by_copy CopiesInside s = has (of Dir) s.kind

-- ---- the rows of each table

abbrev fits : List Rule → Sight → Bool
fits rs s = not (possible s) || seen_by (first_row rs Absent s).effect s

fitting : (rs : List Rule) → all_sights (fits rs) ≡ true → (s : Sight) → possible s ≡ true
    → seen_by (first_row rs Absent s).effect s ≡ true
fitting rs h s p =
    given_possible (possible s) (seen_by (first_row rs Absent s).effect s) p (each_sight (fits rs) h s)

runs_fit : (runs : Bool) → all_sights (fits (can_run_by runs)) ≡ true
runs_fit false = refl
runs_fit true = refl

specials_fit : (kind : SpecialKind) → all_sights (fits (is_special_rules kind)) ≡ true
specials_fit Fifo = refl
specials_fit Socket = refl
specials_fit Block = refl
specials_fit Char = refl

removes_fit : (force deep : Bool) → all_sights (fits (remove_by force deep)) ≡ true
removes_fit false false = refl
removes_fit false true = refl
removes_fit true false = refl
removes_fit true true = refl

links_fit : (force : Bool) → all_sights (fits (symlink_by force)) ≡ true
links_fit false = refl
links_fit true = refl

abbrev move_fits : Bool → Kind → Sight → Bool
move_fits below k s = not (possible s) || seen_by_move below (first_row (move_by below) k s).effect k s

moves_fit : (below : Bool) (k : Kind) → all_sights (move_fits below k) ≡ true
moves_fit true Absent = refl
moves_fit true Reg = refl
moves_fit true Link = refl
moves_fit true (Special Fifo) = refl
moves_fit true (Special Socket) = refl
moves_fit true (Special Block) = refl
moves_fit true (Special Char) = refl
moves_fit true Dir = refl
moves_fit false Absent = refl
moves_fit false Reg = refl
moves_fit false Link = refl
moves_fit false (Special Fifo) = refl
moves_fit false (Special Socket) = refl
moves_fit false (Special Block) = refl
moves_fit false (Special Char) = refl
moves_fit false Dir = refl

move_fitting : (below : Bool) (k : Kind) (s : Sight) → possible s ≡ true
    → seen_by_move below (first_row (move_by below) k s).effect k s ≡ true
move_fitting below k s p =
    given_possible (possible s) (seen_by_move below (first_row (move_by below) k s).effect k s) p
    (each_sight (move_fits below k) (moves_fit below k) s)

abbrev copy_fits : Bool → Kind → Sight → Bool
copy_fits deep k s = not (possible s) || seen_by_copy (first_row (copy_by deep) k s).effect s

copy_seen : (deep : Bool) (k : Kind) → all_sights (copy_fits deep k) ≡ true → (s : Sight) → possible s ≡ true
    → seen_by_copy (first_row (copy_by deep) k s).effect s ≡ true
copy_seen deep k h s p =
    given_possible (possible s) (seen_by_copy (first_row (copy_by deep) k s).effect s) p
    (each_sight (copy_fits deep k) h s)

-- of every kind but a regular file and a directory the row has no effect, whatever is seen
copy_fitting : (deep : Bool) (k : Kind) (s : Sight) → possible s ≡ true
    → seen_by_copy (first_row (copy_by deep) k s).effect s ≡ true
copy_fitting false Absent s p = refl
copy_fitting false Reg s p = copy_seen false Reg refl s p
copy_fitting false Link s p = refl
copy_fitting false (Special Fifo) s p = refl
copy_fitting false (Special Socket) s p = refl
copy_fitting false (Special Block) s p = refl
copy_fitting false (Special Char) s p = refl
copy_fitting false Dir s p = refl
copy_fitting true Absent s p = refl
copy_fitting true Reg s p = copy_seen true Reg refl s p
copy_fitting true Link s p = refl
copy_fitting true (Special Fifo) s p = refl
copy_fitting true (Special Socket) s p = refl
copy_fitting true (Special Block) s p = refl
copy_fitting true (Special Char) s p = refl
copy_fitting true Dir s p = copy_seen true Dir refl s p

-- ---- an act without a source

module _ (act : Act) (tree : Value) (ne : place_of act ≢ []) (place : place_of act ≡ (path_of act).names)
    (nothing : source_of act tree ≡ Absent) (rows : all_sights (fits (rules (is_below act) act)) ≡ true) where
  abbrev s : Sight
  s = sight_on act tree

  at_path : s.in_dir ≡ true → IsTrue (has_parents tree (path_of act).names)
  at_path h = subst (λ ns. IsTrue (has_parents tree ns)) place (some_in tree (place_of act) ne h)

  in_place : (e : Effect) → seen_by e s ≡ true → IsInDirectory e act tree
  in_place Nothing h = tt
  in_place MakesDir h = at_path h
  in_place KeepsDir h = at_path h
  in_place MakesFile h = at_path h
  in_place MakesLink h = at_path h
  in_place LinksInside h =
      subst (λ ns. IsTrue (has_parents tree (with_name ns (inner_name act)))) place
      (inside_parents tree (place_of act) (inner_name act) h)
  in_place TakesAway h = at_path h
  in_place Moves h = absurd (cc)
  in_place MovesInside h = absurd (cc)
  in_place Copies h = absurd (cc)
  in_place CopiesInside h = absurd (cc)

  own_still : IsInDirectory (own_row act tree).effect act tree
  own_still =
      let seen = fitting (rules (is_below act) act) rows s (seen_possible tree (inner_of act tree) (place_of act) ne) in
      in_place (own_row act tree).effect
      (subst (λ k. seen_by (first_row (rules (is_below act) act) k s).effect s ≡ true) (sym nothing) seen)

-- ---- a move

module _ (a b : PathParts) (tree : Value) (performed : IsPerformed (Move a b)) (sounds : IsTrue (sound tree)) where
  abbrev act : Act
  act = Move a b

  abbrev seen : Sight
  seen = sight_on act tree

  abbrev from : Kind
  from = source_of act tree

  abbrev below : Bool
  below = is_prefix a.names b.names

  not_absent : is_there from ≡ true → from ≢ Absent
  not_absent h e = let x : true ≡ false = sym h ∙ ap is_there e in cc

  in_move : (e : Effect) → seen_by_move below e from seen ≡ true → IsInDirectory e act tree
  in_move Nothing h = tt
  in_move MakesDir h = absurd (cc)
  in_move KeepsDir h = absurd (cc)
  in_move MakesFile h = absurd (cc)
  in_move MakesLink h = absurd (cc)
  in_move LinksInside h = absurd (cc)
  in_move TakesAway h = absurd (cc)
  in_move Moves h =
      let beside = and_parts (not below) (is_there from && seen.in_dir) h in
      let parts = and_parts (is_there from) seen.in_dir beside.1 in (
        there_parents tree a.names (not_absent parts.0),
        kept_parents tree value.Absent a.names b.names sounds (clear_place a.names b.names (not-true below beside.0))
            (some_in tree b.names (performed.0 refl).1 parts.1),
      )
  in_move MovesInside h =
      let beside = and_parts (not below) (is_there from && has (of Dir) seen.kind) h in
      let parts = and_parts (is_there from) (has (of Dir) seen.kind) beside.1 in (
        there_parents tree a.names (not_absent parts.0),
        kept_parents tree value.Absent a.names (with_name b.names (inner_name act)) sounds
            (clear_inside a.names b.names (inner_name act) (not-true below beside.0) performed.1)
            (inside_parents tree b.names (inner_name act) parts.1),
      )
  in_move Copies h = absurd (cc)
  in_move CopiesInside h = absurd (cc)

  own_moves : IsInDirectory (own_row act tree).effect act tree
  own_moves =
      in_move (own_row act tree).effect
      (move_fitting below from seen (seen_possible tree (inner_of act tree) b.names (performed.0 refl).1))

-- ---- a copy

module _ (a b : PathParts) (deep : Bool) (tree : Value) (performed : IsPerformed (Copy a b deep)) where
  abbrev copies : Act
  copies = Copy a b deep

  in_copy : (e : Effect) → seen_by_copy e (sight_on copies tree) ≡ true → IsInDirectory e copies tree
  in_copy Nothing h = tt
  in_copy MakesDir h = absurd (cc)
  in_copy KeepsDir h = absurd (cc)
  in_copy MakesFile h = absurd (cc)
  in_copy MakesLink h = absurd (cc)
  in_copy LinksInside h = absurd (cc)
  in_copy TakesAway h = absurd (cc)
  in_copy Moves h = absurd (cc)
  in_copy MovesInside h = absurd (cc)
  in_copy Copies h = some_in tree b.names (performed.0 refl).1 h
  in_copy CopiesInside h = inside_parents tree b.names (inner_name copies) h

  own_copies : IsInDirectory (own_row copies tree).effect copies tree
  own_copies =
      in_copy (own_row copies tree).effect
      (copy_fitting deep (source_of copies tree) (sight_on copies tree)
      (seen_possible tree (inner_of copies tree) b.names (performed.0 refl).1))

-- ---- the row of an act

module _ (P : Effect → Type 0) (nothing : P Nothing) where
  by_way_has : (o : Option ℕ) (r : Row) → P r.effect → P (by_way o r).effect
  by_way_has None r h = h
  by_way_has (Some n) r h = nothing

  by_slash_has : (s : Bool) (k : Kind) (r : Row) → P r.effect → P (by_slash s k r).effect
  by_slash_has false k r h = h
  by_slash_has true Absent r h = h
  by_slash_has true Reg r h = nothing
  by_slash_has true Link r h = nothing
  by_slash_has true (Special s) r h = nothing
  by_slash_has true Dir r h = h

  row_has : (act : Act) (tree : Value) → P (own_row act tree).effect → P (row act tree).effect
  row_has act tree h =
      by_way_has (link_on_way 0 tree (path_of act).names) _
      (by_slash_has (path_of act).slash (kind_of (at tree (path_of act).names)) _
      (by_way_has (second_link act tree) (own_row act tree) h))

own_in : (act : Act) (tree : Value) → IsPerformed act → place_of act ≢ [] → IsTrue (sound tree)
    → IsInDirectory (own_row act tree).effect act tree
own_in (Exists p) tree h ne s = own_still (Exists p) tree ne refl refl refl
own_in (IsReg p) tree h ne s = own_still (IsReg p) tree ne refl refl refl
own_in (IsDir p) tree h ne s = own_still (IsDir p) tree ne refl refl refl
own_in (IsLink p) tree h ne s = own_still (IsLink p) tree ne refl refl refl
own_in (CanRun p runs) tree h ne s = own_still (CanRun p runs) tree ne refl refl (runs_fit runs)
own_in (IsSpecial p kind) tree h ne s = own_still (IsSpecial p kind) tree ne refl refl (specials_fit kind)
own_in (MakeDir p) tree h ne s = own_still (MakeDir p) tree ne refl refl refl
own_in (EnsureDir p) tree h ne s = own_still (EnsureDir p) tree ne refl refl refl
own_in (RemoveDir p) tree h ne s = own_still (RemoveDir p) tree ne refl refl refl
own_in (Remove p force deep) tree h ne s = own_still (Remove p force deep) tree ne refl refl (removes_fit force deep)
own_in (Touch p) tree h ne s = own_still (Touch p) tree ne refl refl refl
own_in (Symlink p target last force) tree h ne s =
    own_still (Symlink p target last force) tree ne refl refl (links_fit force)
own_in (Move a b) tree h ne s = own_moves a b tree h s
own_in (Attr p) tree h ne s = own_still (Attr p) tree ne refl refl refl
own_in (Copy a b deep) tree h ne s = own_copies a b deep tree h
own_in (PlaceFile p) tree h ne s = own_still (PlaceFile p) tree ne refl refl refl
own_in (PlaceLink p target) tree h ne s = own_still (PlaceLink p target) tree ne refl refl refl
own_in (PlaceConf p) tree h ne s = own_still (PlaceConf p) tree ne refl refl refl
own_in (Discard p) tree h ne s = own_still (Discard p) tree ne refl refl refl
own_in (DiscardDir p) tree h ne s = own_still (DiscardDir p) tree ne refl refl refl

pub in_directory : (act : Act) (tree : Value) → IsPerformed act → IsTrue (sound tree)
    → IsInDirectory (row act tree).effect act tree
in_directory act tree h s = by (is_question act) refl
  where
    by : (b : Bool) → is_question act ≡ b → IsInDirectory (row act tree).effect act tree
    by true q = subst (λ e. IsInDirectory e act tree) (sym (question_row act tree q)) tt
    by false q = row_has (λ e. IsInDirectory e act tree) tt act tree (own_in act tree h (h.0 q).1 s)

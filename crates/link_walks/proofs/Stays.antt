-- A followed act leaves each known link, and the directory at its end.
use Rattle.std.proofs.Common.{◌≡◌, ◌≢◌, ℕ, ◌-◌, Bool, true, false, not, ◌&&◌, ◌||◌, IsTrue, Option, Some, None, List, [], ◌∷◌, ◌++◌, length, get_or, slice_get, refl, sym, ap, subst, ◌∙◌, arith}
use Rattle.std.proofs.lemmas.Option.{slice_get-get_or}
use Rattle.std.specs.Str.{bytes_eq}
use Rattle.std.proofs.lemmas.Slice.Eq.{bytes_eq-Decides}
use Rattle.std.proofs.lemmas.Bool.{and_parts}
use Rattle.script_names.specs.Paths.{PathParts}
use Rattle.feature_trees.specs.declared.value.Value.{Value}
use Rattle.feature_trees.specs.declared.value.Value.TheVariants as value
use Rattle.feature_trees.specs.declared.kind.Kind.{Kind}
use Rattle.feature_trees.specs.declared.kind.Kind.TheVariants.{Absent, Reg, Link, Special, Dir}
use Rattle.feature_trees.specs.declared.kind.Special.TheVariants.{Fifo, Socket, Block, Char}
use Rattle.feature_trees.specs.Kinds.{has, of}
use Rattle.feature_trees.specs.Sound.{sound}
use Rattle.feature_trees.specs.Tree.{at, entries_of, kind_of, put}
use Rattle.feature_trees.specs.Laws.{PutsStaySound}
use Rattle.feature_trees.proofs.Laws.{at-append}
use Rattle.utility_calls.specs.declared.acts.Act.{Act}
use Rattle.utility_calls.specs.declared.acts.Act.TheVariants.{Exists, IsReg, IsDir, IsLink, CanRun, IsSpecial, MakeDir}
use Rattle.utility_calls.specs.declared.acts.Act.TheVariants.{EnsureDir, RemoveDir, Remove, Touch, Symlink, Attr, Move}
use Rattle.utility_calls.specs.declared.acts.Act.TheVariants.{Copy, PlaceFile, PlaceLink, PlaceConf, Discard, DiscardDir}
use Rattle.utility_calls.specs.declared.sights.Sight.{Sight}
use Rattle.utility_calls.specs.declared.sights.Row.{Row}
use Rattle.utility_calls.specs.declared.sights.Rule.{Rule}
use Rattle.utility_calls.specs.declared.sights.Effect.{Effect}
use Rattle.utility_calls.specs.declared.sights.Effect.TheVariants.{Nothing, MakesDir, KeepsDir, MakesFile, MakesLink}
use Rattle.utility_calls.specs.declared.sights.Effect.TheVariants.{LinksInside, TakesAway, Moves, MovesInside, Copies}
use Rattle.utility_calls.specs.declared.sights.Effect.TheVariants.{CopiesInside}
use Rattle.utility_calls.specs.Sights.{has_entry}
use Rattle.utility_calls.specs.Ways.{link_on_way}
use Rattle.utility_calls.specs.Table.{rules, first_row, remove_by, symlink_by, move_by, copy_by}
use Rattle.utility_calls.specs.Acts.{path_of, place_of, inner_name, inner_of, target_of, with_name, last_name, inner_at, source_of, is_prefix, is_below, second_link, by_way, by_slash, sight_on, own_row, row, effect_on, is_question, tree_after, IsPerformed}
use Rattle.utility_calls.specs.ActChanges.{IsInDirectory, HasNames}
use Rattle.utility_calls.specs.Pairs.{same_names}
use Rattle.utility_calls.proofs.Ways.{at_absent}
use Rattle.utility_calls.proofs.ActRow.{all_sights, each_sight, possible, given_possible, seen_possible}
use Rattle.utility_calls.proofs.ActChanges.{question_row}
use Rattle.utility_calls.proofs.InDirectories.{in_directory}
use Rattle.link_walks.specs.Links.{LinkParts}
use Rattle.link_walks.specs.Following.{changes_link, takes_away, begin_at}
use Rattle.link_walks.proofs.PutsApart.{link_kept, dir_kept}
use Rattle.link_walks.proofs.SameNames.{same_self, differ, not_under}

-- ---- tests that hold

not_dir : (k : Kind) → not (has (of Dir) k) ≡ true → k ≢ Dir
not_dir k h e = let x : false ≡ true = ap (λ k. not (has (of Dir) k)) (sym e) ∙ h in cc

not_link : (k : Kind) → not (has (of Link) k) ≡ true → k ≢ Link
not_link k h e = let x : false ≡ true = ap (λ k. not (has (of Link) k)) (sym e) ∙ h in cc

not_filled : (b : Bool) → not b ≡ true → b ≢ true
not_filled b h e = let x : false ≡ true = ap not (sym e) ∙ h in cc

or_flag : (a b : Bool) → (a || b) ≡ true → (b ≡ true → ⊥) → a ≡ true
or_flag true b h w = refl
or_flag false b h w = absurd (w h)

neither : (a b : Bool) → (a || b) ≡ false → (a ≡ false) × (b ≡ false)
neither true b h = absurd (cc)
neither false b h = (refl, h)

-- below what is no directory with an entry nothing stands
pub below_full : (v : Value) (f : List ℕ) (rest : List (List ℕ)) → kind_of (at v (f ∷ rest)) ≢ Absent
    → (kind_of v ≡ Dir) × (has_entry v ≡ true)
below_full value.Absent f rest h = absurd (h (ap kind_of (at_absent rest)))
below_full value.Reg f rest h = absurd (h (ap kind_of (at_absent rest)))
below_full (value.Link b) f rest h = absurd (h (ap kind_of (at_absent rest)))
below_full (value.Special k) f rest h = absurd (h (ap kind_of (at_absent rest)))
below_full (value.Dir []) f rest h = absurd (h (ap kind_of (at_absent rest)))
below_full (value.Dir (e ∷ es)) f rest h = (refl, refl)

-- a directory with the entries of a value
keeps_below : (v : Value) (f : List ℕ) (rest : List (List ℕ)) → at (value.Dir (entries_of v)) (f ∷ rest) ≡ at v (f ∷ rest)
keeps_below value.Absent f rest = refl
keeps_below value.Reg f rest = refl
keeps_below (value.Link b) f rest = refl
keeps_below (value.Special k) f rest = refl
keeps_below (value.Dir es) f rest = refl

-- ---- what each effect may see, by what the act may do

-- it takes what stands at its path away with all below; it takes an empty directory away; it replaces a link, or puts it
-- again; it puts a link in a directory; it replaces one there
pub record Flags : Type 0 where
  pub deep : Bool
  pub dirs : Bool
  pub changes : Bool
  pub again : Bool
  pub into : Bool
  pub inner : Bool

abbrev none : Flags
none = record { deep = false; dirs = false; changes = false; again = false; into = false; inner = false }

abbrev test : Flags → Effect → Sight → Bool
test fl Nothing s = true
test fl MakesDir s = not (has (of Dir) s.kind) && not (has (of Link) s.kind)
test fl KeepsDir s = not (has (of Link) s.kind)
test fl MakesFile s = not (has (of Dir) s.kind) && (fl.changes || not (has (of Link) s.kind))
test fl MakesLink s = not (has (of Dir) s.kind) && (fl.again || not (has (of Link) s.kind))
test fl LinksInside s = fl.into && (not (has (of Dir) s.inner) && (fl.inner || not (has (of Link) s.inner)))
test fl TakesAway s =
    (fl.deep || (not (has (of Dir) s.kind) || (fl.dirs && not s.filled))) && (fl.changes || not (has (of Link) s.kind))
test fl Moves s = false
test fl MovesInside s = false
test fl Copies s = false
test fl CopiesInside s = false

abbrev fits : Flags → List Rule → Sight → Bool
fits fl rs s = not (possible s) || test fl (first_row rs Absent s).effect s

-- ---- an act that moves nothing

module _ (act : Act) (tree : Value) (fl : Flags) (sounds : IsTrue (sound tree)) (ne : place_of act ≢ [])
    (place : place_of act ≡ (path_of act).names) (nothing : source_of act tree ≡ Absent)
    (rows : all_sights (fits fl (rules (is_below act) act)) ≡ true)
    (inner_here : fl.into ≡ true → (sight_on act tree).inner ≡ kind_of (at tree (with_name (path_of act).names (inner_name act)))) where
  abbrev s : Sight
  s = sight_on act tree

  abbrev p : List (List ℕ)
  p = (path_of act).names

  abbrev v : Value
  v = at tree (path_of act).names

  kind_here : s.kind ≡ kind_of v
  kind_here = ap (λ n. kind_of (at tree n)) place

  filled_here : s.filled ≡ has_entry v
  filled_here = ap (λ n. has_entry (at tree n)) place

  own_test : test fl (own_row act tree).effect s ≡ true
  own_test =
      let seen =
      given_possible (possible s) (test fl (first_row (rules (is_below act) act) Absent s).effect s)
      (seen_possible tree (inner_of act tree) (place_of act) ne)
      (each_sight (fits fl (rules (is_below act) act)) rows s) in
      subst (λ k. test fl (first_row (rules (is_below act) act) k s).effect s ≡ true) (sym nothing) seen

  module _ (q : List (List ℕ)) (some : kind_of (at tree q) ≢ Absent) where
    -- what stands at a path below which q stands
    full : (n : List (List ℕ)) (f : List ℕ) (rest : List (List ℕ)) → q ≡ n ++ f ∷ rest
        → (kind_of (at tree n) ≡ Dir) × (has_entry (at tree n) ≡ true)
    full n f rest e =
        below_full (at tree n) f rest (λ a. some (ap kind_of (ap (at tree) e ∙ at-append tree n (f ∷ rest)) ∙ a))

    no_under : (f : List ℕ) (rest : List (List ℕ)) → not (has (of Dir) s.kind) ≡ true → q ≢ p ++ f ∷ rest
    no_under f rest h e = not_dir s.kind h (kind_here ∙ (full p f rest e).0)

    no_inside : (f : List ℕ) (rest : List (List ℕ)) → fl.into ≡ true → not (has (of Dir) s.inner) ≡ true
        → q ≢ with_name p (inner_name act) ++ f ∷ rest
    no_inside f rest i h e = not_dir s.inner h (inner_here i ∙ (full (with_name p (inner_name act)) f rest e).0)

    -- what is taken away has nothing below it, or all goes
    taken_under : (f : List ℕ) (rest : List (List ℕ))
        → (fl.deep || (not (has (of Dir) s.kind) || (fl.dirs && not s.filled))) ≡ true → q ≡ p ++ f ∷ rest
        → fl.deep ≡ true
    taken_under f rest h e =
        or_flag fl.deep (not (has (of Dir) s.kind) || (fl.dirs && not s.filled)) h
        (λ k. not_filled s.filled
        (and_parts fl.dirs (not s.filled)
        (or_right (not (has (of Dir) s.kind)) (fl.dirs && not s.filled) k (λ d. no_under f rest d e))).1
        (filled_here ∙ (full p f rest e).1))
      where
        or_right : (a b : Bool) → (a || b) ≡ true → (a ≡ true → ⊥) → b ≡ true
        or_right true b h w = absurd (w refl)
        or_right false b h w = h

    -- ---- a link
    module _ (b : List ℕ) (is : at tree q ≡ value.Link b) (changed : fl.changes ≡ true → p ≢ q)
        (again : fl.again ≡ true → p ≡ q → target_of act ≡ b)
        (inner : fl.inner ≡ true → with_name p (inner_name act) ≢ q)
        (deep : fl.deep ≡ true → (f : List ℕ) (rest : List (List ℕ)) → q ≢ p ++ f ∷ rest) where
      here_link : p ≡ q → s.kind ≡ Link
      here_link e = kind_here ∙ ap kind_of (ap (at tree) e ∙ is)

      not_here : not (has (of Link) s.kind) ≡ true → p ≢ q
      not_here h e = not_link s.kind h (here_link e)

      link_by : (e : Effect) → test fl e s ≡ true → IsInDirectory e act tree → at (effect_on e act tree) q ≡ value.Link b
      link_by Nothing t d = is
      link_by MakesDir t d =
          let both = and_parts (not (has (of Dir) s.kind)) (not (has (of Link) s.kind)) t in
          link_kept tree (value.Dir []) p q sounds d b is (λ e. absurd (not_here both.1 e))
          (λ f rest e. absurd (no_under f rest both.0 e))
      link_by KeepsDir t d =
          link_kept tree (value.Dir (entries_of v)) p q sounds d b is (λ e. absurd (not_here t e))
          (λ f rest e. keeps_below v f rest ∙ (sym (at-append tree p (f ∷ rest)) ∙ (ap (at tree) (sym e) ∙ is)))
      link_by MakesFile t d =
          let both = and_parts (not (has (of Dir) s.kind)) (fl.changes || not (has (of Link) s.kind)) t in
          link_kept tree value.Reg p q sounds d b is
          (λ e. absurd (changed (or_flag fl.changes (not (has (of Link) s.kind)) both.1 (λ n. not_here n e)) e))
          (λ f rest e. absurd (no_under f rest both.0 e))
      link_by MakesLink t d =
          let both = and_parts (not (has (of Dir) s.kind)) (fl.again || not (has (of Link) s.kind)) t in
          link_kept tree (value.Link (target_of act)) p q sounds d b is
          (λ e. ap (λ x. value.Link x) (again (or_flag fl.again (not (has (of Link) s.kind)) both.1 (λ n. not_here n e)) e))
          (λ f rest e. absurd (no_under f rest both.0 e))
      link_by LinksInside t d =
          let outer = and_parts fl.into (not (has (of Dir) s.inner) && (fl.inner || not (has (of Link) s.inner))) t in
          let both = and_parts (not (has (of Dir) s.inner)) (fl.inner || not (has (of Link) s.inner)) outer.1 in
          link_kept tree (value.Link (target_of act)) (with_name p (inner_name act)) q sounds d b is
          (λ e. absurd (inner
          (or_flag fl.inner (not (has (of Link) s.inner)) both.1 (λ n. not_link s.inner n (inner_here outer.0 ∙ ap kind_of (ap (at tree) e ∙ is)))) e))
          (λ f rest e. absurd (no_inside f rest outer.0 both.0 e))
      link_by TakesAway t d =
          let both =
          and_parts (fl.deep || (not (has (of Dir) s.kind) || (fl.dirs && not s.filled))) (fl.changes || not (has (of Link) s.kind)) t in
          link_kept tree value.Absent p q sounds d b is
          (λ e. absurd (changed (or_flag fl.changes (not (has (of Link) s.kind)) both.1 (λ n. not_here n e)) e))
          (λ f rest e. absurd (deep (taken_under f rest both.0 e) f rest e))
      link_by Moves t d = absurd (cc)
      link_by MovesInside t d = absurd (cc)
      link_by Copies t d = absurd (cc)
      link_by CopiesInside t d = absurd (cc)

    -- ---- a directory
    module _ (is : kind_of (at tree q) ≡ Dir) (empty : fl.dirs ≡ true → p ≢ q) (whole : fl.deep ≡ true → p ≢ q)
        (deep : fl.deep ≡ true → (f : List ℕ) (rest : List (List ℕ)) → q ≢ p ++ f ∷ rest) where
      here_dir : p ≡ q → s.kind ≡ Dir
      here_dir e = kind_here ∙ (ap kind_of (ap (at tree) e) ∙ is)

      dir_by : (e : Effect) → test fl e s ≡ true → IsInDirectory e act tree → kind_of (at (effect_on e act tree) q) ≡ Dir
      dir_by Nothing t d = is
      dir_by MakesDir t d =
          let both = and_parts (not (has (of Dir) s.kind)) (not (has (of Link) s.kind)) t in
          dir_kept tree (value.Dir []) p q sounds d is (λ e. absurd (not_dir s.kind both.0 (here_dir e)))
          (λ f rest e. absurd (no_under f rest both.0 e))
      dir_by KeepsDir t d =
          dir_kept tree (value.Dir (entries_of v)) p q sounds d is (λ e. refl)
          (λ f rest e. ap kind_of (keeps_below v f rest ∙ (sym (at-append tree p (f ∷ rest)) ∙ ap (at tree) (sym e))) ∙ is)
      dir_by MakesFile t d =
          let both = and_parts (not (has (of Dir) s.kind)) (fl.changes || not (has (of Link) s.kind)) t in
          dir_kept tree value.Reg p q sounds d is (λ e. absurd (not_dir s.kind both.0 (here_dir e)))
          (λ f rest e. absurd (no_under f rest both.0 e))
      dir_by MakesLink t d =
          let both = and_parts (not (has (of Dir) s.kind)) (fl.again || not (has (of Link) s.kind)) t in
          dir_kept tree (value.Link (target_of act)) p q sounds d is (λ e. absurd (not_dir s.kind both.0 (here_dir e)))
          (λ f rest e. absurd (no_under f rest both.0 e))
      dir_by LinksInside t d =
          let outer = and_parts fl.into (not (has (of Dir) s.inner) && (fl.inner || not (has (of Link) s.inner))) t in
          let both = and_parts (not (has (of Dir) s.inner)) (fl.inner || not (has (of Link) s.inner)) outer.1 in
          dir_kept tree (value.Link (target_of act)) (with_name p (inner_name act)) q sounds d is
          (λ e. absurd (not_dir s.inner both.0 (inner_here outer.0 ∙ (ap kind_of (ap (at tree) e) ∙ is))))
          (λ f rest e. absurd (no_inside f rest outer.0 both.0 e))
      dir_by TakesAway t d =
          let two =
          and_parts (fl.deep || (not (has (of Dir) s.kind) || (fl.dirs && not s.filled))) (fl.changes || not (has (of Link) s.kind)) t in
          dir_kept tree value.Absent p q sounds d is
          (λ e. absurd (whole
          (or_flag fl.deep (not (has (of Dir) s.kind) || (fl.dirs && not s.filled)) two.0
          (λ k. empty (by_dirs k (here_dir e)) e)) e))
          (λ f rest e. absurd (deep (taken_under f rest two.0 e) f rest e))
        where
          by_dirs : (not (has (of Dir) s.kind) || (fl.dirs && not s.filled)) ≡ true → s.kind ≡ Dir → fl.dirs ≡ true
          by_dirs k d = (and_parts fl.dirs (not s.filled) (right (not (has (of Dir) s.kind)) (fl.dirs && not s.filled) k (λ n. not_dir s.kind n d))).0
            where
              right : (a b : Bool) → (a || b) ≡ true → (a ≡ true → ⊥) → b ≡ true
              right true b h w = absurd (w refl)
              right false b h w = h
      dir_by Moves t d = absurd (cc)
      dir_by MovesInside t d = absurd (cc)
      dir_by Copies t d = absurd (cc)
      dir_by CopiesInside t d = absurd (cc)

-- ---- the row of an act

module _ (P : Effect → Type 0) (nothing : P Nothing) where
  by_way_has : (o : Option ℕ) (r : Row) → P r.effect → P (by_way o r).effect
  by_way_has None r h = h
  by_way_has (Some n) r h = nothing

  by_slash_has : (s : Bool) (k : Kind) (r : Row) → P r.effect → P (by_slash s k r).effect
  by_slash_has false k r h = h
  by_slash_has true Absent r h = h
  by_slash_has true Reg r h = nothing
  by_slash_has true Link r h = nothing
  by_slash_has true (Special s) r h = nothing
  by_slash_has true Dir r h = h

  row_has : (act : Act) (tree : Value) → P (own_row act tree).effect → P (row act tree).effect
  row_has act tree h =
      by_way_has (link_on_way 0 tree (path_of act).names) _
      (by_slash_has (path_of act).slash (kind_of (at tree (path_of act).names)) _
      (by_way_has (second_link act tree) (own_row act tree) h))

row_test : (act : Act) (tree : Value) (fl : Flags) → test fl (own_row act tree).effect (sight_on act tree) ≡ true
    → test fl (row act tree).effect (sight_on act tree) ≡ true
row_test act tree fl h = row_has (λ e. test fl e (sight_on act tree) ≡ true) refl act tree h

-- ---- what each act may do

abbrev removing : Bool → Flags
removing deep = record { deep = deep; dirs = false; changes = true; again = false; into = false; inner = false }

abbrev emptying : Flags
emptying = record { deep = false; dirs = true; changes = false; again = false; into = false; inner = false }

abbrev replacing : Flags
replacing = record { deep = false; dirs = false; changes = true; again = false; into = false; inner = false }

abbrev linking : Flags
linking = record { deep = false; dirs = false; changes = false; again = true; into = false; inner = false }

abbrev linking_inside : Bool → Flags
linking_inside force = record { deep = false; dirs = false; changes = false; again = false; into = true; inner = force }

removes_fit : (force deep : Bool) → all_sights (fits (removing deep) (remove_by force deep)) ≡ true
removes_fit false false = refl
removes_fit false true = refl
removes_fit true false = refl
removes_fit true true = refl

links_fit : (force : Bool) → all_sights (fits (linking_inside force) (symlink_by force)) ≡ true
links_fit false = refl
links_fit true = refl

and_false : (a b : Bool) → (a && b) ≡ false → a ≡ true → b ≡ false
and_false true b h e = h
and_false false b h e = absurd (cc)

inner_seen : (p : PathParts) (target last : List ℕ) (force : Bool) (tree : Value)
    → (sight_on (Symlink p target last force) tree).inner ≡ kind_of (at tree (p.names ++ last ∷ []))
inner_seen p target last force tree = ap kind_of (sym (at-append tree p.names (last ∷ [])))

same_target : (p q : List (List ℕ)) (a b : List ℕ) → (same_names p q && not (bytes_eq a b)) ≡ false → p ≡ q → a ≡ b
same_target p q a b h e =
    (bytes_eq-Decides a b).0
    (not_false (bytes_eq a b) (and_false (same_names p q) (not (bytes_eq a b)) h (ap (same_names p) (sym e) ∙ same_self p)))
  where
    not_false : (x : Bool) → not x ≡ false → x ≡ true
    not_false true h = refl
    not_false false h = cc

-- ---- a move

abbrev move_test : Effect → Kind → Sight → Bool
move_test Nothing k s = true
move_test MakesDir k s = false
move_test KeepsDir k s = false
move_test MakesFile k s = false
move_test MakesLink k s = false
move_test LinksInside k s = false
move_test TakesAway k s = false
move_test Copies k s = false
move_test CopiesInside k s = false
move_test Moves k s = not (has (of Dir) s.kind) && not (has (of Link) s.kind)
move_test MovesInside k s =
    not (has (of Link) s.inner) && (not (has (of Dir) s.inner) || (has (of Dir) k && not s.inner_filled))

abbrev move_fits : Bool → Kind → Sight → Bool
move_fits below k s = not (possible s) || move_test (first_row (move_by below) k s).effect k s

moves_fit : (below : Bool) (k : Kind) → all_sights (move_fits below k) ≡ true
moves_fit true Absent = refl
moves_fit true Reg = refl
moves_fit true Link = refl
moves_fit true (Special Fifo) = refl
moves_fit true (Special Socket) = refl
moves_fit true (Special Block) = refl
moves_fit true (Special Char) = refl
moves_fit true Dir = refl
moves_fit false Absent = refl
moves_fit false Reg = refl
moves_fit false Link = refl
moves_fit false (Special Fifo) = refl
moves_fit false (Special Socket) = refl
moves_fit false (Special Block) = refl
moves_fit false (Special Char) = refl
moves_fit false Dir = refl

last_some : (names : List (List ℕ)) → names ≢ [] → last_name names ≢ None
last_some [] ne e = ne refl
last_some (f ∷ names) ne e =
    let some : slice_get (f ∷ names) (length names) ≡ Some (get_or (f ∷ names) (length names) f) =
    slice_get-get_or (f ∷ names) (length names) f (omega arith) in
    let n : length (f ∷ names) - 1 ≡ length names = omega arith in
    absurd (let x : None ≡ Some (get_or (f ∷ names) (length names) f) = sym e ∙ (ap (slice_get (f ∷ names)) n ∙ some) in cc)

inner_value : (tree : Value) (b : List (List ℕ)) (o : Option (List ℕ)) → o ≢ None
    → inner_at (at tree b) o ≡ at tree (with_name b o)
inner_value tree b None some = absurd (some refl)
inner_value tree b (Some f) some = sym (at-append tree b (f ∷ []))

dir_seen : (k : Kind) → has (of Dir) k ≡ true → k ≡ Dir
dir_seen Absent h = cc
dir_seen Reg h = cc
dir_seen Link h = cc
dir_seen (Special Fifo) h = cc
dir_seen (Special Socket) h = cc
dir_seen (Special Block) h = cc
dir_seen (Special Char) h = cc
dir_seen Dir h = refl

module _ (a b : PathParts) (tree : Value) (performed : IsPerformed (Move a b)) (names : HasNames (Move a b))
    (puts : PutsStaySound) (sounds : IsTrue (sound tree)) where
  abbrev act : Act
  act = Move a b

  abbrev seen : Sight
  seen = sight_on act tree

  abbrev from : Kind
  from = source_of act tree

  abbrev without : Value
  without = put tree a.names value.Absent

  abbrev moved : Value
  moved = at tree a.names

  abbrev inside : List (List ℕ)
  inside = with_name b.names (inner_name act)

  has_inner : inner_name act ≢ None
  has_inner = last_some a.names (performed.0 refl).0

  inner_here : inner_of act tree ≡ at tree inside
  inner_here = inner_value tree b.names (inner_name act) has_inner

  move_row : move_test (row act tree).effect from seen ≡ true
  move_row =
      row_has (λ e. move_test e from seen ≡ true) refl act tree
      (given_possible (possible seen) (move_test (own_row act tree).effect from seen)
      (seen_possible tree (inner_of act tree) b.names (performed.0 refl).1)
      (each_sight (move_fits (is_prefix a.names b.names) from) (moves_fit (is_prefix a.names b.names) from) seen))

  without_sound : IsTrue (sound without)
  without_sound = puts tree value.Absent a.names sounds refl names.path

  module _ (q : List (List ℕ)) (apart : begin_at a.names q ≡ false) where
    beside : (same_names a.names q ≡ false) × (is_prefix a.names q ≡ false)
    beside = neither (same_names a.names q) (is_prefix a.names q) apart

    above_full : kind_of (at tree q) ≢ Absent → (n : List (List ℕ)) (f : List ℕ) (rest : List (List ℕ))
        → q ≡ n ++ f ∷ rest → (kind_of (at tree n) ≡ Dir) × (has_entry (at tree n) ≡ true)
    above_full some n f rest e =
        below_full (at tree n) f rest (λ x. some (ap kind_of (ap (at tree) e ∙ at-append tree n (f ∷ rest)) ∙ x))

    no_more : (f : List ℕ) (rest : List (List ℕ)) → kind_of (at tree q) ≢ Absent
        → move_test MovesInside from seen ≡ true → q ≢ inside ++ f ∷ rest
    no_more f rest some t e =
        let full = above_full some inside f rest e in
        let two = and_parts (not (has (of Link) seen.inner)) (not (has (of Dir) seen.inner) || (has (of Dir) from && not seen.inner_filled)) t in
        by (not (has (of Dir) seen.inner)) refl two.1 (ap kind_of inner_here ∙ full.0) (ap has_entry inner_here ∙ full.1)
      where
        by : (x : Bool) → not (has (of Dir) seen.inner) ≡ x
            → (x || (has (of Dir) from && not seen.inner_filled)) ≡ true → seen.inner ≡ Dir
            → seen.inner_filled ≡ true → ⊥
        by true n h d filled = not_dir seen.inner n d
        by false n h d filled =
            not_filled seen.inner_filled (and_parts (has (of Dir) from) (not seen.inner_filled) h).1 filled

    module _ (l : List ℕ) (is : at tree q ≡ value.Link l) where
      some : kind_of (at tree q) ≢ Absent
      some e = let x : Link ≡ Absent = sym (ap kind_of is) ∙ e in cc

      link_by_move : (e : Effect) → move_test e from seen ≡ true → IsInDirectory e act tree
          → at (effect_on e act tree) q ≡ value.Link l
      link_by_move Nothing t d = is
      link_by_move MakesDir t d = absurd (cc)
      link_by_move KeepsDir t d = absurd (cc)
      link_by_move MakesFile t d = absurd (cc)
      link_by_move MakesLink t d = absurd (cc)
      link_by_move LinksInside t d = absurd (cc)
      link_by_move TakesAway t d = absurd (cc)
      link_by_move Copies t d = absurd (cc)
      link_by_move CopiesInside t d = absurd (cc)
      link_by_move Moves t d =
          let two = and_parts (not (has (of Dir) seen.kind)) (not (has (of Link) seen.kind)) t in
          let first : at without q ≡ value.Link l =
          link_kept tree value.Absent a.names q sounds d.0 l is (λ e. absurd (differ a.names q beside.0 e))
          (λ f rest e. absurd (not_under a.names q beside.1 f rest e)) in
          link_kept without moved b.names q without_sound d.1 l first
          (λ e. absurd (not_link seen.kind two.1 (ap kind_of (ap (at tree) e ∙ is))))
          (λ f rest e. absurd (not_dir seen.kind two.0 (above_full some b.names f rest e).0))
      link_by_move MovesInside t d =
          let two = and_parts (not (has (of Link) seen.inner)) (not (has (of Dir) seen.inner) || (has (of Dir) from && not seen.inner_filled)) t in
          let first : at without q ≡ value.Link l =
          link_kept tree value.Absent a.names q sounds d.0 l is (λ e. absurd (differ a.names q beside.0 e))
          (λ f rest e. absurd (not_under a.names q beside.1 f rest e)) in
          link_kept without moved inside q without_sound d.1 l first
          (λ e. absurd (not_link seen.inner two.0 (ap kind_of (inner_here ∙ (ap (at tree) e ∙ is)))))
          (λ f rest e. absurd (no_more f rest some t e))

    module _ (is : kind_of (at tree q) ≡ Dir) where
      there : kind_of (at tree q) ≢ Absent
      there e = let x : Dir ≡ Absent = sym is ∙ e in cc

      dir_by_move : (e : Effect) → move_test e from seen ≡ true → IsInDirectory e act tree
          → kind_of (at (effect_on e act tree) q) ≡ Dir
      dir_by_move Nothing t d = is
      dir_by_move MakesDir t d = absurd (cc)
      dir_by_move KeepsDir t d = absurd (cc)
      dir_by_move MakesFile t d = absurd (cc)
      dir_by_move MakesLink t d = absurd (cc)
      dir_by_move LinksInside t d = absurd (cc)
      dir_by_move TakesAway t d = absurd (cc)
      dir_by_move Copies t d = absurd (cc)
      dir_by_move CopiesInside t d = absurd (cc)
      dir_by_move Moves t d =
          let two = and_parts (not (has (of Dir) seen.kind)) (not (has (of Link) seen.kind)) t in
          let first : kind_of (at without q) ≡ Dir =
          dir_kept tree value.Absent a.names q sounds d.0 is (λ e. absurd (differ a.names q beside.0 e))
          (λ f rest e. absurd (not_under a.names q beside.1 f rest e)) in
          dir_kept without moved b.names q without_sound d.1 first
          (λ e. absurd (not_dir seen.kind two.0 (ap kind_of (ap (at tree) e) ∙ is)))
          (λ f rest e. absurd (not_dir seen.kind two.0 (above_full there b.names f rest e).0))
      dir_by_move MovesInside t d =
          let two = and_parts (not (has (of Link) seen.inner)) (not (has (of Dir) seen.inner) || (has (of Dir) from && not seen.inner_filled)) t in
          let first : kind_of (at without q) ≡ Dir =
          dir_kept tree value.Absent a.names q sounds d.0 is (λ e. absurd (differ a.names q beside.0 e))
          (λ f rest e. absurd (not_under a.names q beside.1 f rest e)) in
          dir_kept without moved inside q without_sound d.1 first
          (λ e. moved_dir (not (has (of Dir) seen.inner)) refl two.1 (ap kind_of (inner_here ∙ ap (at tree) e) ∙ is))
          (λ f rest e. absurd (no_more f rest there t e))
        where
          moved_dir : (x : Bool) → not (has (of Dir) seen.inner) ≡ x
              → (x || (has (of Dir) from && not seen.inner_filled)) ≡ true → seen.inner ≡ Dir → kind_of moved ≡ Dir
          moved_dir true n h d = absurd (not_dir seen.inner n d)
          moved_dir false n h d = dir_seen from (and_parts (has (of Dir) from) (not seen.inner_filled) h).0

-- ---- a copy

abbrev copy_test : Effect → Sight → Bool
copy_test Nothing s = true
copy_test MakesDir s = false
copy_test KeepsDir s = false
copy_test MakesFile s = false
copy_test MakesLink s = false
copy_test LinksInside s = false
copy_test TakesAway s = false
copy_test Moves s = false
copy_test MovesInside s = false
copy_test Copies s = not (has (of Dir) s.kind) && not (has (of Link) s.kind)
copy_test CopiesInside s = not (has (of Dir) s.inner) && not (has (of Link) s.inner)

abbrev copy_fits : Bool → Kind → Sight → Bool
copy_fits deep k s = not (possible s) || copy_test (first_row (copy_by deep) k s).effect s

copies_fit : (deep : Bool) (k : Kind) → all_sights (copy_fits deep k) ≡ true
copies_fit true Absent = refl
copies_fit true Reg = refl
copies_fit true Link = refl
copies_fit true (Special Fifo) = refl
copies_fit true (Special Socket) = refl
copies_fit true (Special Block) = refl
copies_fit true (Special Char) = refl
copies_fit true Dir = refl
copies_fit false Absent = refl
copies_fit false Reg = refl
copies_fit false Link = refl
copies_fit false (Special Fifo) = refl
copies_fit false (Special Socket) = refl
copies_fit false (Special Block) = refl
copies_fit false (Special Char) = refl
copies_fit false Dir = refl

module _ (a b : PathParts) (deep : Bool) (tree : Value) (performed : IsPerformed (Copy a b deep))
    (sounds : IsTrue (sound tree)) where
  abbrev copying : Act
  copying = Copy a b deep

  abbrev copy_seen : Sight
  copy_seen = sight_on copying tree

  abbrev copied : Value
  copied = at tree a.names

  abbrev copy_place : List (List ℕ)
  copy_place = with_name b.names (inner_name copying)

  copy_inner : inner_of copying tree ≡ at tree copy_place
  copy_inner = inner_value tree b.names (inner_name copying) (last_some a.names (performed.0 refl).0)

  copy_row : copy_test (row copying tree).effect copy_seen ≡ true
  copy_row =
      row_has (λ e. copy_test e copy_seen ≡ true) refl copying tree
      (given_possible (possible copy_seen) (copy_test (own_row copying tree).effect copy_seen)
      (seen_possible tree (inner_of copying tree) b.names (performed.0 refl).1)
      (each_sight (copy_fits deep (source_of copying tree)) (copies_fit deep (source_of copying tree)) copy_seen))

  module _ (q : List (List ℕ)) where
    -- a directory stands at each path below which q stands
    dir_above : kind_of (at tree q) ≢ Absent → (n : List (List ℕ)) (f : List ℕ) (rest : List (List ℕ))
        → q ≡ n ++ f ∷ rest → kind_of (at tree n) ≡ Dir
    dir_above stands n f rest e =
        (below_full (at tree n) f rest (λ x. stands (ap kind_of (ap (at tree) e ∙ at-append tree n (f ∷ rest)) ∙ x))).0

    module _ (l : List ℕ) (is : at tree q ≡ value.Link l) where
      link_there : kind_of (at tree q) ≢ Absent
      link_there e = let x : Link ≡ Absent = sym (ap kind_of is) ∙ e in cc

      link_by_copy : (e : Effect) → copy_test e copy_seen ≡ true → IsInDirectory e copying tree
          → at (effect_on e copying tree) q ≡ value.Link l
      link_by_copy Nothing t d = is
      link_by_copy MakesDir t d = absurd (cc)
      link_by_copy KeepsDir t d = absurd (cc)
      link_by_copy MakesFile t d = absurd (cc)
      link_by_copy MakesLink t d = absurd (cc)
      link_by_copy LinksInside t d = absurd (cc)
      link_by_copy TakesAway t d = absurd (cc)
      link_by_copy Moves t d = absurd (cc)
      link_by_copy MovesInside t d = absurd (cc)
      link_by_copy Copies t d =
          let two = and_parts (not (has (of Dir) copy_seen.kind)) (not (has (of Link) copy_seen.kind)) t in
          link_kept tree copied b.names q sounds d l is
          (λ e. absurd (not_link copy_seen.kind two.1 (ap kind_of (ap (at tree) e ∙ is))))
          (λ f rest e. absurd (not_dir copy_seen.kind two.0 (dir_above link_there b.names f rest e)))
      link_by_copy CopiesInside t d =
          let two = and_parts (not (has (of Dir) copy_seen.inner)) (not (has (of Link) copy_seen.inner)) t in
          link_kept tree copied copy_place q sounds d l is
          (λ e. absurd (not_link copy_seen.inner two.1 (ap kind_of (copy_inner ∙ (ap (at tree) e ∙ is)))))
          (λ f rest e. absurd (not_dir copy_seen.inner two.0 (ap kind_of copy_inner ∙ dir_above link_there copy_place f rest e)))

    module _ (is : kind_of (at tree q) ≡ Dir) where
      dir_there : kind_of (at tree q) ≢ Absent
      dir_there e = let x : Dir ≡ Absent = sym is ∙ e in cc

      dir_by_copy : (e : Effect) → copy_test e copy_seen ≡ true → IsInDirectory e copying tree
          → kind_of (at (effect_on e copying tree) q) ≡ Dir
      dir_by_copy Nothing t d = is
      dir_by_copy MakesDir t d = absurd (cc)
      dir_by_copy KeepsDir t d = absurd (cc)
      dir_by_copy MakesFile t d = absurd (cc)
      dir_by_copy MakesLink t d = absurd (cc)
      dir_by_copy LinksInside t d = absurd (cc)
      dir_by_copy TakesAway t d = absurd (cc)
      dir_by_copy Moves t d = absurd (cc)
      dir_by_copy MovesInside t d = absurd (cc)
      dir_by_copy Copies t d =
          let two = and_parts (not (has (of Dir) copy_seen.kind)) (not (has (of Link) copy_seen.kind)) t in
          dir_kept tree copied b.names q sounds d is
          (λ e. absurd (not_dir copy_seen.kind two.0 (ap kind_of (ap (at tree) e) ∙ is)))
          (λ f rest e. absurd (not_dir copy_seen.kind two.0 (dir_above dir_there b.names f rest e)))
      dir_by_copy CopiesInside t d =
          let two = and_parts (not (has (of Dir) copy_seen.inner)) (not (has (of Link) copy_seen.inner)) t in
          dir_kept tree copied copy_place q sounds d is
          (λ e. absurd (not_dir copy_seen.inner two.0 (ap kind_of (copy_inner ∙ ap (at tree) e) ∙ is)))
          (λ f rest e. absurd (not_dir copy_seen.inner two.0 (ap kind_of copy_inner ∙ dir_above dir_there copy_place f rest e)))

-- ---- all acts

module _ (tree : Value) (puts : PutsStaySound) (sounds : IsTrue (sound tree)) where
  asked : (act : Act) → is_question act ≡ true → tree_after act tree ≡ tree
  asked act h = ap (λ e. effect_on e act tree) (question_row act tree h)

  module _ (link : LinkParts) (is : at tree link.at.names ≡ value.Link link.target) where
    abbrev q : List (List ℕ)
    q = link.at.names

    standing : kind_of (at tree link.at.names) ≢ Absent
    standing e = let x : Link ≡ Absent = sym (ap kind_of is) ∙ e in cc

    still : (act : Act) (fl : Flags) → IsPerformed act → (ne : place_of act ≢ [])
        → (place : place_of act ≡ (path_of act).names) → (nothing : source_of act tree ≡ Absent)
        → (rows : all_sights (fits fl (rules (is_below act) act)) ≡ true)
        → (inner_here : fl.into ≡ true → (sight_on act tree).inner ≡ kind_of (at tree (with_name (path_of act).names (inner_name act))))
        → (fl.changes ≡ true → (path_of act).names ≢ link.at.names)
        → (fl.again ≡ true → (path_of act).names ≡ link.at.names → target_of act ≡ link.target)
        → (fl.inner ≡ true → with_name (path_of act).names (inner_name act) ≢ link.at.names)
        → (fl.deep ≡ true → (f : List ℕ) (rest : List (List ℕ)) → link.at.names ≢ (path_of act).names ++ f ∷ rest)
        → at (tree_after act tree) link.at.names ≡ value.Link link.target
    still act fl h ne place nothing rows inner_here changed again inner deep =
        link_by act tree fl sounds ne place nothing rows inner_here link.at.names standing link.target is changed again inner deep
        (row act tree).effect (row_test act tree fl (own_test act tree fl sounds ne place nothing rows inner_here))
        (in_directory act tree h sounds)

    pub link_stays : (act : Act) → IsPerformed act → HasNames act → changes_link act link ≡ false
        → at (tree_after act tree) link.at.names ≡ value.Link link.target
    link_stays (Exists p) h n c = ap (λ t. at t link.at.names) (asked (Exists p) refl) ∙ is
    link_stays (IsReg p) h n c = ap (λ t. at t link.at.names) (asked (IsReg p) refl) ∙ is
    link_stays (IsDir p) h n c = ap (λ t. at t link.at.names) (asked (IsDir p) refl) ∙ is
    link_stays (IsLink p) h n c = ap (λ t. at t link.at.names) (asked (IsLink p) refl) ∙ is
    link_stays (CanRun p runs) h n c = ap (λ t. at t link.at.names) (asked (CanRun p runs) refl) ∙ is
    link_stays (IsSpecial p kind) h n c = ap (λ t. at t link.at.names) (asked (IsSpecial p kind) refl) ∙ is
    link_stays (MakeDir p) h n c =
        still (MakeDir p) none h (h.0 refl).1 refl refl refl (λ e. absurd (cc)) (λ e. absurd (cc)) (λ e. absurd (cc)) (λ e. absurd (cc)) (λ e. absurd (cc))
    link_stays (EnsureDir p) h n c =
        still (EnsureDir p) none h (h.0 refl).1 refl refl refl (λ e. absurd (cc)) (λ e. absurd (cc)) (λ e. absurd (cc)) (λ e. absurd (cc)) (λ e. absurd (cc))
    link_stays (RemoveDir p) h n c =
        still (RemoveDir p) emptying h (h.0 refl).1 refl refl refl (λ e. absurd (cc)) (λ e. absurd (cc)) (λ e. absurd (cc)) (λ e. absurd (cc)) (λ e. absurd (cc))
    link_stays (Remove p force deep) h n c =
        let two = neither (same_names p.names link.at.names) (deep && is_prefix p.names link.at.names) c in
        still (Remove p force deep) (removing deep) h (h.0 refl).1 refl refl (removes_fit force deep) (λ e. absurd (cc))
        (λ e. differ p.names link.at.names two.0) (λ e. absurd (cc)) (λ e. absurd (cc))
        (λ e. not_under p.names link.at.names (and_false deep (is_prefix p.names link.at.names) two.1 e))
    link_stays (Touch p) h n c =
        still (Touch p) none h (h.0 refl).1 refl refl refl (λ e. absurd (cc)) (λ e. absurd (cc)) (λ e. absurd (cc)) (λ e. absurd (cc)) (λ e. absurd (cc))
    link_stays (Symlink p target last force) h n c =
        still (Symlink p target last force) (linking_inside force) h (h.0 refl).1 refl refl (links_fit force)
        (λ e. inner_seen p target last force tree) (λ e. absurd (cc)) (λ e. absurd (cc))
        (λ e same. differ link.at.names (p.names ++ last ∷ [])
        (and_false force (same_names link.at.names (p.names ++ last ∷ [])) c e) (sym same))
        (λ e. absurd (cc))
    link_stays (Attr p) h n c = ap (λ t. at t link.at.names) (asked (Attr p) refl) ∙ is
    link_stays (Copy a b deep) h n c =
        link_by_copy a b deep tree h sounds link.at.names link.target is (row (Copy a b deep) tree).effect
        (copy_row a b deep tree h sounds) (in_directory (Copy a b deep) tree h sounds)
    link_stays (Move a b) h n c =
        link_by_move a b tree h n puts sounds link.at.names c link.target is (row (Move a b) tree).effect
        (move_row a b tree h n puts sounds) (in_directory (Move a b) tree h sounds)
    link_stays (PlaceFile p) h n c =
        still (PlaceFile p) replacing h (h.0 refl).1 refl refl refl (λ e. absurd (cc))
        (λ e. differ p.names link.at.names c) (λ e. absurd (cc)) (λ e. absurd (cc)) (λ e. absurd (cc))
    link_stays (PlaceLink p target) h n c =
        still (PlaceLink p target) linking h (h.0 refl).1 refl refl refl (λ e. absurd (cc)) (λ e. absurd (cc))
        (λ e same. same_target p.names link.at.names target link.target c same) (λ e. absurd (cc)) (λ e. absurd (cc))
    link_stays (PlaceConf p) h n c =
        still (PlaceConf p) none h (h.0 refl).1 refl refl refl (λ e. absurd (cc)) (λ e. absurd (cc)) (λ e. absurd (cc)) (λ e. absurd (cc)) (λ e. absurd (cc))
    link_stays (Discard p) h n c =
        still (Discard p) replacing h (h.0 refl).1 refl refl refl (λ e. absurd (cc))
        (λ e. differ p.names link.at.names c) (λ e. absurd (cc)) (λ e. absurd (cc)) (λ e. absurd (cc))
    link_stays (DiscardDir p) h n c =
        still (DiscardDir p) emptying h (h.0 refl).1 refl refl refl (λ e. absurd (cc)) (λ e. absurd (cc)) (λ e. absurd (cc)) (λ e. absurd (cc)) (λ e. absurd (cc))

  module _ (q : List (List ℕ)) (is : kind_of (at tree q) ≡ Dir) where
    here : kind_of (at tree q) ≢ Absent
    here e = let x : Dir ≡ Absent = sym is ∙ e in cc

    still_dir : (act : Act) (fl : Flags) → IsPerformed act → (ne : place_of act ≢ [])
        → (place : place_of act ≡ (path_of act).names) → (nothing : source_of act tree ≡ Absent)
        → (rows : all_sights (fits fl (rules (is_below act) act)) ≡ true)
        → (inner_here : fl.into ≡ true → (sight_on act tree).inner ≡ kind_of (at tree (with_name (path_of act).names (inner_name act))))
        → (fl.dirs ≡ true → (path_of act).names ≢ q) → (fl.deep ≡ true → (path_of act).names ≢ q)
        → (fl.deep ≡ true → (f : List ℕ) (rest : List (List ℕ)) → q ≢ (path_of act).names ++ f ∷ rest)
        → kind_of (at (tree_after act tree) q) ≡ Dir
    still_dir act fl h ne place nothing rows inner_here empty whole deep =
        dir_by act tree fl sounds ne place nothing rows inner_here q here is empty whole deep
        (row act tree).effect (row_test act tree fl (own_test act tree fl sounds ne place nothing rows inner_here))
        (in_directory act tree h sounds)

    pub dir_stays : (act : Act) → IsPerformed act → HasNames act → takes_away act q ≡ false
        → kind_of (at (tree_after act tree) q) ≡ Dir
    dir_stays (Exists p) h n c = ap (λ t. kind_of (at t q)) (asked (Exists p) refl) ∙ is
    dir_stays (IsReg p) h n c = ap (λ t. kind_of (at t q)) (asked (IsReg p) refl) ∙ is
    dir_stays (IsDir p) h n c = ap (λ t. kind_of (at t q)) (asked (IsDir p) refl) ∙ is
    dir_stays (IsLink p) h n c = ap (λ t. kind_of (at t q)) (asked (IsLink p) refl) ∙ is
    dir_stays (CanRun p runs) h n c = ap (λ t. kind_of (at t q)) (asked (CanRun p runs) refl) ∙ is
    dir_stays (IsSpecial p kind) h n c = ap (λ t. kind_of (at t q)) (asked (IsSpecial p kind) refl) ∙ is
    dir_stays (MakeDir p) h n c =
        still_dir (MakeDir p) none h (h.0 refl).1 refl refl refl (λ e. absurd (cc)) (λ e. absurd (cc)) (λ e. absurd (cc)) (λ e. absurd (cc))
    dir_stays (EnsureDir p) h n c =
        still_dir (EnsureDir p) none h (h.0 refl).1 refl refl refl (λ e. absurd (cc)) (λ e. absurd (cc)) (λ e. absurd (cc)) (λ e. absurd (cc))
    dir_stays (RemoveDir p) h n c =
        still_dir (RemoveDir p) emptying h (h.0 refl).1 refl refl refl (λ e. absurd (cc)) (λ e. differ p.names q c) (λ e. absurd (cc)) (λ e. absurd (cc))
    dir_stays (Remove p force deep) h n c =
        still_dir (Remove p force deep) (removing deep) h (h.0 refl).1 refl refl (removes_fit force deep) (λ e. absurd (cc)) (λ e. absurd (cc))
        (λ e. differ p.names q (neither (same_names p.names q) (is_prefix p.names q) (and_false deep (begin_at p.names q) c e)).0)
        (λ e. not_under p.names q (neither (same_names p.names q) (is_prefix p.names q) (and_false deep (begin_at p.names q) c e)).1)
    dir_stays (Touch p) h n c =
        still_dir (Touch p) none h (h.0 refl).1 refl refl refl (λ e. absurd (cc)) (λ e. absurd (cc)) (λ e. absurd (cc)) (λ e. absurd (cc))
    dir_stays (Symlink p target last force) h n c =
        still_dir (Symlink p target last force) (linking_inside force) h (h.0 refl).1 refl refl (links_fit force)
        (λ e. inner_seen p target last force tree) (λ e. absurd (cc)) (λ e. absurd (cc)) (λ e. absurd (cc))
    dir_stays (Attr p) h n c = ap (λ t. kind_of (at t q)) (asked (Attr p) refl) ∙ is
    dir_stays (Copy a b deep) h n c =
        dir_by_copy a b deep tree h sounds q is (row (Copy a b deep) tree).effect
        (copy_row a b deep tree h sounds) (in_directory (Copy a b deep) tree h sounds)
    dir_stays (Move a b) h n c =
        dir_by_move a b tree h n puts sounds q c is (row (Move a b) tree).effect
        (move_row a b tree h n puts sounds) (in_directory (Move a b) tree h sounds)
    dir_stays (PlaceFile p) h n c =
        still_dir (PlaceFile p) replacing h (h.0 refl).1 refl refl refl (λ e. absurd (cc)) (λ e. absurd (cc)) (λ e. absurd (cc)) (λ e. absurd (cc))
    dir_stays (PlaceLink p target) h n c =
        still_dir (PlaceLink p target) linking h (h.0 refl).1 refl refl refl (λ e. absurd (cc)) (λ e. absurd (cc)) (λ e. absurd (cc)) (λ e. absurd (cc))
    dir_stays (PlaceConf p) h n c =
        still_dir (PlaceConf p) none h (h.0 refl).1 refl refl refl (λ e. absurd (cc)) (λ e. absurd (cc)) (λ e. absurd (cc)) (λ e. absurd (cc))
    dir_stays (Discard p) h n c =
        still_dir (Discard p) replacing h (h.0 refl).1 refl refl refl (λ e. absurd (cc)) (λ e. absurd (cc)) (λ e. absurd (cc)) (λ e. absurd (cc))
    dir_stays (DiscardDir p) h n c =
        still_dir (DiscardDir p) emptying h (h.0 refl).1 refl refl refl (λ e. absurd (cc)) (λ e. differ p.names q c) (λ e. absurd (cc)) (λ e. absurd (cc))

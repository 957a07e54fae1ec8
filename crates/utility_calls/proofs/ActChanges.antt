-- The effects of the rows of acts, and the paths that acts look along.
use Rattle.std.proofs.Common.{◌≡◌, ◌≢◌, ℕ, zero, suc, IsTrue, IfSome, arith, ◌⊎◌, inl, inr, Bool, true, false, ◌&&◌, ◌||◌, if◌then◌else◌, Option, Some, None, List, [], ◌∷◌, ◌++◌, refl, ap, subst, ◌∙◌}
use Rattle.script_names.specs.Names.{is_name}
use Rattle.script_names.specs.Paths.{PathParts}
use Rattle.script_names.specs.declared.reason.Done.{Done}
use Rattle.script_names.specs.declared.reason.Done.TheVariants as done
use Rattle.feature_trees.specs.declared.value.Value.{Value}
use Rattle.feature_trees.specs.declared.value.Value.TheVariants as value
use Rattle.feature_trees.specs.declared.kind.Kind.{Kind}
use Rattle.feature_trees.specs.declared.kind.Kind.TheVariants.{Absent, Reg, Link, Special, Dir}
use Rattle.feature_trees.specs.Sound.{sound}
use Rattle.feature_trees.specs.Tree.{entry, at, entries_of, kind_of, put}
use Rattle.feature_trees.specs.Laws.{PutsStaySound}
use Rattle.feature_trees.proofs.Laws.{sound-entry}
use Rattle.utility_calls.specs.declared.acts.Act.{Act}
use Rattle.utility_calls.specs.declared.acts.Act.TheVariants.{Exists, IsReg, IsDir, IsLink, CanRun, IsSpecial, MakeDir, EnsureDir, RemoveDir, Remove, Touch, Symlink, Move, Attr, Copy, PlaceFile, PlaceLink, PlaceConf, Discard, DiscardDir}
use Rattle.utility_calls.specs.declared.sights.Sight.{Sight}
use Rattle.utility_calls.specs.declared.sights.Row.{Row}
use Rattle.utility_calls.specs.declared.sights.Effect.{Effect}
use Rattle.utility_calls.specs.declared.sights.Effect.TheVariants.{Nothing, MakesDir, KeepsDir, MakesFile, MakesLink, LinksInside, TakesAway, Moves, MovesInside, Copies, CopiesInside}
use Rattle.utility_calls.specs.Ways.{link_on_way}
use Rattle.utility_calls.specs.declared.sights.Rule.{Rule}
use Rattle.utility_calls.specs.Table.{rules, rule_holds, row_of, first_row, stop, can_run_by, remove_by, symlink_by, move_by, copy_by}
use Rattle.utility_calls.specs.Acts.{path_of, place_of, source, inner_name, target_of, with_name, kind_at_path, source_of, is_below, takes, looks_at_way, second_link, by_way, by_slash, slash_row, sight_on, own_row, row, effect_on, is_question, tree_after, IsPerformed}
use Rattle.utility_calls.specs.ActChanges.{AreNames, HasNames}

-- ---- what holds of all rows of a table holds of the one that applies

abbrev all_rules : (Row → Bool) → List Rule → Bool
all_rules p [] = true
all_rules p (r ∷ rs) = p (row_of r) && all_rules p rs

pub both_true : (a b : Bool) → (a && b) ≡ true → (a ≡ true) × (b ≡ true)
both_true true b e = (refl, e)
both_true false b e = absurd (cc)

first_all : (p : Row → Bool) (rs : List Rule) (k : Kind) (s : Sight) → p (record { number = 0; answer = done.Failed; effect = Nothing }) ≡ true
    → all_rules p rs ≡ true → p (first_row rs k s) ≡ true
first_all p [] k s none all = none
first_all p (r ∷ rs) k s none all =
    let h = both_true (p (row_of r)) (all_rules p rs) all in
    chosen (rule_holds k s r) (row_of r) (first_row rs k s) h.0 (first_all p rs k s none h.1)
  where
    chosen : (b : Bool) (x y : Row) → p x ≡ true → p y ≡ true → p (if b then x else y) ≡ true
    chosen true x y hx hy = hx
    chosen false x y hx hy = hy

module _ (p : Row → Bool) (stops : (n : ℕ) → p (record { number = n; answer = stop; effect = Nothing }) ≡ true) (slashes : p slash_row ≡ true)
    (none : p (record { number = 0; answer = done.Failed; effect = Nothing }) ≡ true) where
  way_all : (o : Option ℕ) (r : Row) → p r ≡ true → p (by_way o r) ≡ true
  way_all None r h = h
  way_all (Some n) r h = stops n

  slash_all : (s : Bool) (k : Kind) (r : Row) → p r ≡ true → p (by_slash s k r) ≡ true
  slash_all false k r h = h
  slash_all true Absent r h = h
  slash_all true Reg r h = slashes
  slash_all true Link r h = slashes
  slash_all true (Special s) r h = slashes
  slash_all true Dir r h = h

  pub row_all : (act : Act) (tree : Value) → all_rules p (rules (is_below act) act) ≡ true → p (row act tree) ≡ true
  row_all act tree all =
      way_all (link_on_way 0 tree (path_of act).names) _
      (slash_all (path_of act).slash (kind_of (at tree (path_of act).names)) _
      (way_all (second_link act tree) (own_row act tree) (first_all p (rules (is_below act) act) (source_of act tree) (sight_on act tree) none all)))

-- ---- which rows have an effect

abbrev is_nothing : Effect → Bool
is_nothing Nothing = true
is_nothing MakesDir = false
is_nothing KeepsDir = false
is_nothing MakesFile = false
is_nothing MakesLink = false
is_nothing LinksInside = false
is_nothing TakesAway = false
is_nothing Moves = false
is_nothing MovesInside = false
is_nothing Copies = false
is_nothing CopiesInside = false

nothing_is : (e : Effect) → is_nothing e ≡ true → e ≡ Nothing
nothing_is Nothing h = refl
nothing_is MakesDir h = cc
nothing_is KeepsDir h = cc
nothing_is MakesFile h = cc
nothing_is MakesLink h = cc
nothing_is LinksInside h = cc
nothing_is TakesAway h = cc
nothing_is Moves h = cc
nothing_is MovesInside h = cc
nothing_is Copies h = cc
nothing_is CopiesInside h = cc

abbrev is_ok : Done → Bool
is_ok done.Ok = true
is_ok done.Failed = false
is_ok (done.Stopped why) = false

ok_is : (d : Done) → is_ok d ≡ true → d ≡ done.Ok
ok_is done.Ok h = refl
ok_is done.Failed h = cc
ok_is (done.Stopped why) h = cc

abbrev leaves : Row → Bool
leaves r = is_nothing r.effect

abbrev succeeds : Row → Bool
succeeds r = is_ok r.answer || is_nothing r.effect

runs_leave : (runs : Bool) → all_rules leaves (can_run_by runs) ≡ true
runs_leave false = refl
runs_leave true = refl

question_leaves : (act : Act) → is_question act ≡ true → all_rules leaves (rules (is_below act) act) ≡ true
question_leaves (Exists p) h = refl
question_leaves (IsReg p) h = refl
question_leaves (IsDir p) h = refl
question_leaves (IsLink p) h = refl
question_leaves (CanRun p runs) h = runs_leave runs
question_leaves (IsSpecial p kind) h = refl
question_leaves (MakeDir p) h = cc
question_leaves (EnsureDir p) h = cc
question_leaves (RemoveDir p) h = cc
question_leaves (Remove p force deep) h = cc
question_leaves (Touch p) h = cc
question_leaves (Symlink p target last force) h = cc
question_leaves (Move a b) h = cc
question_leaves (Attr p) h = refl
question_leaves (Copy a b deep) h = cc
question_leaves (PlaceFile p) h = cc
question_leaves (PlaceLink p target) h = cc
question_leaves (PlaceConf p) h = cc
question_leaves (Discard p) h = cc
question_leaves (DiscardDir p) h = cc

runs_succeed : (runs : Bool) → all_rules succeeds (can_run_by runs) ≡ true
runs_succeed false = refl
runs_succeed true = refl

removes_succeed : (force deep : Bool) → all_rules succeeds (remove_by force deep) ≡ true
removes_succeed false false = refl
removes_succeed false true = refl
removes_succeed true false = refl
removes_succeed true true = refl

links_succeed : (force : Bool) → all_rules succeeds (symlink_by force) ≡ true
links_succeed false = refl
links_succeed true = refl

moves_succeed : (below : Bool) → all_rules succeeds (move_by below) ≡ true
moves_succeed false = refl
moves_succeed true = refl

copies_succeed : (deep : Bool) → all_rules succeeds (copy_by deep) ≡ true
copies_succeed false = refl
copies_succeed true = refl

all_succeed : (act : Act) → all_rules succeeds (rules (is_below act) act) ≡ true
all_succeed (Exists p) = refl
all_succeed (IsReg p) = refl
all_succeed (IsDir p) = refl
all_succeed (IsLink p) = refl
all_succeed (CanRun p runs) = runs_succeed runs
all_succeed (IsSpecial p kind) = refl
all_succeed (MakeDir p) = refl
all_succeed (EnsureDir p) = refl
all_succeed (RemoveDir p) = refl
all_succeed (Remove p force deep) = removes_succeed force deep
all_succeed (Touch p) = refl
all_succeed (Symlink p target last force) = links_succeed force
all_succeed (Move a b) = moves_succeed (is_below (Move a b))
all_succeed (Attr p) = refl
all_succeed (Copy a b deep) = copies_succeed deep
all_succeed (PlaceFile p) = refl
all_succeed (PlaceLink p target) = refl
all_succeed (PlaceConf p) = refl
all_succeed (Discard p) = refl
all_succeed (DiscardDir p) = refl

pub question_row : (act : Act) (tree : Value) → is_question act ≡ true → (row act tree).effect ≡ Nothing
question_row act tree q = nothing_is (row act tree).effect (row_all leaves (λ n. refl) refl refl act tree (question_leaves act q))

either_true : (a b : Bool) → (a ≡ true → ⊥) → (a || b) ≡ true → b ≡ true
either_true true b na h = absurd (na refl)
either_true false b na h = h

pub failed_row : (act : Act) (tree : Value) → (row act tree).answer ≢ done.Ok → (row act tree).effect ≡ Nothing
failed_row act tree ne =
    let r = row act tree in
    nothing_is r.effect (either_true (is_ok r.answer) (is_nothing r.effect) (λ h. ne (ok_is r.answer h))
    (row_all succeeds (λ n. refl) refl refl act tree (all_succeed act)))

-- ---- a directory stays one

pub put_dir : (v w : Value) (names : List (List ℕ)) → names ≢ [] → kind_of (put v names w) ≡ Dir
put_dir v w [] ne = absurd (ne refl)
put_dir v w (f ∷ names) ne = refl

put_dir_with : (v w : Value) (names : List (List ℕ)) (o : Option (List ℕ)) → names ≢ [] → kind_of (put v (with_name names o) w) ≡ Dir
put_dir_with v w [] o ne = absurd (ne refl)
put_dir_with v w (f ∷ names) None ne = refl
put_dir_with v w (f ∷ names) (Some g) ne = refl

effect_dir : (e : Effect) (act : Act) (tree : Value) → (e ≢ Nothing → ((path_of act).names ≢ []) × (place_of act ≢ [])) → kind_of tree ≡ Dir → kind_of (effect_on e act tree) ≡ Dir
effect_dir Nothing act tree h t = t
effect_dir MakesDir act tree h t = put_dir tree (value.Dir []) (path_of act).names (h (λ e. cc)).0
effect_dir KeepsDir act tree h t = put_dir tree (value.Dir (entries_of (at tree (path_of act).names))) (path_of act).names (h (λ e. cc)).0
effect_dir MakesFile act tree h t = put_dir tree value.Reg (path_of act).names (h (λ e. cc)).0
effect_dir MakesLink act tree h t = put_dir tree (value.Link (target_of act)) (path_of act).names (h (λ e. cc)).0
effect_dir LinksInside act tree h t = put_dir_with tree (value.Link (target_of act)) (path_of act).names (inner_name act) (h (λ e. cc)).0
effect_dir TakesAway act tree h t = put_dir tree value.Absent (path_of act).names (h (λ e. cc)).0
effect_dir Moves act tree h t =
    put_dir (put tree (path_of act).names value.Absent) (at tree (path_of act).names) (place_of act) (h (λ e. cc)).1
effect_dir MovesInside act tree h t =
    put_dir_with (put tree (path_of act).names value.Absent) (at tree (path_of act).names) (place_of act) (inner_name act) (h (λ e. cc)).1
effect_dir Copies act tree h t = put_dir tree (at tree (path_of act).names) (place_of act) (h (λ e. cc)).1
effect_dir CopiesInside act tree h t = put_dir_with tree (at tree (path_of act).names) (place_of act) (inner_name act) (h (λ e. cc)).1

-- the paths of an act that has an effect have names
pub named : (act : Act) (tree : Value) → IsPerformed act → (row act tree).effect ≢ Nothing → ((path_of act).names ≢ []) × (place_of act ≢ [])
named act tree performed ne = by (is_question act) refl
  where
    by : (b : Bool) → is_question act ≡ b → ((path_of act).names ≢ []) × (place_of act ≢ [])
    by true q = absurd (ne (question_row act tree q))
    by false q = performed.0 q

pub dir_stays : (act : Act) (tree : Value) → IsPerformed act → kind_of tree ≡ Dir → kind_of (tree_after act tree) ≡ Dir
dir_stays act tree performed t = effect_dir (row act tree).effect act tree (named act tree performed) t

-- ---- a sound tree stays sound

pub at_sound : (names : List (List ℕ)) (v : Value) → IsTrue (sound v) → IsTrue (sound (at v names))
at_sound [] v s = s
at_sound (f ∷ rest) v s = at_sound rest (entry v f) (sound-entry v f s)

-- the directory with the entries of a sound value
entries_sound : (v : Value) → IsTrue (sound v) → IsTrue (sound (value.Dir (entries_of v)))
entries_sound value.Absent s = refl
entries_sound value.Reg s = refl
entries_sound (value.Link b) s = refl
entries_sound (value.Special which) s = refl
entries_sound (value.Dir es) s = s

-- names with one more behind them
one_name : (f : List ℕ) → IsTrue (is_name f) → AreNames (f ∷ [])
one_name f is zero d lt = is
one_name f is (suc k) d lt = absurd (omega (arith, lt))

more_names : (names : List (List ℕ)) (f : List ℕ) → AreNames names → IsTrue (is_name f) → AreNames (names ++ f ∷ [])
more_names [] f n is k d lt = one_name f is k d lt
more_names (g ∷ names) f n is zero d lt = n 0 d (omega arith)
more_names (g ∷ names) f n is (suc k) d lt =
    more_names names f (λ j e l. n (suc j) e (omega (arith, l))) is k d (omega (arith, lt))

with_names : (names : List (List ℕ)) (o : Option (List ℕ)) → AreNames names → IfSome o (λ f. IsTrue (is_name f)) → AreNames (with_name names o)
with_names names None n h = n
with_names names (Some f) n h = more_names names f n h

effect_sound : PutsStaySound → (e : Effect) (act : Act) (tree : Value) → HasNames act → IsTrue (sound tree) → IsTrue (sound (effect_on e act tree))
effect_sound puts Nothing act tree n s = s
effect_sound puts MakesDir act tree n s = puts tree (value.Dir []) (path_of act).names s refl n.path
effect_sound puts KeepsDir act tree n s =
    puts tree (value.Dir (entries_of (at tree (path_of act).names))) (path_of act).names s (entries_sound (at tree (path_of act).names) (at_sound (path_of act).names tree s)) n.path
effect_sound puts MakesFile act tree n s = puts tree value.Reg (path_of act).names s refl n.path
effect_sound puts MakesLink act tree n s = puts tree (value.Link (target_of act)) (path_of act).names s refl n.path
effect_sound puts LinksInside act tree n s =
    puts tree (value.Link (target_of act)) (with_name (path_of act).names (inner_name act)) s refl (with_names (path_of act).names (inner_name act) n.path n.inner)
effect_sound puts TakesAway act tree n s = puts tree value.Absent (path_of act).names s refl n.path
effect_sound puts Moves act tree n s =
    puts (put tree (path_of act).names value.Absent) (at tree (path_of act).names) (place_of act)
    (puts tree value.Absent (path_of act).names s refl n.path) (at_sound (path_of act).names tree s) n.place
effect_sound puts MovesInside act tree n s =
    puts (put tree (path_of act).names value.Absent) (at tree (path_of act).names) (with_name (place_of act) (inner_name act))
    (puts tree value.Absent (path_of act).names s refl n.path) (at_sound (path_of act).names tree s) (with_names (place_of act) (inner_name act) n.place n.inner)
effect_sound puts Copies act tree n s = puts tree (at tree (path_of act).names) (place_of act) s (at_sound (path_of act).names tree s) n.place
effect_sound puts CopiesInside act tree n s =
    puts tree (at tree (path_of act).names) (with_name (place_of act) (inner_name act)) s (at_sound (path_of act).names tree s)
    (with_names (place_of act) (inner_name act) n.place n.inner)

pub sound_stays : PutsStaySound → (act : Act) (tree : Value) → HasNames act → IsTrue (sound tree) → IsTrue (sound (tree_after act tree))
sound_stays puts act tree n s = effect_sound puts (row act tree).effect act tree n s

-- ---- every act but a move and a copy looks along one path alone

-- an act without a source looks at its own path, is not below it, and takes nothing; one with a source is a move or
-- a copy
abbrev pub IsStillOrTakes : Act → Option PathParts → Type 0
IsStillOrTakes act None = (place_of act ≡ (path_of act).names) × (is_below act ≡ false) × (takes act Absent ≡ false)
IsStillOrTakes act (Some a) = (b : PathParts) × ((act ≡ Move a b) ⊎ ((deep : Bool) × (act ≡ Copy a b deep)))

pub still_or_takes : (act : Act) → IsStillOrTakes act (source act)
still_or_takes (Exists p) = (refl, refl, refl)
still_or_takes (IsReg p) = (refl, refl, refl)
still_or_takes (IsDir p) = (refl, refl, refl)
still_or_takes (IsLink p) = (refl, refl, refl)
still_or_takes (CanRun p runs) = (refl, refl, refl)
still_or_takes (IsSpecial p kind) = (refl, refl, refl)
still_or_takes (MakeDir p) = (refl, refl, refl)
still_or_takes (EnsureDir p) = (refl, refl, refl)
still_or_takes (RemoveDir p) = (refl, refl, refl)
still_or_takes (Remove p force deep) = (refl, refl, refl)
still_or_takes (Touch p) = (refl, refl, refl)
still_or_takes (Symlink p target last force) = (refl, refl, refl)
still_or_takes (Move a b) = (b, inl refl)
still_or_takes (Attr p) = (refl, refl, refl)
still_or_takes (Copy a b deep) = (b, inr (deep, refl))
still_or_takes (PlaceFile p) = (refl, refl, refl)
still_or_takes (PlaceLink p target) = (refl, refl, refl)
still_or_takes (PlaceConf p) = (refl, refl, refl)
still_or_takes (Discard p) = (refl, refl, refl)
still_or_takes (DiscardDir p) = (refl, refl, refl)

still_is : (act : Act) → source act ≡ None → IsStillOrTakes act None
still_is act still = subst (IsStillOrTakes act) still (still_or_takes act)

pub place_is : (act : Act) → source act ≡ None → place_of act ≡ (path_of act).names
place_is act still = (still_is act still).0

pub beside : (act : Act) → source act ≡ None → is_below act ≡ false
beside act still = (still_is act still).1

pub no_source : (act : Act) (tree : Value) → source act ≡ None → source_of act tree ≡ Absent
no_source act tree still = ap (λ o. kind_at_path o tree) still

-- and it looks at no second way
pub no_second : (act : Act) (tree : Value) → source act ≡ None → looks_at_way act tree ≡ false
no_second act tree still =
    ap (λ (b : Bool). b || takes act (source_of act tree)) (beside act still)
    ∙ ap (takes act) (no_source act tree still) ∙ (still_is act still).2

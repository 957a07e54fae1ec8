-- All paths at once: those so far, and the items that are left.
use Rattle.std.proofs.Common.{◌≡◌, ◌≢◌, ℕ, ◌<◌, ◌≤◌, ◌-◌, List, [], ◌∷◌, ◌++◌, length, Result, Ok, Err, IsTrue, Bool, true, false, rules, refl, sym, ap, ◌∙◌, subst, arith}
use Rattle.std.specs.Prelude.{◌↔◌}
use Rattle.script_names.specs.declared.mark.Mark.{Mark}
use Rattle.feature_trees.specs.declared.value.Value.{Value}
use Rattle.feature_trees.specs.declared.kind.Kind.{Kind}
use Rattle.feature_trees.specs.declared.kind.Kind.TheVariants as kind
use Rattle.feature_trees.specs.declared.kind.Special.TheVariants as special
use Rattle.feature_trees.specs.declared.kind.Kinds.{Kinds}
use Rattle.feature_trees.specs.Kinds.{has, all}
use Rattle.feature_trees.specs.Tree.{kind_of}
use Rattle.tree_clauses.specs.Literals.{Valuation, value_of_variable}
use Rattle.clause_solver.specs.Stands.{Seen, Stands, Alive}
use Rattle.clause_solver.specs.Pairs.{HasPair}
use Rattle.utility_calls.specs.Walks.{world, Walk, fresh, walk, AllDone}
use Rattle.case_paths.specs.declared.state.PathState.{PathState}
use Rattle.case_paths.specs.declared.state.Found.{Found}
use Rattle.case_paths.specs.declared.state.PathsFault.{PathsFault}
use Rattle.case_paths.specs.declared.state.PathsFault.TheVariants as fault
use Rattle.case_paths.specs.declared.items.Item.{Item}
use Rattle.case_paths.specs.declared.items.Item.TheVariants.{Waiting}
use Rattle.case_paths.specs.Paths.{AllPlayed, Explored}
use Rattle.case_paths.specs.Steps.{world_of}
use Rattle.case_paths.specs.Stages.{Parts}
use Rattle.case_paths.specs.Items.{path_items, item_states, AllItems, ended_count, Refine, Advanced}
use Rattle.case_paths.proofs.Walks.{some_pair, some_alive}
use Rattle.case_paths.proofs.Parting.{parts_alone}
use Rattle.case_paths.proofs.ItemStates.{ended_within, paths_ended, paths_states, paths_length}
use Rattle.case_paths.proofs.Single.{the_paths, are_few, too_many}

-- the items part the state
pub record Whole {A : Type 0} (d : Walk A) (root : PathState) (items : List (Item A)) : Type 0 where
  pub all : AllItems d items
  pub parts : Parts root (item_states items)

-- a state at which nothing was done, whose kept tree is the tree now
pub record IsFirst (x : PathState) : Type 0 where
  pub kept : x.kept.0 ≡ x.store.current
  pub inside : x.kept.0 < x.store.count
  pub trace : x.trace ≡ []
  pub done : x.done ≡ 0

pub whole_begin : {A : Type 0} (d : Walk A) (root : PathState) → AllDone d → ((t u : Value) → HasPair root.store t u → u ≡ t) → IsFirst root → Alive root.store → Whole d root (Waiting root ∷ [])
whole_begin d root all known first a = record {
  all = ((d, [], record { known = first.inside; count = first.done; all = all; walks = λ t g h. walks t g h }), tt);
  parts = parts_alone root a;
}
  where
    walks : (t : Value) (g : Valuation) → Stands root.store t g → walk d (world_of root g) root.trace [] ≡ walk d (fresh t) [] []
    walks t g h =
        let now : (world_of root g).tree ≡ t = known t (world_of root g).tree (g, h, refl) in
        let kept : (world_of root g).kept ≡ t = ap (λ n. value_of_variable g n) first.kept ∙ now in
        (λ i. walk d (world (now i) (kept i)) (first.trace i) [])

module _ {A : Type 0} (d : Walk A) (root : PathState) where
  pub all_found : (paths : List (Found A)) (room : ℕ) → ((t u : Value) → HasPair root.store t u → u ≡ t) → Whole d root (path_items paths) → length paths ≤ room → Explored d root.store room (Ok paths)
  all_found paths room known w le =
      let ended = paths_ended d paths w.all in
      let parts = subst (Parts root) (paths_states paths) w.parts in
      (the_paths d root known paths ended parts, le, are_few d root known paths room ended parts le)

  pub too_many_found : (items : List (Item A)) (room : ℕ) → ((t u : Value) → HasPair root.store t u → u ≡ t) → Whole d root items → room < length items → Explored d root.store room (Err fault.Over)
  too_many_found items room known w lt = too_many d root known [] items room tt w.all w.parts (let w = lt in omega (arith, w))

-- ---- where a store is asked whether it has a pair

-- the stores have the same pairs
pub record SamePairs (old new : Seen) : Type 0 where
  pub on : (t u : Value) → HasPair old t u → HasPair new t u
  pub back : (t u : Value) → HasPair new t u → HasPair old t u

each_kind : (k : Kind) → IsTrue (has all k)
each_kind kind.Absent = search rules
each_kind kind.Reg = search rules
each_kind kind.Link = search rules
each_kind (kind.Special special.Fifo) = refl
each_kind (kind.Special special.Socket) = refl
each_kind (kind.Special special.Block) = refl
each_kind (kind.Special special.Char) = refl
each_kind kind.Dir = search rules

-- a limit to all kinds keeps each pair
pub same_pairs : (old new : Seen) (x : ℕ) (k : Kinds) → k ≡ all → new.current ≡ old.current → ((t : Value) (g : Valuation) → Stands new t g ↔ (Stands old t g × IsTrue (has k (kind_of (value_of_variable g x))))) → SamePairs old new
same_pairs old new x k f e h = record {
  on = λ t u p. (p.0, (h t p.0).1 (p.1, subst (λ (k : Kinds). IsTrue (has k (kind_of (value_of_variable p.0 x)))) (sym f) (each_kind (kind_of (value_of_variable p.0 x)))), ap (λ y. value_of_variable p.0 y) e ∙ p.2);
  back = λ t u p. (p.0, ((h t p.0).0 p.1).0, ap (λ y. value_of_variable p.0 y) (sym e) ∙ p.2);
}

played_on : {A : Type 0} (d : Walk A) (old new : Seen) (ts : List (List Mark)) → SamePairs old new → AllPlayed d old ts → AllPlayed d new ts
played_on d old new [] s h = tt
played_on d old new (t ∷ ts) s h = ((h.0.0, h.0.1, s.on h.0.0 h.0.1 h.0.2, h.0.3), played_on d old new ts s h.1)

flipped : (old new : Seen) → SamePairs old new → SamePairs new old
flipped old new s = record { on = s.back; back = s.on }

pub explored_same : {A : Type 0} (d : Walk A) (old new : Seen) (room : ℕ) (res : Result (List (Found A)) PathsFault) → SamePairs old new → Explored d new room res → Explored d old room res
explored_same d old new room (Ok xs) s h = (
  record {
    once = λ t u p. h.0.once t u (s.on t u p);
    none_else = λ k x t v a p. (let f = h.0.none_else k x t v a p in (f.0, s.back t f.0 f.1, f.2));
    alive = h.0.alive;
    rising = h.0.rising;
  },
  h.1,
  λ ts r p. h.2 ts r (played_on d old new ts s p),
)
explored_same d old new room (Err fault.Over) s h = record {
  traces = h.traces;
  rising = h.rising;
  played = played_on d new old h.traces (flipped old new s) h.played;
  count = h.count;
}
explored_same d old new room (Err fault.Memory) s h = tt

-- no pair: no path
pub none_found : {A : Type 0} (d : Walk A) (s : Seen) (room : ℕ) (xs : List (Found A)) → (Alive s → ⊥) → xs ≡ [] → Explored d s room (Ok xs)
none_found d s room xs n e = subst (λ l. Explored d s room (Ok l)) (sym e) (
  record {
    once = λ t u p. absurd (n (some_alive s t u p));
    none_else = λ k x t v a p. absurd a;
    alive = tt;
    rising = tt;
  },
  omega arith,
  λ ts r p. none ts p,
)
  where
    none : (ts : List (List Mark)) → AllPlayed d s ts → length ts ≤ room
    none [] p = omega arith
    none (t ∷ ts) p = absurd (n (some_alive s p.0.0 p.0.1 p.0.2))

-- a pair, and no room for its path
pub no_room : {A : Type 0} (d : Walk A) (s : Seen) → Alive s → Explored d s 0 (Err fault.Over)
no_room d s a = (let p = some_pair s a in record {
  traces = (walk d (fresh p.1) [] []).trace ∷ [];
  rising = (tt, tt);
  played = ((p.0, p.1, p.2, refl), tt);
  count = omega arith;
})

-- ---- the loop over the stages that wait

limited_none : (old new : Seen) (left : Bool) → SamePairs old new → (IsTrue left ↔ Alive new) → left ≡ false → Alive old → ⊥
limited_none old new left s f no_left a =
    let p = some_pair old a in
    let x : left ≡ true = f.1 (some_alive new p.0 p.1 (s.on p.0 p.1 p.2)) in absurd (cc)

limited_some : (old new : Seen) (left : Bool) → SamePairs old new → (IsTrue left ↔ Alive new) → left ≡ true → Alive old
limited_some old new left s f is_left = let p = some_pair new (f.0 is_left) in some_alive old p.0 p.1 (s.back p.0 p.1 p.2)

pub no_path : {A : Type 0} (d : Walk A) (old new : Seen) (left : Bool) (room : ℕ) (xs : List (Found A)) → SamePairs old new → (IsTrue left ↔ Alive new) → left ≡ false → xs ≡ [] → Explored d old room (Ok xs)
no_path d old new left room xs s f e is = none_found d old room xs (limited_none old new left s f e) is

pub no_room_left : {A : Type 0} (d : Walk A) (old new : Seen) (left : Bool) (room : ℕ) → SamePairs old new → (IsTrue left ↔ Alive new) → left ≡ true → room ≡ 0 → Explored d old room (Err fault.Over)
no_room_left d old new left room s f e z = subst (λ n. Explored d old n (Err fault.Over)) (sym z) (no_room d old (limited_some old new left s f e))

-- the items are those of the store's pairs, and there is room for them
pub record Exploring {A : Type 0} (d : Walk A) (s : Seen) (room : ℕ) (items : List (Item A)) : Type 0 where
  pub root : PathState
  pub known : (t u : Value) → HasPair root.store t u → u ≡ t
  pub same : SamePairs s root.store
  pub within : length items ≤ room
  pub whole : Whole d root items

pub exploring_begin : {A : Type 0} (d : Walk A) (s : Seen) (root : PathState) (room : ℕ) (empty items : List (Item A)) → AllDone d → ((t u : Value) → HasPair s t u → u ≡ t) → SamePairs s root.store → Alive root.store → IsFirst root → room ≢ 0 → empty ≡ [] → items ≡ empty ++ Waiting root ∷ [] → Exploring d s room items
exploring_begin d s root room empty items all known same alive first nz no_item waits =
    let known_new : (t u : Value) → HasPair root.store t u → u ≡ t = λ t u p. known t u (same.back t u p) in
    let one : items ≡ Waiting root ∷ [] = waits ∙ ap (λ l. l ++ Waiting root ∷ []) no_item in
    record {
      root = root;
      known = known_new;
      same = same;
      within = (let a = ap length one in omega (arith, a, nz));
      whole = subst (Whole d root) (sym one) (whole_begin d root all known_new first alive);
    }

module _ {A : Type 0} (d : Walk A) (s : Seen) (room : ℕ) (items : List (Item A)) (e : Exploring d s room items) where
  refined : (ys : List (Item A)) → Refine d items ys → Whole d e.root ys
  refined ys r = record { all = r.items; parts = r.parts e.root e.whole.parts }

  pub exploring_more : (next : List (Item A)) → Advanced d items room (Ok next) → Exploring d s room next
  exploring_more next a = record {
    root = e.root;
    known = e.known;
    same = e.same;
    within = a.1;
    whole = refined next a.0;
  }

  -- a round that gives no more items has left none that waits
  pub all_ended : (next : List (Item A)) → Advanced d items room (Ok next) → length next ≡ length items → ended_count next ≡ length next
  all_ended next a same = let c = a.2 in omega (arith, c, same)

  -- another round has more items, of which there are at most `room`
  pub fewer_left : (next : List (Item A)) → Advanced d items room (Ok next) → length next ≢ length items → room - length next < room - length items
  fewer_left next a more = let c = a.2 in let w = a.1 in let k = ended_within next in omega (arith, c, w, k, more)

  pub exploring_end : (next : List (Item A)) (paths : List (Found A)) → Advanced d items room (Ok next) → next ≡ path_items paths → Explored d s room (Ok paths)
  exploring_end next paths a is =
      let w = subst (Whole d e.root) is (refined next a.0) in
      let k = ap length is ∙ paths_length paths in let le = a.1 in
      explored_same d s e.root.store room (Ok paths) e.same (all_found d e.root paths room e.known w (omega (arith, k, le)))

  exploring_over : Advanced d items room (Err fault.Over) → Explored d s room (Err fault.Over)
  exploring_over a =
      explored_same d s e.root.store room (Err fault.Over) e.same
      (too_many_found d e.root a.0 room e.known (refined a.0 a.1) a.2)

  pub exploring_fault : (f : PathsFault) → Advanced d items room (Err f) → Explored d s room (Err f)
  exploring_fault fault.Over a = exploring_over a
  exploring_fault fault.Memory a = tt

-- What a case adds to a store, from what its literals leave: for any given variables, then for an act's case and for a back case.
use Rattle.std.proofs.Common.{◌≡◌, ℕ, zero, suc, ◌+◌, ◌<◌, ◌↔◌, IsTrue, Option, Some, None, List, [], ◌∷◌, length, take, refl, sym, ap, ◌∙◌, arith}
use Rattle.std.specs.Prelude.{MatchOption}
use Rattle.std.proofs.lemmas.List.{get_or-take, length-take-le}
use Rattle.feature_trees.specs.declared.kind.Kind.TheVariants as kind
use Rattle.feature_trees.specs.declared.value.Value.{Value}
use Rattle.feature_trees.specs.declared.value.Value.TheVariants as value
use Rattle.feature_trees.specs.Tree.{kind_of}
use Rattle.feature_trees.specs.Sound.{sound}
use Rattle.tree_clauses.specs.declared.case.Case.{Case}
use Rattle.tree_clauses.specs.declared.clause.Var.{Var}
use Rattle.tree_clauses.specs.Leads.{Leads, LeadsBack}
use Rattle.tree_clauses.specs.Literals.{Valuation, value_of_variable, IsSound}
use Rattle.tree_clauses.specs.Plain.{IsPlainFrom}
use Rattle.clause_solver.specs.declared.drafts.Draft.{Draft}
use Rattle.clause_solver.specs.declared.store.Store.TheInside.{Inside}
use Rattle.clause_solver.specs.Adds.{given_at, AllInside, Begins, LeadsFrom, AddsFrom, LeadsNowhereFrom, AddsCase, LeadsNowhere, AddsBack, LeadsBackNowhere}
use Rattle.clause_solver.specs.Drafts.{place_in, Agrees, IsDrafted}
use Rattle.clause_solver.specs.Stands.{Seen, Stands, Alive}
use Rattle.clause_solver.specs.Variables.{AllFit, AlwaysDir}
use Rattle.clause_solver.specs.View.{seen, IsSettled}
use Rattle.clause_solver.proofs.Deciding.{left_alive}
use Rattle.clause_solver.proofs.OneMore.{seen_of, sound_take}
use Rattle.clause_solver.proofs.Pairs.{sound_at, fits_from, fits_to}

-- the first so many values of a function
abbrev tabled : (ℕ → Value) → ℕ → Valuation
tabled f zero = []
tabled f (suc n) = f 0 ∷ tabled (λ i. f (suc i)) n

tabled_at : (f : ℕ → Value) (n i : ℕ) → i < n → value_of_variable (tabled f n) i ≡ f i
tabled_at f zero i w = absurd (omega arith)
tabled_at f (suc n) zero w = refl
tabled_at f (suc n) (suc i) w = tabled_at (λ j. f (suc j)) n i (omega arith)

tabled_sound : (f : ℕ → Value) (n : ℕ) → ((i : ℕ) → IsTrue (sound (f i))) → IsSound (tabled f n)
tabled_sound f zero s i d w = absurd (omega arith)
tabled_sound f (suc n) s zero d w = s 0
tabled_sound f (suc n) s (suc i) d w = tabled_sound (λ j. f (suc j)) n (λ j. s (suc j)) i d (omega arith)

-- the value at a place
abbrev at_place : Valuation → Option ℕ → Value
at_place g None = value.Absent
at_place g (Some n) = value_of_variable g n

at_place_sound : (g : Valuation) (place : Option ℕ) → IsSound g → IsTrue (sound (at_place g place))
at_place_sound g None s = refl
at_place_sound g (Some n) s = sound_at g s n

module _ (a : Inside) (inv : IsSettled a) (given : List Var) (inside : AllInside given (length a.lists.vars)) (made : Case) (plain : IsPlainFrom (length given) made) (draft : Draft) (d : IsDrafted a.lists.vars given made draft) (root : ℕ) (at : place_in draft made.root.0 ≡ Some root) where
  -- how many variables the case has
  abbrev count : ℕ
  count = length given + made.locals

  -- the values of the case's variables
  abbrev case_values : Valuation → Valuation
  case_values g = tabled (λ i. at_place g (place_in draft i)) count

  case_sound : (g : Valuation) → IsSound g → IsSound (case_values g)
  case_sound g s = tabled_sound (λ i. at_place g (place_in draft i)) count (λ i. at_place_sound g (place_in draft i) s)

  case_agrees : (g : Valuation) → Agrees (place_in draft) g (case_values g)
  case_agrees g x n e =
      let low : x < count = (d.placed x).0 (rw e tt) in
      tabled_at (λ i. at_place g (place_in draft i)) count x low ∙ ap (at_place g) e

  old_at : (g : Valuation) (i : ℕ) → i < length a.lists.vars → value_of_variable (take (length a.lists.vars) g) i ≡ value_of_variable g i
  old_at g i w = get_or-take (length a.lists.vars) g i value.Absent w

  module _ (g : Valuation) (long : length g ≡ length draft.lists.vars) (s : IsSound g) (fits : AllFit draft.lists.vars g) where
    below : AllFit a.lists.vars (take (length a.lists.vars) g)
    below = (d.leaves.down g long s fits).0

    short : length (take (length a.lists.vars) g) ≡ length a.lists.vars
    short = let less = d.leaves.more in length-take-le (length a.lists.vars) g (omega (arith, long, less))

    short_sound : IsSound (take (length a.lists.vars) g)
    short_sound = let less = d.leaves.more in sound_take (length a.lists.vars) g (omega (arith, long, less)) s

    leads : LeadsFrom made given g (value_of_variable g root)
    leads = record {
      valuation = case_values g;
      values = case_sound g s;
      starts = λ i w. case_agrees g i (given_at given i) (d.leaves.start i w);
      ends = case_agrees g made.root.0 root at;
      met = (d.leaves.down g long s fits).1 (case_values g) (case_sound g s) (case_agrees g);
    }

    now_dir : kind_of (value_of_variable g a.current) ≡ kind.Dir
    now_dir = ap kind_of (sym (old_at g a.current inv.now_known)) ∙ inv.now_tree (take (length a.lists.vars) g) short short_sound below

    root_dir : kind_of (value_of_variable g root) ≡ kind.Dir
    root_dir =
        let l = leads in
        ap kind_of (sym l.ends) ∙ plain.dir l.valuation l.values l.met

  always : AlwaysDir draft.lists.vars root
  always g l s fits = root_dir g l s fits

  known : root < length draft.lists.vars
  known = d.steady.inside made.root.0 root at

  step_down : (t : Value) (g : Valuation) → Stands (seen_of draft.lists.vars root) t g → Stands (seen a) t (take (length a.lists.vars) g) × LeadsFrom made given g (value_of_variable g root)
  step_down t g h =
      let fits = fits_from draft.lists.vars g d.steady.decided.order h.values h.met in
      let long = h.counted in (
        record {
          counted = short g long h.values fits;
          starts = old_at g 0 inv.decided.order.some ∙ h.starts;
          tree = h.tree;
          ends = ap kind_of (old_at g a.current inv.now_known) ∙ now_dir g long h.values fits;
          met = fits_to a.lists.vars (take (length a.lists.vars) g) (short_sound g long h.values fits) (below g long h.values fits);
          values = short_sound g long h.values fits;
        },
        leads g long h.values fits,
      )

  step_up : (t : Value) (g : Valuation) (v : Value) → Stands (seen a) t g → LeadsFrom made given g v → (h : Valuation) × Stands (seen_of draft.lists.vars root) t h × (take (length a.lists.vars) h ≡ g) × (value_of_variable h root ≡ v)
  step_up t g v h l =
      let k = d.leaves.up g l.valuation h.counted h.values (fits_from a.lists.vars g inv.decided.order h.values h.met) l.values l.starts l.met in
      let first : value_of_variable k.0 0 ≡ value_of_variable g 0 = sym (old_at k.0 0 inv.decided.order.some) ∙ ap (λ u. value_of_variable u 0) k.4 in
      let last : value_of_variable k.0 root ≡ v = sym (k.5 made.root.0 root at) ∙ l.ends in (
        k.0,
        record {
          counted = k.1;
          starts = first ∙ h.starts;
          tree = h.tree;
          ends = always k.0 k.1 k.2 k.3;
          met = fits_to draft.lists.vars k.0 k.2 k.3;
          values = k.2;
        },
        k.4,
        last,
      )

  live : IsTrue draft.lists.alive ↔ Alive (seen_of draft.lists.vars root)
  live =
      let left = d.steady.decided.alive in
      let some = left_alive draft.lists.vars root d.steady.decided.order always (d.leaves.first inv.start_tree) in
      (λ t. some.0 (left.0 t), λ x. left.1 (some.1 x))

  pub nowhere_from : ¬ (IsTrue draft.lists.alive) → LeadsNowhereFrom (seen a) given made
  nowhere_from dead t g v h l = let r = step_up t g v h l in dead (live.1 (t, r.0, r.1))

  module _ (b : Inside) (lists : b.lists ≡ draft.lists) (now : b.current ≡ root) where
    pub added_settled : IsSettled b
    added_settled = record {
      decided = rw lists d.steady.decided;
      now_known = rw (lists, now) known;
      now_tree = rw (lists, now) always;
      start_tree = rw lists (d.leaves.first inv.start_tree);
    }

    pub added_from : IsTrue draft.lists.alive → AddsFrom (seen a) given made (seen b)
    added_from f = rw (lists, now) (record { alive = live.0 f; more = d.leaves.more; down = step_down; up = step_up })

-- an answer, in other words
pub in_words : {A : Type 0} {P Q : Type 0} {R S : A → Type 0} (found : Option A) → (P → Q) → ((x : A) → R x → S x) → MatchOption found P R → MatchOption found Q S
in_words None f g m = f m
in_words (Some x) f g m = g x m

-- ---- the case of an act

-- it leads from the tree now
from_now : (made : Case) (now : Var) (n : ℕ) → now.0 ≡ n → (g : Valuation) (v : Value) → LeadsFrom made (now ∷ []) g v → Leads made (value_of_variable g n) v
from_now made now n is g v l = record {
  valuation = l.valuation;
  values = l.values;
  starts = l.starts 0 (omega arith) ∙ ap (value_of_variable g) is;
  ends = l.ends;
  met = l.met;
}

to_now : (made : Case) (now : Var) (n : ℕ) → now.0 ≡ n → (g : Valuation) (v : Value) → Leads made (value_of_variable g n) v → LeadsFrom made (now ∷ []) g v
to_now made now n is g v l = record { valuation = l.valuation; values = l.values; starts = begins; ends = l.ends; met = l.met }
  where
    begins : Begins (now ∷ []) g l.valuation
    begins zero w = l.starts ∙ ap (value_of_variable g) (sym is)
    begins (suc i) w = absurd (omega arith)

module _ (old : Seen) (made : Case) (now : Var) (is : now.0 ≡ old.current) where
  pub nowhere : LeadsNowhereFrom old (now ∷ []) made → LeadsNowhere old made
  nowhere none t v (u, (g, h, e), l) =
      let start : Leads made (value_of_variable g old.current) v = rw e l in
      none t g v h (to_now made now old.current is g v start)

  pub added : now.0 < old.count → (new : Seen) → AddsFrom old (now ∷ []) made new → AddsCase old made new
  added inside new a = record {
    alive = a.alive;
    pairs = λ t v. (
      λ (g, h, e).
          let r = a.down t g h in
          let start : Leads made (value_of_variable g old.current) v = rw e at (from_now made now old.current is g (value_of_variable g new.current) r.1) in
          (value_of_variable g old.current, (take old.count g, r.0, get_or-take old.count g old.current value.Absent (rw is at inside)), start),
      λ (u, (g, h, e), l).
          let start : Leads made (value_of_variable g old.current) v = rw e l in
          let r = a.up t g v h (to_now made now old.current is g v start) in
          (r.0, r.1, r.3),
    );
    more = a.more;
    down = λ t g h. let r = a.down t g h in (r.0, from_now made now old.current is g (value_of_variable g new.current) r.1);
    up = λ t g v h l. a.up t g v h (to_now made now old.current is g v l);
  }

-- ---- a back case

-- it leads from the tree now and from a kept tree
from_both : (made : Case) (now kept : Var) (n : ℕ) → now.0 ≡ n → (g : Valuation) (v : Value) → LeadsFrom made (now ∷ kept ∷ []) g v → LeadsBack made (value_of_variable g n) (value_of_variable g kept.0) v
from_both made now kept n is g v l = record {
  valuation = l.valuation;
  values = l.values;
  starts = l.starts 0 (omega arith) ∙ ap (value_of_variable g) is;
  kept = l.starts 1 (omega arith);
  ends = l.ends;
  met = l.met;
}

to_both : (made : Case) (now kept : Var) (n : ℕ) → now.0 ≡ n → (g : Valuation) (v : Value) → LeadsBack made (value_of_variable g n) (value_of_variable g kept.0) v → LeadsFrom made (now ∷ kept ∷ []) g v
to_both made now kept n is g v l = record { valuation = l.valuation; values = l.values; starts = begins; ends = l.ends; met = l.met }
  where
    begins : Begins (now ∷ kept ∷ []) g l.valuation
    begins zero w = l.starts ∙ ap (value_of_variable g) (sym is)
    begins (suc zero) w = l.kept
    begins (suc (suc i)) w = absurd (omega arith)

module _ (old : Seen) (made : Case) (now kept : Var) (is : now.0 ≡ old.current) where
  pub nowhere_back : LeadsNowhereFrom old (now ∷ kept ∷ []) made → LeadsBackNowhere old kept.0 made
  nowhere_back none t g v h l = none t g v h (to_both made now kept old.current is g v l)

  pub added_back : (new : Seen) → AddsFrom old (now ∷ kept ∷ []) made new → AddsBack old kept.0 made new
  added_back new a = record {
    alive = a.alive;
    more = a.more;
    down = λ t g h. let r = a.down t g h in (r.0, from_both made now kept old.current is g (value_of_variable g new.current) r.1);
    up = λ t g v h l. a.up t g v h (to_both made now kept old.current is g v l);
  }

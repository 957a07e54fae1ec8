-- Narrowing is decided at once: the kinds of the variable, of its entries and of what stands below them are looked at.
use Rattle.std.proofs.Common.{◌≡◌, ◌≢◌, ◌⊎◌, ℕ, ◌+◌, ◌<◌, ◌≤◌, ◌↔◌, ◌&&◌, ◌∙◌, inl, inr, Bool, false, IsTrue, List, length, refl, sym, ap, arith, set, length-set, get_or-set_other, get_or-set_same}
use Rattle.std.proofs.lemmas.Bool.{and_parts, and_from}
use Rattle.feature_trees.specs.declared.kind.Kind.{Kind}
use Rattle.feature_trees.specs.declared.kind.Kind.TheVariants.{Absent, Dir}
use Rattle.feature_trees.specs.declared.kind.Kinds.{Kinds}
use Rattle.feature_trees.specs.Kinds.{has}
use Rattle.clause_solver.specs.declared.lists.Lists.{Lists}
use Rattle.clause_solver.specs.declared.variable.TheConstants.{MOST_VARIABLES}
use Rattle.clause_solver.specs.declared.variable.Definition.{Definition}
use Rattle.clause_solver.specs.declared.variable.Definition.TheVariants.{Start, Child, Derived, Ensured, Made}
use Rattle.clause_solver.specs.declared.variable.Variable.{Variable}
use Rattle.clause_solver.specs.Variables.{var_at, allowed, Ordered, narrowed}
use Rattle.clause_solver.specs.Greatest.{IsBest, IsSatisfied, unfenced, kind_at, is_dir, best_by, best_of}
use Rattle.clause_solver.specs.Linked.{IsChildOf}
use Rattle.clause_solver.specs.Settled.{IsGreatest, IsShut, AreSettled, WasGreatest}
use Rattle.clause_solver.specs.Decided.{AreKindsFitting, IsLeft, AreFilled, HaveEntries, AreDecided}
use Rattle.clause_solver.proofs.Deciding.{left_iff, satisfied_entries, decides, decides_at_once, still_fit, may_fall, settled_best, has_entry_same, filled_same}
use Rattle.clause_solver.proofs.Falling.{best_parent, child_cases, parent_before}
use Rattle.clause_solver.proofs.GreatestKinds.{choose_dir, choose_is_dir, is_dir_cases}
use Rattle.clause_solver.proofs.Narrowed.{narrowed_definition, narrowed_fence, narrowed_has, narrowed_fits, narrowed_order}
use Rattle.clause_solver.proofs.Links.{narrowed_linked}
use Rattle.clause_solver.proofs.Names.{nat_cases, bool_cases}

module _ (vars : List Variable) (x : ℕ) (k : Kinds) (inside : x < length vars) where
  by_same : (best : List Kind) (ks : Kinds) (d : Definition) → best_by vars best ks d ≡ best_by (narrowed vars x k) best ks d
  by_same best ks Start = refl
  by_same best ks (Child p f) = rw (narrowed_fence vars x k inside p) refl
  by_same best ks (Derived a f b) = refl
  by_same best ks (Ensured a) = refl
  by_same best ks (Made m) = refl

  -- the kind that was its greatest
  pub was_greatest : (best : List Kind) → IsBest vars best → WasGreatest (narrowed vars x k) best x
  was_greatest best is =
      let ks = (var_at vars x).kinds in
      let same : kind_at best x ≡ best_by (narrowed vars x k) best ks (var_at (narrowed vars x k) x).definition =
      is x inside ∙ by_same best ks (var_at vars x).definition ∙ ap (best_by (narrowed vars x k) best ks) (sym (narrowed_definition vars x k inside x)) in
      (ks, same, narrowed_has vars x k inside x)

  -- the greatest kinds of the other variables stay
  pub narrowed_but : (best : List Kind) → IsBest vars best → (i : ℕ) → i < length vars → i ≢ x → IsGreatest (narrowed vars x k) best i
  narrowed_but best is i w n = rw get_or-set_other (is i w ∙ by_same best (var_at vars i).kinds (var_at vars i).definition)

  narrowed_filled : (i : ℕ) → (var_at (narrowed vars x k) i).not_empty ≡ (var_at vars i).not_empty
  narrowed_filled i = elim (nat_cases i x) [
    | inl e ↦ rw (e, get_or-set_same) refl
    | inr n ↦ rw get_or-set_other refl
  ]

  pub numbers_still : (numbers : List ℕ) → AreFilled vars numbers → AreFilled (narrowed vars x k) numbers
  numbers_still numbers listed = filled_same vars (narrowed vars x k) numbers (length-set vars x _) narrowed_filled listed

  other_kinds : (i : ℕ) → i ≢ x → (var_at (narrowed vars x k) i).kinds ≡ (var_at vars i).kinds
  other_kinds i ne = rw get_or-set_other refl

  narrowed_less : IsLeft (narrowed vars x k) → IsLeft vars
  narrowed_less g = (g.0, rw length-set at g.1, g.2, (narrowed_fits vars x k inside g.0 g.3).0)

  -- what can be a directory with fewer kinds can be one with more
  dir_by : (best : List Kind) (few many : Kinds) (d : Definition) → (IsTrue (has few Dir) → IsTrue (has many Dir)) → best_by vars best few d ≡ Dir → best_by vars best many d ≡ Dir
  dir_by best few many Start more e = choose_dir many (more (choose_is_dir few e))
  dir_by best few many (Child p f) more e = elim (bool_cases (is_dir (kind_at best p) && allowed (var_at vars p).fence f)) [
    | inl t ↦ rw t (choose_dir many (more (choose_is_dir few (rw t at e))))
    | inr neither ↦ let bad : Absent ≡ Dir = rw neither at e in absurd (cc)
  ]
  dir_by best few many (Derived a f b) more e = e
  dir_by best few many (Ensured a) more e = e
  dir_by best few many (Made m) more e = e

  was_dir : (best : List Kind) → best_of (narrowed vars x k) best x ≡ Dir → best_of vars best x ≡ Dir
  was_dir best e =
      let few = (var_at (narrowed vars x k) x).kinds in
      let d = (var_at vars x).definition in
      let now : best_by vars best few d ≡ Dir = by_same best few d ∙ ap (best_by (narrowed vars x k) best few) (sym (narrowed_definition vars x k inside x)) ∙ e in
      dir_by best few (var_at vars x).kinds d (narrowed_has vars x k inside x Dir) now

module _ (a b : Lists) (x : ℕ) (k : Kinds) (d : AreDecided a) (inside : x < length a.vars) (vars : b.vars ≡ narrowed a.vars x k) (kin : b.kin ≡ a.kin) (numbers : b.filled ≡ a.filled) where
  abbrev new : List Variable
  new = narrowed a.vars x k

  long : length new ≡ length a.vars
  long = length-set a.vars x _

  inside_new : x < length new
  inside_new = rw long inside

  new_order : Ordered new
  new_order = narrowed_order a.vars x k inside d.order

  new_small : length new ≤ MOST_VARIABLES
  new_small = rw long d.small

  new_filled : AreFilled new a.filled
  new_filled = numbers_still a.vars x k inside a.filled d.filled

  less : IsLeft new → IsTrue a.alive
  less g = d.alive.1 (narrowed_less a.vars x k inside g)

  was_satisfied : IsTrue a.alive → IsSatisfied a.vars a.best (unfenced a.vars)
  was_satisfied t = (left_iff a.vars a.best d.small d.order d.best).1 (d.alive.0 t)

  others_fit : IsTrue a.alive → (i : ℕ) → i < length new → i ≢ x → IsTrue (has (var_at new i).kinds (kind_at a.best i))
  others_fit t i w ne = ap (λ ks. has ks (kind_at a.best i)) (other_kinds a.vars x k inside i ne) ∙ (was_satisfied t i (rw long at w)).fits

  decided_by : (best : List Kind) (alive : Bool) → length best ≡ length new → IsBest new best → (IsTrue alive ↔ IsLeft new) → b.best ≡ best → b.alive ≡ alive → AreDecided b
  decided_by best alive same is left kinds live = record {
    order = rw vars new_order;
    same = rw (vars, kinds) same;
    best = rw (vars, kinds) is;
    linked = rw (vars, kin) (narrowed_linked a.vars a.kin x k inside d.linked);
    small = rw vars new_small;
    filled = rw (vars, numbers) new_filled;
    alive = rw (vars, live) left;
  }

  module _ (top : Kind) (top_is : top ≡ best_of new a.best x) (fits : Bool) (fits_is : fits ≡ has (var_at new x).kinds top) where
    -- the greatest kind of x stays, so all do
    pub narrowing_keeps : kind_at a.best x ≡ top → b.best ≡ a.best → b.alive ≡ (a.alive && fits) → AreDecided b
    narrowing_keeps here kinds live =
        let is : IsBest new a.best = λ i w. elim (nat_cases i x) [
          | inl e ↦ rw e (here ∙ top_is)
          | inr ne ↦ narrowed_but a.vars x k inside a.best d.best i (rw long at w) ne
        ] in
        let fits_here : fits ≡ has (var_at new x).kinds (kind_at a.best x) = fits_is ∙ ap (has (var_at new x).kinds) (sym here) in
        let sure : IsTrue a.alive → IsTrue fits → AreKindsFitting new a.best = λ t u i w. elim (nat_cases i x) [
          | inl e ↦ rw e (sym fits_here ∙ u)
          | inr ne ↦ others_fit t i w ne
        ] in
        let still : IsTrue a.alive → HaveEntries new a.best a.filled = λ t q w. has_entry_same a.vars new a.best long (narrowed_definition a.vars x k inside) (narrowed_fence a.vars x k inside) (satisfied_entries a.vars a.best a.filled d.filled (was_satisfied t) q w) in
        decided_by a.best (a.alive && fits) (d.same ∙ sym long) is
        (decides_at_once new a.best a.filled new_filled new_small new_order is a.alive fits less sure (λ all. fits_here ∙ all x inside_new) still)
        kinds live

    -- it falls
    module _ (fell : kind_at a.best x ≢ top) (best : List Kind) (below : Bool) (s : AreSettled new x (set a.best x top) best below) where
      now_top : kind_at (set a.best x top) x ≡ top
      now_top = get_or-set_same a.best x top Absent (rw d.same inside)

      no_dir : is_dir top ≡ false
      no_dir = elim (is_dir_cases top) [
        | inl e ↦ absurd (fell (d.best x inside ∙ was_dir a.vars x k inside a.best (sym top_is ∙ e) ∙ sym e))
        | inr neither ↦ neither
      ]

      best_stays : (i : ℕ) → ((p : ℕ) (f : List ℕ) → (var_at new i).definition ≡ Child p f → p ≢ x) → best_of new (set a.best x top) i ≡ best_of new a.best i
      best_stays i other = best_parent new a.best (set a.best x top) (var_at new i).kinds (var_at new i).definition (λ p f e. get_or-set_other a.best x p top Absent (other p f e))

      own_parent : (p : ℕ) (f : List ℕ) → (var_at new x).definition ≡ Child p f → p ≢ x
      own_parent p f e = let w = parent_before new x p f new_order inside_new e in λ q. omega (arith, w, q)

      shut : (i : ℕ) → IsChildOf new x i → IsShut new (set a.best x top) i
      shut i child = rw (child.1, now_top, no_dir) refl

      ready : (i : ℕ) → i < length new → IsGreatest new (set a.best x top) i ⊎ (IsChildOf new x i × IsShut new (set a.best x top) i)
      ready i w = elim (nat_cases i x) [
        | inl e ↦ inl (rw e (now_top ∙ top_is ∙ sym (best_stays x own_parent)))
        | inr ne ↦ elim (child_cases (var_at new i).definition x) [
          | inl child ↦ inr (child, shut i child)
          | inr other ↦ inl (get_or-set_other a.best x i top Absent ne ∙ narrowed_but a.vars x k inside a.best d.best i (rw long at w) ne ∙ sym (best_stays i other))
        ]
      ]

      pub settled_same : length best ≡ length new
      settled_same = s.falls.same ∙ length-set a.best x top ∙ d.same ∙ sym long

      fit_there : IsTrue a.alive → IsTrue fits → AreKindsFitting new (set a.best x top)
      fit_there t u i w = elim (nat_cases i x) [
        | inl e ↦ rw e (ap (has (var_at new x).kinds) now_top ∙ sym fits_is ∙ u)
        | inr ne ↦ ap (has (var_at new i).kinds) (get_or-set_other a.best x i top Absent ne) ∙ others_fit t i w ne
      ]

      sure : IsTrue a.alive → IsTrue (fits && below) → AreKindsFitting new best
      sure t u = let q = and_parts fits below u in still_fit new (x + 1) (set a.best x top) best below s.falls (fit_there t q.0) q.1

      back : AreKindsFitting new best → IsTrue (fits && below)
      back all =
          let at_x : kind_at best x ≡ top = s.falls.kept x (omega arith) ∙ now_top in
          and_from fits below (fits_is ∙ ap (has (var_at new x).kinds) (sym at_x) ∙ all x inside_new) (may_fall new (x + 1) (set a.best x top) best below s.falls all)

      pub narrowing_falls : (have : Bool) → (IsTrue have ↔ HaveEntries new best a.filled) → b.best ≡ best → b.alive ≡ ((a.alive && (fits && below)) && have) → AreDecided b
      narrowing_falls have ih kinds live =
          let is : IsBest new best = settled_best new x (set a.best x top) best below s ready in
          decided_by best ((a.alive && (fits && below)) && have) settled_same is
          (decides new best a.filled new_filled new_small new_order is a.alive (fits && below) less sure back have ih)
          kinds live

-- What is left where a place of the start tree, which can be nothing but a symbolic link, is given its target.
use Rattle.std.proofs.Common.{◌≡◌, ℕ, ◌<◌, ◌≤◌, ◌↔◌, inl, inr, Some, None, List, length, refl, sym, ap, ◌∙◌, length-set, get_or-set_other, get_or-set_same}
use Rattle.feature_trees.specs.declared.kind.Kind.{Kind}
use Rattle.feature_trees.specs.declared.kind.Kinds.{Kinds}
use Rattle.feature_trees.specs.declared.value.Value.TheVariants as value
use Rattle.feature_trees.specs.Kinds.{has}
use Rattle.tree_clauses.specs.Literals.{Valuation, value_of_variable}
use Rattle.clause_solver.specs.declared.kin.Kin.{Kin}
use Rattle.clause_solver.specs.declared.lists.Lists.{Lists}
use Rattle.clause_solver.specs.declared.variable.TheConstants.{MOST_VARIABLES}
use Rattle.clause_solver.specs.declared.variable.Definition.{Definition}
use Rattle.clause_solver.specs.declared.variable.Definition.TheVariants.{Start, Child, Derived, Ensured, Made}
use Rattle.clause_solver.specs.declared.variable.Variable.{Variable}
use Rattle.clause_solver.specs.Decided.{IsLeft, AreDecided}
use Rattle.clause_solver.specs.Greatest.{IsBest, IsSatisfied, unfenced, kind_at, best_by}
use Rattle.clause_solver.specs.Linked.{AreLinked}
use Rattle.clause_solver.specs.Variables.{var_at, Fits, AllFit, Earlier, Ordered, OnlyDir, IsLinkPlace, aimed, is_node}
use Rattle.clause_solver.proofs.Deciding.{left_iff, has_entry_same, filled_same}
use Rattle.clause_solver.proofs.Links.{same_linked}
use Rattle.clause_solver.proofs.Names.{nat_cases}

module _ (vars : List Variable) (x : ℕ) (b : List ℕ) (inside : x < length vars) where
  abbrev here_now : Variable
  here_now = record (var_at vars x) { target = Some b }

  -- the definition and the other facts stay
  pub aimed_definition : (i : ℕ) → (var_at (aimed vars x b) i).definition ≡ (var_at vars i).definition
  aimed_definition i = elim (nat_cases i x) [
    | inl e ↦ rw (e, get_or-set_same) refl
    | inr n ↦ rw get_or-set_other refl
  ]

  pub aimed_fence : (i : ℕ) → (var_at (aimed vars x b) i).fence ≡ (var_at vars i).fence
  aimed_fence i = elim (nat_cases i x) [
    | inl e ↦ rw (e, get_or-set_same) refl
    | inr n ↦ rw get_or-set_other refl
  ]

  pub aimed_kinds : (i : ℕ) → (var_at (aimed vars x b) i).kinds ≡ (var_at vars i).kinds
  aimed_kinds i = elim (nat_cases i x) [
    | inl e ↦ rw (e, get_or-set_same) refl
    | inr n ↦ rw get_or-set_other refl
  ]

  pub aimed_filled : (i : ℕ) → (var_at (aimed vars x b) i).not_empty ≡ (var_at vars i).not_empty
  aimed_filled i = elim (nat_cases i x) [
    | inl e ↦ rw (e, get_or-set_same) refl
    | inr n ↦ rw get_or-set_other refl
  ]

  pub aimed_fits : (var_at vars x).target ≡ None → (g : Valuation) → AllFit (aimed vars x b) g → AllFit vars g × (value_of_variable g x ≡ value.Link b)
  aimed_fits none g h =
      let longer : x < length (aimed vars x b) = rw length-set inside in
      let here : Fits g x here_now = rw get_or-set_same at (h x longer) in (
        λ i w. elim (nat_cases i x) [
          | inl e ↦ rw e (record { is = here.is; kind = here.kind; fenced = here.fenced; filled = here.filled; aimed = λ a t. let bad : None ≡ Some a = sym none ∙ t in absurd (cc) })
          | inr n ↦ let w' : i < length (aimed vars x b) = rw length-set w in rw get_or-set_other at (h i w')
        ],
        here.aimed b refl,
      )

  pub fits_aimed : (g : Valuation) → AllFit vars g → value_of_variable g x ≡ value.Link b → AllFit (aimed vars x b) g
  fits_aimed g h link i w' =
      let w : i < length vars = rw length-set at w' in
      elim (nat_cases i x) [
        | inl e ↦ let here = h x inside in rw e (rw get_or-set_same (record { is = here.is; kind = here.kind; fenced = here.fenced; filled = here.filled; aimed = λ a t. link ∙ ap value.Link (let same : b ≡ a = cc in same) }))
        | inr n ↦ rw get_or-set_other (h i w)
      ]

  pub aimed_only : (i : ℕ) → OnlyDir vars i → OnlyDir (aimed vars x b) i
  aimed_only i h q w = h q (rw aimed_kinds at w)

  earlier_by : (i : ℕ) (d : Definition) → Earlier vars i d → Earlier (aimed vars x b) i d
  earlier_by i Start q = q
  earlier_by i (Child p f) q = (q.0, rw (aimed_definition p) q.1, q.2)
  earlier_by i (Derived a f c) q = q
  earlier_by i (Ensured a) q = q
  earlier_by i (Made m) q = q

  place_still : (i : ℕ) → IsLinkPlace (var_at vars i) → IsLinkPlace (var_at (aimed vars x b) i)
  place_still i place = (ap is_node (aimed_definition i) ∙ place.0, λ q h. place.1 q (rw aimed_kinds at h))

  pub aimed_order : IsLinkPlace (var_at vars x) → Ordered vars → Ordered (aimed vars x b)
  aimed_order here order = record {
    some = rw length-set order.some;
    first = aimed_definition 0 ∙ order.first;
    earlier = λ i w. rw (aimed_definition i) (earlier_by i (var_at vars i).definition (order.earlier i (rw length-set at w)));
    single = λ i j p f h w at_i at_j. order.single i j p f h (rw length-set at w) (sym (aimed_definition i) ∙ at_i) (sym (aimed_definition j) ∙ at_j);
    known = λ i names f w fence listed.
        let m = order.known i names f (rw length-set at w) (sym (aimed_fence i) ∙ fence) listed in
        (m.0, rw length-set m.1, aimed_definition m.0 ∙ m.2);
    nodes = λ i w node. aimed_fence i ∙ order.nodes i (rw length-set at w) (ap is_node (sym (aimed_definition i)) ∙ node);
    aims = λ i a w t. elim (nat_cases i x) [
      | inl e ↦ place_still i (rw e here)
      | inr n ↦ place_still i (order.aims i a (rw length-set at w) (rw get_or-set_other at t))
    ];
  }

  by_same : (best : List Kind) (ks : Kinds) (d : Definition) → best_by vars best ks d ≡ best_by (aimed vars x b) best ks d
  by_same best ks Start = refl
  by_same best ks (Child p f) = rw (aimed_fence p) refl
  by_same best ks (Derived a f c) = refl
  by_same best ks (Ensured a) = refl
  by_same best ks (Made m) = refl

  -- the greatest kinds stay
  aimed_best : (best : List Kind) → IsBest vars best → IsBest (aimed vars x b) best
  aimed_best best is i w =
      let w' : i < length vars = rw length-set at w in
      rw (aimed_definition i, aimed_kinds i) (is i w' ∙ by_same best (var_at vars i).kinds (var_at vars i).definition)

  aimed_linked : (kin : List Kin) → AreLinked vars kin → AreLinked (aimed vars x b) kin
  aimed_linked kin linked = same_linked vars (aimed vars x b) kin (length-set vars x _) aimed_definition linked

  -- so does what they satisfy
  aimed_satisfied : (best : List Kind) → IsSatisfied vars best (unfenced vars) → IsSatisfied (aimed vars x b) best (unfenced (aimed vars x b))
  aimed_satisfied best f i w' =
      let w : i < length vars = rw length-set at w' in
      record {
        fits = ap (λ ks. has ks (kind_at best i)) (aimed_kinds i) ∙ (f i w).fits;
        filled = λ t. has_entry_same vars (aimed vars x b) best (length-set vars x _) aimed_definition aimed_fence ((f i w).filled (sym (aimed_filled i) ∙ t));
      }

  satisfied_before : (best : List Kind) → IsSatisfied (aimed vars x b) best (unfenced (aimed vars x b)) → IsSatisfied vars best (unfenced vars)
  satisfied_before best f i w =
      let w' : i < length (aimed vars x b) = rw length-set w in
      record {
        fits = ap (λ ks. has ks (kind_at best i)) (sym (aimed_kinds i)) ∙ (f i w').fits;
        filled = λ t. has_entry_same (aimed vars x b) vars best (sym (length-set vars x _)) (λ j. sym (aimed_definition j)) (λ j. sym (aimed_fence j)) ((f i w').filled (aimed_filled i ∙ t));
      }

  -- a place that can be nothing but a link has any target
  aimed_left : (best : List Kind) → length vars ≤ MOST_VARIABLES → IsLinkPlace (var_at vars x) → Ordered vars → IsBest vars best → IsLeft vars ↔ IsLeft (aimed vars x b)
  aimed_left best small place order is =
      let old = left_iff vars best small order is in
      let new = left_iff (aimed vars x b) best (rw length-set small) (aimed_order place order) (aimed_best best is) in
      (λ g. new.0 (aimed_satisfied best (old.1 g)), λ g. old.0 (satisfied_before best (new.1 g)))

pub aimed_decided : (a c : Lists) (x : ℕ) (b : List ℕ) → AreDecided a → x < length a.vars → IsLinkPlace (var_at a.vars x) → c.vars ≡ aimed a.vars x b → c.best ≡ a.best → c.kin ≡ a.kin → c.filled ≡ a.filled → c.alive ≡ a.alive → AreDecided c
aimed_decided a c x b d inside place vars kinds kin numbers live =
    let left = aimed_left a.vars x b inside a.best d.small place d.order d.best in
    record {
      order = rw vars (aimed_order a.vars x b inside place d.order);
      same = rw (vars, kinds) (d.same ∙ sym (length-set a.vars x _));
      best = rw (vars, kinds) (aimed_best a.vars x b inside a.best d.best);
      linked = rw (vars, kin) (aimed_linked a.vars x b inside a.kin d.linked);
      small = rw (vars, length-set) d.small;
      filled = rw (vars, numbers) (filled_same a.vars (aimed a.vars x b) a.filled (length-set a.vars x _) (aimed_filled a.vars x b inside) d.filled);
      alive = rw (vars, live) (λ t. left.0 (d.alive.0 t), λ g. d.alive.1 (left.1 g));
    }

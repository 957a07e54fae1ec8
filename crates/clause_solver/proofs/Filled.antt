-- What is left where a variable has to have an entry.
use Rattle.std.proofs.Common.{◌≡◌, ℕ, ◌<◌, ◌↔◌, inl, inr, true, List, length, refl, sym, ap, ◌∙◌, length-set, get_or-set_other, get_or-set_same}
use Rattle.feature_trees.specs.declared.kind.Kind.{Kind}
use Rattle.feature_trees.specs.declared.kind.Kinds.{Kinds}
use Rattle.clause_solver.specs.declared.kin.Kin.{Kin}
use Rattle.feature_trees.specs.declared.value.Value.{Value}
use Rattle.clause_solver.specs.declared.variable.Definition.{Definition}
use Rattle.clause_solver.specs.declared.variable.Definition.TheVariants.{Start, Child, Derived, Ensured, Made}
use Rattle.clause_solver.specs.declared.variable.Variable.{Variable}
use Rattle.tree_clauses.specs.Literals.{Valuation, value_of_variable}
use Rattle.clause_solver.specs.Stands.{Stands, HasSome}
use Rattle.clause_solver.specs.Greatest.{IsBest, best_by}
use Rattle.clause_solver.specs.Linked.{AreLinked}
use Rattle.clause_solver.specs.Variables.{var_at, Fits, AllFit, Earlier, Ordered, AlwaysDir, OnlyDir, filled, is_node}
use Rattle.clause_solver.proofs.Names.{nat_cases}
use Rattle.clause_solver.proofs.Pairs.{fits_from, fits_to}
use Rattle.clause_solver.proofs.OneMore.{seen_of}
use Rattle.clause_solver.proofs.Links.{same_linked}

module _ (vars : List Variable) (x : ℕ) (inside : x < length vars) where
  abbrev here_now : Variable
  here_now = record (var_at vars x) { not_empty = true }

  pub filled_definition : (i : ℕ) → (var_at (filled vars x) i).definition ≡ (var_at vars i).definition
  filled_definition i = elim (nat_cases i x) [
    | inl e ↦ rw (e, get_or-set_same) refl
    | inr n ↦ rw get_or-set_other refl
  ]

  pub filled_fence : (i : ℕ) → (var_at (filled vars x) i).fence ≡ (var_at vars i).fence
  filled_fence i = elim (nat_cases i x) [
    | inl e ↦ rw (e, get_or-set_same) refl
    | inr n ↦ rw get_or-set_other refl
  ]

  pub filled_kinds : (i : ℕ) → (var_at (filled vars x) i).kinds ≡ (var_at vars i).kinds
  filled_kinds i = elim (nat_cases i x) [
    | inl e ↦ rw (e, get_or-set_same) refl
    | inr n ↦ rw get_or-set_other refl
  ]

  filled_target : (i : ℕ) → (var_at (filled vars x) i).target ≡ (var_at vars i).target
  filled_target i = elim (nat_cases i x) [
    | inl e ↦ rw (e, get_or-set_same) refl
    | inr n ↦ rw get_or-set_other refl
  ]

  pub filled_fits : (g : Valuation) → AllFit (filled vars x) g → AllFit vars g × HasSome (value_of_variable g x)
  filled_fits g h =
      let longer : x < length (filled vars x) = rw length-set inside in
      let here : Fits g x here_now = rw get_or-set_same at (h x longer) in (
        λ i w. elim (nat_cases i x) [
          | inl e ↦ rw e (record { is = here.is; kind = here.kind; fenced = here.fenced; filled = λ t. here.filled refl; aimed = here.aimed })
          | inr n ↦ let w' : i < length (filled vars x) = rw length-set w in rw get_or-set_other at (h i w')
        ],
        here.filled refl,
      )

  pub fits_filled : (g : Valuation) → AllFit vars g → HasSome (value_of_variable g x) → AllFit (filled vars x) g
  fits_filled g h some i w' =
      let w : i < length vars = rw length-set at w' in
      elim (nat_cases i x) [
        | inl e ↦ let here = h x inside in rw e (rw get_or-set_same (record { is = here.is; kind = here.kind; fenced = here.fenced; filled = λ t. some; aimed = here.aimed }))
        | inr n ↦ rw get_or-set_other (h i w)
      ]

  pub filled_only : (i : ℕ) → OnlyDir vars i → OnlyDir (filled vars x) i
  filled_only i h q w = h q (rw filled_kinds at w)

  pub filled_always : (i : ℕ) → AlwaysDir vars i → AlwaysDir (filled vars x) i
  filled_always i h g l s f = h g (rw length-set at l) s (filled_fits g f).0

  earlier_by : (i : ℕ) (d : Definition) → Earlier vars i d → Earlier (filled vars x) i d
  earlier_by i Start q = q
  earlier_by i (Child p f) q = (q.0, rw (filled_definition p) q.1, q.2)
  earlier_by i (Derived a f b) q = q
  earlier_by i (Ensured a) q = q
  earlier_by i (Made m) q = q

  pub filled_order : Ordered vars → Ordered (filled vars x)
  filled_order order = record {
    some = rw length-set order.some;
    first = filled_definition 0 ∙ order.first;
    earlier = λ i w. rw (filled_definition i) (earlier_by i (var_at vars i).definition (order.earlier i (rw length-set at w)));
    single = λ i j p f h w at_i at_j. order.single i j p f h (rw length-set at w) (sym (filled_definition i) ∙ at_i) (sym (filled_definition j) ∙ at_j);
    known = λ i names f w fence listed.
        let m = order.known i names f (rw length-set at w) (sym (filled_fence i) ∙ fence) listed in
        (m.0, rw length-set m.1, filled_definition m.0 ∙ m.2);
    nodes = λ i w node. filled_fence i ∙ order.nodes i (rw length-set at w) (ap is_node (sym (filled_definition i)) ∙ node);
    aims = λ i b w t.
        let place = order.aims i b (rw length-set at w) (sym (filled_target i) ∙ t) in
        (ap is_node (filled_definition i) ∙ place.0, λ q h. place.1 q (rw filled_kinds at h));
  }

  pub filled_exact : (now : ℕ) → Ordered vars → (t : Value) (g : Valuation) → Stands (seen_of (filled vars x) now) t g ↔ (Stands (seen_of vars now) t g × HasSome (value_of_variable g x))
  filled_exact now order t g = (
    λ h.
        let parts = filled_fits g (fits_from (filled vars x) g (filled_order order) h.values h.met) in
        (record { counted = rw length-set at h.counted; starts = h.starts; tree = h.tree; ends = h.ends; met = fits_to vars g h.values parts.0; values = h.values }, parts.1),
    λ (h, fit).
        record { counted = rw length-set h.counted; starts = h.starts; tree = h.tree; ends = h.ends; met = fits_to (filled vars x) g h.values (fits_filled g (fits_from vars g order h.values h.met) fit); values = h.values },
  )

  by_same : (best : List Kind) (ks : Kinds) (d : Definition) → best_by vars best ks d ≡ best_by (filled vars x) best ks d
  by_same best ks Start = refl
  by_same best ks (Child p f) = rw (filled_fence p) refl
  by_same best ks (Derived a f b) = refl
  by_same best ks (Ensured a) = refl
  by_same best ks (Made m) = refl

  -- the greatest kinds stay
  pub filled_best : (best : List Kind) → IsBest vars best → IsBest (filled vars x) best
  filled_best best is i w =
      let w' : i < length vars = rw length-set at w in
      rw (filled_definition i, filled_kinds i) (is i w' ∙ by_same best (var_at vars i).kinds (var_at vars i).definition)

  pub filled_linked : (kin : List Kin) → AreLinked vars kin → AreLinked (filled vars x) kin
  filled_linked kin linked = same_linked vars (filled vars x) kin (length-set vars x _) filled_definition linked

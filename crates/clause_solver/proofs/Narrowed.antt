-- What narrowing leaves.
use Rattle.std.proofs.Common.{◌≡◌, ℕ, ◌<◌, ◌↔◌, inl, inr, IsTrue, Bool, true, false, if◌then◌else◌, subst, List, length, refl, sym, ap, ◌∙◌, length-set, get_or-set_other, get_or-set_same, set}
use Rattle.feature_trees.specs.declared.kind.Kind.{Kind}
use Rattle.feature_trees.specs.declared.kind.Kinds.{Kinds}
use Rattle.feature_trees.specs.declared.value.Value.{Value}
use Rattle.feature_trees.specs.Kinds.{has, both}
use Rattle.feature_trees.specs.Tree.{kind_of}
use Rattle.clause_solver.specs.declared.variable.Definition.{Definition}
use Rattle.clause_solver.specs.declared.variable.Definition.TheVariants.{Start, Child, Derived, Ensured, Made}
use Rattle.clause_solver.specs.declared.variable.Variable.{Variable}
use Rattle.tree_clauses.specs.Literals.{Valuation, value_of_variable}
use Rattle.clause_solver.specs.Stands.{Stands}
use Rattle.clause_solver.specs.Variables.{no_variable, var_at, defined, Fits, AllFit, Earlier, Ordered, AlwaysDir, OnlyDir, fixed_in, narrowed_kinds, narrowed, is_node}
use Rattle.clause_solver.proofs.Names.{nat_cases}
use Rattle.std.proofs.lemmas.Bool.{and_parts, and_from}
use Rattle.std.proofs.lemmas.List.{set-get_or}
use Rattle.tree_clauses.proofs.KindSets.{has_both}
use Rattle.clause_solver.proofs.Pairs.{fits_from, fits_to}
use Rattle.clause_solver.proofs.OneMore.{seen_of}

-- a fixed kind is that of the defined value
fixed_fits : (g : Valuation) (d : Definition) (k : Kinds) → fixed_in d k ≡ true → IsTrue (has k (kind_of (defined g d)))
fixed_fits g Start k e = absurd (cc e)
fixed_fits g (Child p f) k e = absurd (cc e)
fixed_fits g (Derived a f b) k e = e
fixed_fits g (Ensured a) k e = e
fixed_fits g (Made m) k e = e

-- a kind of the narrowed set
kinds_by : (fixed : Bool) (ks k : Kinds) (q : Kind) → (fixed ≡ true → IsTrue (has k q)) → IsTrue (has (if fixed then ks else both ks k) q) → IsTrue (has ks q) × IsTrue (has k q)
kinds_by true ks k q f h = (h, f refl)
kinds_by false ks k q f h = and_parts (has ks q) (has k q) (rw has_both at h)

kinds_to : (fixed : Bool) (ks k : Kinds) (q : Kind) → IsTrue (has ks q) → IsTrue (has k q) → IsTrue (has (if fixed then ks else both ks k) q)
kinds_to true ks k q h i = h
kinds_to false ks k q h i = rw has_both (and_from (has ks q) (has k q) h i)

kinds_only : (fixed : Bool) (ks k : Kinds) (q : Kind) → IsTrue (has (if fixed then ks else both ks k) q) → IsTrue (has ks q)
kinds_only true ks k q h = h
kinds_only false ks k q h = (and_parts (has ks q) (has k q) (rw has_both at h)).0

module _ (vars : List Variable) (x : ℕ) (k : Kinds) (inside : x < length vars) where
  abbrev pub here_now : Variable
  here_now = record (var_at vars x) { kinds = narrowed_kinds (var_at vars x) k }

  -- the definition and the other facts stay
  pub narrowed_definition : (i : ℕ) → (var_at (narrowed vars x k) i).definition ≡ (var_at vars i).definition
  narrowed_definition i = elim (nat_cases i x) [
    | inl e ↦ rw (e, get_or-set_same) refl
    | inr n ↦ rw get_or-set_other refl
  ]

  pub narrowed_fence : (i : ℕ) → (var_at (narrowed vars x k) i).fence ≡ (var_at vars i).fence
  narrowed_fence i = elim (nat_cases i x) [
    | inl e ↦ rw (e, get_or-set_same) refl
    | inr n ↦ rw get_or-set_other refl
  ]

  pub narrowed_target : (i : ℕ) → (var_at (narrowed vars x k) i).target ≡ (var_at vars i).target
  narrowed_target i = elim (nat_cases i x) [
    | inl e ↦ rw (e, get_or-set_same) refl
    | inr n ↦ rw get_or-set_other refl
  ]

  pub narrowed_has : (i : ℕ) (q : Kind) → IsTrue (has (var_at (narrowed vars x k) i).kinds q) → IsTrue (has (var_at vars i).kinds q)
  narrowed_has i q h = elim (nat_cases i x) [
    | inl e ↦ rw e (kinds_only (fixed_in (var_at vars x).definition k) (var_at vars x).kinds k q (rw (e, get_or-set_same) at h))
    | inr n ↦ rw get_or-set_other at h
  ]

  pub narrowed_fits : (g : Valuation) → AllFit (narrowed vars x k) g → AllFit vars g × IsTrue (has k (kind_of (value_of_variable g x)))
  narrowed_fits g h =
      let longer : x < length (narrowed vars x k) = rw length-set inside in
      let here : Fits g x here_now = rw get_or-set_same at (h x longer) in
      let fixed : fixed_in (var_at vars x).definition k ≡ true → IsTrue (has k (kind_of (value_of_variable g x))) = λ e. subst (λ v. IsTrue (has k (kind_of v))) (sym here.is) (fixed_fits g (var_at vars x).definition k e) in
      let parts = kinds_by (fixed_in (var_at vars x).definition k) (var_at vars x).kinds k (kind_of (value_of_variable g x)) fixed here.kind in (
        λ i w. elim (nat_cases i x) [
          | inl e ↦ rw e (record { is = here.is; kind = parts.0; fenced = here.fenced; filled = here.filled; aimed = here.aimed })
          | inr n ↦ let w' : i < length (narrowed vars x k) = rw length-set w in rw get_or-set_other at (h i w')
        ],
        parts.1,
      )

  pub fits_narrowed : (g : Valuation) → AllFit vars g → IsTrue (has k (kind_of (value_of_variable g x))) → AllFit (narrowed vars x k) g
  fits_narrowed g h fit i w' =
      let w : i < length vars = rw length-set at w' in
      elim (nat_cases i x) [
        | inl e ↦
            let here = h x inside in
            rw e (rw get_or-set_same (record { is = here.is; kind = kinds_to (fixed_in (var_at vars x).definition k) (var_at vars x).kinds k (kind_of (value_of_variable g x)) here.kind fit; fenced = here.fenced; filled = here.filled; aimed = here.aimed }))
        | inr n ↦ rw get_or-set_other (h i w)
      ]

  pub narrowed_only : (i : ℕ) → OnlyDir vars i → OnlyDir (narrowed vars x k) i
  narrowed_only i h q w = h q (narrowed_has i q w)

  pub narrowed_always : (i : ℕ) → AlwaysDir vars i → AlwaysDir (narrowed vars x k) i
  narrowed_always i h g l s f = h g (rw length-set at l) s (narrowed_fits g f).0

  -- kinds that the variable has already leave all as it is
  pub narrowed_same : narrowed_kinds (var_at vars x) k ≡ (var_at vars x).kinds → narrowed vars x k ≡ vars
  narrowed_same e = ap (λ ks. set vars x (record (var_at vars x) { kinds = ks })) e ∙ set-get_or vars x no_variable

  earlier_by : (i : ℕ) (d : Definition) → Earlier vars i d → Earlier (narrowed vars x k) i d
  earlier_by i Start q = q
  earlier_by i (Child p f) q = (q.0, rw (narrowed_definition p) q.1, q.2)
  earlier_by i (Derived a f b) q = q
  earlier_by i (Ensured a) q = q
  earlier_by i (Made m) q = q

  pub narrowed_order : Ordered vars → Ordered (narrowed vars x k)
  narrowed_order order = record {
    some = rw length-set order.some;
    first = narrowed_definition 0 ∙ order.first;
    earlier = λ i w. rw (narrowed_definition i) (earlier_by i (var_at vars i).definition (order.earlier i (rw length-set at w)));
    single = λ i j p f h w at_i at_j. order.single i j p f h (rw length-set at w) (sym (narrowed_definition i) ∙ at_i) (sym (narrowed_definition j) ∙ at_j);
    known = λ i names f w fence listed.
        let m = order.known i names f (rw length-set at w) (sym (narrowed_fence i) ∙ fence) listed in
        (m.0, rw length-set m.1, narrowed_definition m.0 ∙ m.2);
    nodes = λ i w node. narrowed_fence i ∙ order.nodes i (rw length-set at w) (ap is_node (sym (narrowed_definition i)) ∙ node);
    aims = λ i b w t.
        let place = order.aims i b (rw length-set at w) (sym (narrowed_target i) ∙ t) in
        (ap is_node (narrowed_definition i) ∙ place.0, λ q h. place.1 q (narrowed_has i q h));
  }

  pub narrowed_exact : (now : ℕ) → Ordered vars → (t : Value) (g : Valuation) → Stands (seen_of (narrowed vars x k) now) t g ↔ (Stands (seen_of vars now) t g × IsTrue (has k (kind_of (value_of_variable g x))))
  narrowed_exact now order t g = (
    λ h.
        let parts = narrowed_fits g (fits_from (narrowed vars x k) g (narrowed_order order) h.values h.met) in
        (record { counted = rw length-set at h.counted; starts = h.starts; tree = h.tree; ends = h.ends; met = fits_to vars g h.values parts.0; values = h.values }, parts.1),
    λ (h, fit).
        record { counted = rw length-set h.counted; starts = h.starts; tree = h.tree; ends = h.ends; met = fits_to (narrowed vars x k) g h.values (fits_narrowed g (fits_from vars g order h.values h.met) fit); values = h.values },
  )

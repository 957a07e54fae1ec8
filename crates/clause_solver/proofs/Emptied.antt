-- That a variable has no entry outside a fence, along the definitions.
use Rattle.std.proofs.Common.{◌≡◌, ◌≢◌, ℕ, ◌<◌, ◌⊎◌, inl, inr, IsTrue, Bool, true, false, if◌then◌else◌, List, [], ◌∷◌, ◌++◌, length, refl, sym, ap, ◌∙◌, arith, length-set, subst}
use Rattle.feature_trees.specs.declared.kind.Kind.TheVariants as kind
use Rattle.feature_trees.specs.declared.value.Value.TheVariants as value
use Rattle.feature_trees.specs.Kinds.{has, of as of'}
use Rattle.feature_trees.specs.Tree.{entry, kind_of}
use Rattle.tree_clauses.specs.Literals.{Valuation, value_of_variable, IsSound}
use Rattle.tree_clauses.proofs.Values.{absent_kind, entry_is, derived_same, derived_other}
use Rattle.clause_solver.specs.declared.variable.MadeValue.{MadeValue}
use Rattle.clause_solver.specs.declared.variable.MadeValue.TheVariants as made
use Rattle.clause_solver.specs.declared.variable.Definition.TheVariants.{Derived, Ensured, Made}
use Rattle.clause_solver.specs.declared.variable.Variable.{Variable}
use Rattle.clause_solver.specs.Variables.{var_at, Listed, member, defined, made_value, narrowed, AllFit, Ordered}
use Rattle.clause_solver.specs.Emptied.{IsNarrower, ComesTo, IsEmptied, vars_past, names_past}
use Rattle.clause_solver.proofs.Names.{name_cases, listed_from_member, member_from_listed}
use Rattle.tree_clauses.proofs.KindSets.{of_absent}
use Rattle.clause_solver.proofs.Pairs.{sound_at}
use Rattle.clause_solver.proofs.Narrowed.{narrowed_definition, narrowed_has, narrowed_fits, fits_narrowed, narrowed_order}

pub listed_more : (h f : List ℕ) (names : List (List ℕ)) → Listed h names → Listed h (names ++ f ∷ [])
listed_more h f [] l = absurd l
listed_more h f (n ∷ ns) l = elim l [ inl e ↦ inl e | inr r ↦ inr (listed_more h f ns r) ]

pub listed_last : (f : List ℕ) (names : List (List ℕ)) → Listed f (names ++ f ∷ [])
listed_last f [] = inl refl
listed_last f (n ∷ ns) = inr (listed_last f ns)

pub listed_split : (h f : List ℕ) (names : List (List ℕ)) → Listed h (names ++ f ∷ []) → Listed h names ⊎ (h ≡ f)
listed_split h f [] l = elim l [ inl e ↦ inr e | inr r ↦ absurd r ]
listed_split h f (n ∷ ns) l = elim l [
  | inl e ↦ inl (inl e)
  | inr r ↦ elim (listed_split h f ns r) [ inl a ↦ inl (inr a) | inr e ↦ inr e ]
]

pub narrower_itself : (vars : List Variable) → Ordered vars → IsNarrower vars vars
narrower_itself vars order = record {
  long = refl;
  order = order;
  definition = λ i. refl;
  fits = λ g h. h;
  kinds = λ i k h. h;
}

pub comes_to_itself : (vars : List Variable) (x : ℕ) (fence : List (List ℕ)) → Ordered vars → x < length vars → ComesTo vars x fence vars x fence
comes_to_itself vars x fence order inside = record {
  narrower = narrower_itself vars order;
  inside = inside;
  there = λ g s fits none. (fits, none);
  back = λ g s fits none. none;
}

narrower_narrowed : (old vars : List Variable) (y : ℕ) → y < length vars → IsNarrower old vars → IsNarrower old (narrowed vars y (of' kind.Absent))
narrower_narrowed old vars y inside n = record {
  long = length-set vars y _ ∙ n.long;
  order = narrowed_order vars y (of' kind.Absent) inside n.order;
  definition = λ i. narrowed_definition vars y (of' kind.Absent) inside i ∙ n.definition i;
  fits = λ g h. n.fits g (narrowed_fits vars y (of' kind.Absent) inside g h).0;
  kinds = λ i k h. n.kinds i k (narrowed_has vars y (of' kind.Absent) inside i k h);
}

module _ (old : List Variable) (x : ℕ) (fence : List (List ℕ)) (vars : List Variable) (here : ℕ) (names : List (List ℕ)) (to : ComesTo old x fence vars here names) where
  -- the entries of another variable are the same, outside the names
  moved : (of : ℕ) → of < length vars → ((g : Valuation) (h : List ℕ) → IsSound g → AllFit vars g → ¬ (Listed h names) → entry (value_of_variable g here) h ≡ entry (value_of_variable g of) h) → ComesTo old x fence vars of names
  moved of inside same = record {
    narrower = to.narrower;
    inside = inside;
    there = λ g s fits none. let r = to.there g s fits none in (r.0, λ f out. sym (same g f s r.0 out) ∙ r.1 f out);
    back = λ g s fits none. to.back g s fits (λ f out. same g f s fits out ∙ none f out);
  }

  pub past_ensured : (of : ℕ) → (var_at vars here).definition ≡ Ensured of → ComesTo old x fence vars of names
  past_ensured of e =
      let before = rw e at (to.narrower.order.earlier here to.inside) in
      let inside = to.inside in
      moved of (omega (arith, before, inside)) (λ g h s fits out. ap (λ v. entry v h) ((fits here to.inside).is ∙ ap (defined g) e) ∙ entry_is (value_of_variable g of) h)

  made_none : (m : MadeValue) (h : List ℕ) → entry (made_value m) h ≡ value.Absent
  made_none made.Absent h = refl
  made_none made.Reg h = refl
  made_none (made.Link b) h = refl
  made_none made.Dir h = refl

  pub at_made : (m : MadeValue) → (var_at vars here).definition ≡ Made m → IsEmptied old x fence vars
  at_made m e = record {
    narrower = to.narrower;
    there = λ g s fits none. (to.there g s fits none).0;
    back = λ g s fits. to.back g s fits (λ f out. ap (λ v. entry v f) ((fits here to.inside).is ∙ ap (defined g) e) ∙ made_none m f);
  }

  module _ (of : ℕ) (f : List ℕ) (y : ℕ) (e : (var_at vars here).definition ≡ Derived of f y) where
    pub past_inside : (of < here) × (of < length vars) × (y < length vars)
    past_inside =
        let before = rw e at (to.narrower.order.earlier here to.inside) in
        let inside = to.inside in
        (before.0, omega (arith, before.0, inside), omega (arith, before.1, inside))

    same_other : (g : Valuation) (h : List ℕ) → IsSound g → AllFit vars g → f ≢ h → entry (value_of_variable g here) h ≡ entry (value_of_variable g of) h
    same_other g h s fits ne =
        ap (λ v. entry v h) ((fits here to.inside).is ∙ ap (defined g) e) ∙ derived_other (value_of_variable g of) (value_of_variable g y) f h (sound_at g s of) ne

    same_here : (g : Valuation) → IsSound g → AllFit vars g → entry (value_of_variable g here) f ≡ value_of_variable g y
    same_here g s fits =
        ap (λ v. entry v f) ((fits here to.inside).is ∙ ap (defined g) e) ∙ derived_same (value_of_variable g of) (value_of_variable g y) f (sound_at g s of)

    past_listed : Listed f names → ComesTo old x fence vars of names
    past_listed l = moved of past_inside.1 (λ g h s fits out. same_other g h s fits (λ q. out (subst (λ z. Listed z names) q l)))

    absent_fits : (g : Valuation) → value_of_variable g y ≡ value.Absent → IsTrue (has (of' kind.Absent) (kind_of (value_of_variable g y)))
    absent_fits g a = rw a refl

    past_new : ¬ (Listed f names) → ComesTo old x fence (narrowed vars y (of' kind.Absent)) of (names ++ f ∷ [])
    past_new new = record {
      narrower = narrower_narrowed old vars y past_inside.2 to.narrower;
      inside = rw length-set past_inside.1;
      there = λ g s fits none.
          let r = to.there g s fits none in
          let a = sym (same_here g s r.0) ∙ r.1 f new in (
            fits_narrowed vars y (of' kind.Absent) past_inside.2 g r.0 (absent_fits g a),
            λ h out. sym (same_other g h s r.0 (λ q. out (subst (λ z. Listed z (names ++ f ∷ [])) q (listed_last f names)))) ∙ r.1 h (λ l. out (listed_more h f names l)),
          );
      back = λ g s fits none.
          let parts = narrowed_fits vars y (of' kind.Absent) past_inside.2 g fits in
          let a : value_of_variable g y ≡ value.Absent = absent_kind (value_of_variable g y) (of_absent _ parts.1) in
          to.back g s parts.0 (λ h out. elim (name_cases f h) [
            | inl q ↦ subst (λ z. entry (value_of_variable g here) z ≡ value.Absent) q.0 (same_here g s parts.0 ∙ a)
            | inr ne ↦ same_other g h s parts.0 ne.0 ∙ none h (λ l. elim (listed_split h f names l) [ inl m ↦ out m | inr q ↦ ne.0 (sym q) ])
          ]);
    }

    past_by : (b : Bool) → member f names ≡ b → ComesTo old x fence (if b then vars else narrowed vars y (of' kind.Absent)) of (if b then names else (names ++ f ∷ []))
    past_by true m = past_listed (listed_from_member f names m)
    past_by false m = past_new (λ l. let t : member f names ≡ true = member_from_listed f names l in let bad : true ≡ false = sym t ∙ m in cc)

    pub past_derived : ComesTo old x fence (vars_past vars names f y) of (names_past names f)
    past_derived = past_by (member f names) refl

-- The literals of a store, variable by variable.
use Rattle.std.proofs.Common.{◌≡◌, ◌≢◌, ℕ, zero, suc, ◌+◌, ◌<◌, ◌≤◌, ◌⊎◌, inl, inr, Bool, true, false, IsTrue, Option, Some, None, List, [], ◌∷◌, ◌++◌, length, refl, sym, ap, ◌∙◌, arith}
use Rattle.std.proofs.lemmas.List.{get_or_past}
use Rattle.feature_trees.specs.declared.kind.Kinds.{Kinds}
use Rattle.feature_trees.specs.declared.value.Value.TheVariants as value
use Rattle.feature_trees.specs.Kinds.{has}
use Rattle.feature_trees.specs.Tree.{entry, kind_of}
use Rattle.feature_trees.specs.Sound.{sound}
use Rattle.tree_clauses.specs.declared.clause.Literal.{Literal}
use Rattle.clause_solver.specs.declared.variable.MadeValue.{MadeValue}
use Rattle.clause_solver.specs.declared.variable.MadeValue.TheVariants as made
use Rattle.clause_solver.specs.declared.variable.Definition.{Definition}
use Rattle.clause_solver.specs.declared.variable.Definition.TheVariants.{Start, Child, Derived, Ensured, Made}
use Rattle.clause_solver.specs.declared.variable.Variable.{Variable}
use Rattle.tree_clauses.specs.Literals.{Valuation, value_of_variable, MeetsAll, IsSound}
use Rattle.clause_solver.specs.Variables.{var_at, allowed, member, defined, made_value, Fits, AllFit, Earlier, Ordered}
use Rattle.tree_clauses.specs.declared.clause.Literal.TheVariants.{Kind as KindLiteral}
use Rattle.clause_solver.specs.Written.{var, made_literals, definition_literals, is_all, kinds_literals, fence_literals, filled_literals, target_literals, literals_of, literals_from}
use Rattle.clause_solver.proofs.Names.{bool_cases, listed_from_member, member_from_listed, listed_from_contains, contains_from_listed}
use Rattle.tree_clauses.proofs.KindSets.{of_absent, of_reg, of_dir}
use Rattle.clause_solver.proofs.GreatestKinds.{all_have}
use Rattle.tree_clauses.proofs.Values.{absent_or_not, absent_kind, reg_kind, derived_same, derived_other, derived_from, ensured_from, empty_from, entry_is}

below_or : (i n : ℕ) → (i < n) ⊎ (n ≤ i)
below_or i zero = inr (omega arith)
below_or zero (suc n) = inl (omega arith)
below_or (suc i) (suc n) = elim (below_or i n) [ inl a ↦ inl (omega arith) | inr b ↦ inr (omega arith) ]

-- each value of a sound valuation is sound, also where nothing stands
pub sound_at : (g : Valuation) → IsSound g → (i : ℕ) → IsTrue (sound (value_of_variable g i))
sound_at g s i = elim (below_or i (length g)) [
  | inl w ↦ s i value.Absent w
  | inr past ↦ rw (get_or_past g i value.Absent past) refl
]

meets_split : (g : Valuation) (xs ys : List Literal) → MeetsAll g (xs ++ ys) → MeetsAll g xs × MeetsAll g ys
meets_split g [] ys h = (tt, h)
meets_split g (x ∷ xs) ys h = let rest = meets_split g xs ys h.1 in ((h.0, rest.0), rest.1)

meets_join : (g : Valuation) (xs ys : List Literal) → MeetsAll g xs → MeetsAll g ys → MeetsAll g (xs ++ ys)
meets_join g [] ys h w = w
meets_join g (x ∷ xs) ys h w = (h.0, meets_join g xs ys h.1 w)

module _ (g : Valuation) (i : ℕ) where
  pub made_from : (m : MadeValue) → IsSound g → MeetsAll g (made_literals i m) → value_of_variable g i ≡ made_value m
  made_from made.Absent s h = absent_kind (value_of_variable g i) (of_absent _ h.0)
  made_from made.Reg s h = reg_kind (value_of_variable g i) (of_reg _ h.0)
  made_from (made.Link b) s h = h.0
  made_from made.Dir s h = empty_from (value_of_variable g i) (sound_at g s i) (of_dir _ h.0) h.1.0

  pub made_to : (m : MadeValue) → value_of_variable g i ≡ made_value m → MeetsAll g (made_literals i m)
  made_to made.Absent e = (rw e refl, tt)
  made_to made.Reg e = (rw e refl, tt)
  made_to (made.Link b) e = (e, tt)
  made_to made.Dir e = (rw e refl, (λ f out. ap (λ v. entry v f) e, tt))

  definition_from : (vars : List Variable) (d : Definition) → IsSound g → Earlier vars i d → MeetsAll g (definition_literals i d) → value_of_variable g i ≡ defined g d
  definition_from vars Start s before h = ap (value_of_variable g) before
  definition_from vars (Child p f) s before h = h.0
  definition_from vars (Derived x f y) s before h =
      derived_from (value_of_variable g i) (value_of_variable g x) (value_of_variable g y) f (sound_at g s i) (sound_at g s x) (sound_at g s y) before.2 h.0.0 h.0.1 h.1.0
  definition_from vars (Ensured x) s before h = ensured_from (value_of_variable g i) (value_of_variable g x) (sound_at g s i) (sound_at g s x) h.0.0 h.0.1
  definition_from vars (Made m) s before h = made_from m s h

  pub definition_to : (d : Definition) → IsSound g → value_of_variable g i ≡ defined g d → MeetsAll g (definition_literals i d)
  definition_to Start s e = tt
  definition_to (Child p f) s e = (e, tt)
  definition_to (Derived x f y) s e = (
    (
      ap kind_of e,
      λ h out. ap (λ v. entry v h) e ∙ derived_other (value_of_variable g x) (value_of_variable g y) f h (sound_at g s x) (λ q. out (contains_from_listed h (f ∷ []) (inl (sym q)))),
    ),
    (sym (ap (λ v. entry v f) e ∙ derived_same (value_of_variable g x) (value_of_variable g y) f (sound_at g s x)), tt),
  )
  definition_to (Ensured x) s e = ((ap kind_of e, λ h out. ap (λ v. entry v h) e ∙ entry_is (value_of_variable g x) h), tt)
  definition_to (Made m) s e = made_to m e

  kinds_from : (s : Kinds) → MeetsAll g (kinds_literals i s) → IsTrue (has s (kind_of (value_of_variable g i)))
  kinds_from s h = elim (bool_cases (is_all s)) [
    | inl t ↦ all_have s _ t
    | inr n ↦ let h' : MeetsAll g (KindLiteral (var i) s ∷ []) = rw n at h in h'.0
  ]

  kinds_to : (s : Kinds) → IsTrue (has s (kind_of (value_of_variable g i))) → MeetsAll g (kinds_literals i s)
  kinds_to s h = elim (bool_cases (is_all s)) [
    | inl t ↦ rw t tt
    | inr n ↦ rw n (h, tt)
  ]

  fence_from : (fence : Option (List (List ℕ))) → MeetsAll g (fence_literals i fence) → (f : List ℕ) → entry (value_of_variable g i) f ≢ value.Absent → IsTrue (allowed fence f)
  fence_from None h f some = refl
  fence_from (Some names) h f some = elim (bool_cases (member f names)) [
    | inl t ↦ t
    | inr n ↦ absurd (some (h.0 f (λ c. let t : member f names ≡ true = member_from_listed f names (listed_from_contains f names c) in let bad : true ≡ false = sym t ∙ n in cc)))
  ]

  fence_to : (fence : Option (List (List ℕ))) → ((f : List ℕ) → entry (value_of_variable g i) f ≢ value.Absent → IsTrue (allowed fence f)) → MeetsAll g (fence_literals i fence)
  fence_to None h = tt
  fence_to (Some names) h = (
    λ f out. elim (absent_or_not (entry (value_of_variable g i) f)) [
      | inl a ↦ a
      | inr some ↦ absurd (out (contains_from_listed f names (listed_from_member f names (h f some))))
    ],
    tt,
  )

  filled_from : (b : Bool) → MeetsAll g (filled_literals i b) → IsTrue b → (f : List ℕ) × (entry (value_of_variable g i) f ≢ value.Absent)
  filled_from false h t = cc
  filled_from true h t = h.0

  filled_to : (b : Bool) → (IsTrue b → (f : List ℕ) × (entry (value_of_variable g i) f ≢ value.Absent)) → MeetsAll g (filled_literals i b)
  filled_to false h = tt
  filled_to true h = (h refl, tt)

  target_from : (target : Option (List ℕ)) → MeetsAll g (target_literals i target) → (b : List ℕ) → target ≡ Some b → value_of_variable g i ≡ value.Link b
  target_from None h b e = cc
  target_from (Some a) h b e = h.0 ∙ ap value.Link (let same : a ≡ b = cc in same)

  target_to : (target : Option (List ℕ)) → ((b : List ℕ) → target ≡ Some b → value_of_variable g i ≡ value.Link b) → MeetsAll g (target_literals i target)
  target_to None h = tt
  target_to (Some a) h = (h a refl, tt)

  pub one_from : (vars : List Variable) (v : Variable) → IsSound g → Earlier vars i v.definition → MeetsAll g (literals_of i v) → Fits g i v
  one_from vars v s before h =
      let a = meets_split g (definition_literals i v.definition) _ h in
      let b = meets_split g (kinds_literals i v.kinds) _ a.1 in
      let c = meets_split g (fence_literals i v.fence) _ b.1 in
      let d = meets_split g (filled_literals i v.not_empty) _ c.1 in
      record {
        is = definition_from vars v.definition s before a.0;
        kind = kinds_from v.kinds b.0;
        fenced = fence_from v.fence c.0;
        filled = filled_from v.not_empty d.0;
        aimed = target_from v.target d.1;
      }

  pub one_to : (v : Variable) → IsSound g → Fits g i v → MeetsAll g (literals_of i v)
  one_to v s h =
      meets_join g (definition_literals i v.definition) _ (definition_to v.definition s h.is)
      (meets_join g (kinds_literals i v.kinds) _ (kinds_to v.kinds h.kind)
      (meets_join g (fence_literals i v.fence) _ (fence_to v.fence h.fenced)
      (meets_join g (filled_literals i v.not_empty) _ (filled_to v.not_empty h.filled) (target_to v.target h.aimed))))

all_from : (whole : List Variable) (g : Valuation) (k : ℕ) (vars : List Variable) → IsSound g → ((i : ℕ) → i < length vars → Earlier whole (k + i) (var_at vars i).definition) → MeetsAll g (literals_from k vars) → (i : ℕ) → i < length vars → Fits g (k + i) (var_at vars i)
all_from whole g k [] s before h i w = absurd (omega arith)
all_from whole g k (v ∷ vs) s before h zero w =
    let e : k + 0 ≡ k = omega arith in
    let first : Earlier whole k v.definition = rw e at (before 0 (omega arith)) in
    rw e (one_from g k whole v s first (meets_split g (literals_of k v) (literals_from (suc k) vs) h).0)
all_from whole g k (v ∷ vs) s before h (suc i) w =
    let e : k + suc i ≡ suc k + i = omega arith in
    rw e (all_from whole g (suc k) vs s (λ j b. let q : k + suc j ≡ suc k + j = omega arith in rw q at (before (suc j) (omega arith)))
    (meets_split g (literals_of k v) (literals_from (suc k) vs) h).1 i (omega arith))

all_to : (g : Valuation) (k : ℕ) (vars : List Variable) → IsSound g → ((i : ℕ) → i < length vars → Fits g (k + i) (var_at vars i)) → MeetsAll g (literals_from k vars)
all_to g k [] s h = tt
all_to g k (v ∷ vs) s h =
    let e : k + 0 ≡ k = omega arith in
    let first : Fits g k v = rw e at (h 0 (omega arith)) in
    meets_join g (literals_of k v) (literals_from (suc k) vs) (one_to g k v s first)
    (all_to g (suc k) vs s (λ i w. let shift : k + suc i ≡ suc k + i = omega arith in rw shift at (h (suc i) (omega arith))))

-- what the literals say is that every variable fits
pub fits_from : (vars : List Variable) (g : Valuation) → Ordered vars → IsSound g → MeetsAll g (literals_from 0 vars) → AllFit vars g
fits_from vars g order s h i w =
    let e : 0 + i ≡ i = omega arith in
    rw e at (all_from vars g 0 vars s (λ j b. let q : 0 + j ≡ j = omega arith in rw q (order.earlier j b)) h i w)

pub fits_to : (vars : List Variable) (g : Valuation) → IsSound g → AllFit vars g → MeetsAll g (literals_from 0 vars)
fits_to vars g s h = all_to g 0 vars s (λ i w. let e : 0 + i ≡ i = omega arith in rw e (h i w))

-- The tree of the greatest kinds, one value moved into its parent after another.
use Rattle.std.proofs.Common.{◌≡◌, ℕ, zero, suc, ◌+◌, ◌<◌, inl, inr, Bool, true, false, Option, nat_eq, List, [], ◌∷◌, ◌++◌, length, take, drop, refl, sym, ap, ◌∙◌, arith, length-set, get_or-set_other, get_or-set_same}
use Rattle.std.proofs.lemmas.List.{drop_more, drop_all, get_or-take, length-take-le, length-append}
use Rattle.std.proofs.Math.Seq.{get_or-append_seam, take-append_seam}
use Rattle.feature_trees.specs.declared.kind.Kind.{Kind}
use Rattle.feature_trees.specs.declared.kind.Kind.TheVariants as kind
use Rattle.feature_trees.specs.declared.value.Value.{Value}
use Rattle.feature_trees.specs.declared.value.Value.TheVariants.{Absent}
use Rattle.feature_trees.specs.declared.shape.Entry.{Entry}
use Rattle.feature_trees.specs.Tree.{update}
use Rattle.clause_solver.specs.declared.variable.Definition.{Definition}
use Rattle.clause_solver.specs.declared.variable.Definition.TheVariants.{Start, Child, Derived, Ensured, Made}
use Rattle.clause_solver.specs.declared.variable.Variable.{Variable}
use Rattle.tree_clauses.specs.Literals.{Valuation, value_of_variable}
use Rattle.clause_solver.specs.Variables.{no_variable, var_at}
use Rattle.clause_solver.specs.Greatest.{kind_at}
use Rattle.clause_solver.specs.Grown.{grown, add, children, extra, values}
use Rattle.clause_solver.specs.Opens.{opened, without_children}
use Rattle.clause_solver.specs.Builds.{IsBuilt, with_entry, moved_to_parent}
use Rattle.clause_solver.proofs.Names.{nat_cases, eq_cases, same_yes}
use Rattle.clause_solver.proofs.Grown.{values_length}

value_grown : (best : List Kind) (o : ℕ → Bool) (z : List ℕ) (k : ℕ) (vs : List Variable) (i : ℕ) → i < length vs → value_of_variable (values best o z k vs) i ≡ grown (kind_at best (k + i)) (var_at vs i).target (children (k + i) (drop (suc i) vs) (drop (suc i) (values best o z k vs)) (extra (o (k + i)) z))
value_grown best o z k [] i w = absurd (omega arith)
value_grown best o z k (v ∷ vs) zero w = let e : k + 0 ≡ k = omega arith in rw e refl
value_grown best o z k (v ∷ vs) (suc i) w = let e : k + suc i ≡ suc k + i = omega arith in rw e (value_grown best o z (suc k) vs i (omega arith))

-- the value of a variable from the ones after it
pub value_at : (best : List Kind) (o : ℕ → Bool) (z : List ℕ) (vs : List Variable) (n : ℕ) → n < length vs → value_of_variable (values best o z 0 vs) n ≡ grown (kind_at best n) (var_at vs n).target (children n (drop (n + 1) vs) (drop (n + 1) (values best o z 0 vs)) (extra (o n) z))
value_at best o z vs n w = let e : 0 + n ≡ n = omega arith in let e' : n + 1 ≡ suc n = omega arith in rw e' (rw e at (value_grown best o z 0 vs n w))

with_grown : (b : Kind) (target : Option (List ℕ)) (es : List Entry) (f : List ℕ) (t : Value) → with_entry (grown b target es) f t ≡ grown b target (update es f t)
with_grown kind.Absent target es f t = refl
with_grown kind.Reg target es f t = refl
with_grown kind.Link target es f t = refl
with_grown (kind.Special s) target es f t = refl
with_grown kind.Dir target es f t = refl

module _ (vars : List Variable) (best : List Kind) (marks : List Bool) (z : List ℕ) where
  abbrev all : Valuation
  all = values best (opened vars marks) z 0 vars

  pub without_children_built : (vs : Valuation) → length vs ≡ length vars → ((k : ℕ) → k < length vars → value_of_variable vs k ≡ without_children vars best marks z k) → IsBuilt vars best marks z (length vars) vs
  without_children_built vs counted each = record {
    counted = counted;
    each = λ k w. each k w ∙ rw (drop_all (length vars) vars (omega arith)) refl;
  }

  -- the last value is whole
  pub last_whole : (i : ℕ) (vs : Valuation) → i < length vars → IsBuilt vars best marks z (i + 1) vs → value_of_variable vs i ≡ value_of_variable all i
  last_whole i vs w h = h.each i (omega arith) ∙ sym (value_at best (opened vars marks) z vars i w)

  children_next : (i k : ℕ) (first : List Entry) → i < length vars → children k (drop i vars) (drop i all) first ≡ add k (var_at vars i).definition (value_of_variable all i) (children k (drop (i + 1) vars) (drop (i + 1) all) first)
  children_next i k first w =
      let w' : i < length all = rw (values_length best (opened vars marks) z 0 vars) w in
      rw (drop_more vars i no_variable w, drop_more all i Absent w') refl

  module _ (i : ℕ) (vs : Valuation) (v : Value) (w : i < length vars) (h : IsBuilt vars best marks z (i + 1) vs) (e : v ≡ value_of_variable vs i) where
    v_is : v ≡ value_of_variable all i
    v_is = e ∙ last_whole i vs w h

    rest_length : length (take i vs) ≡ i
    rest_length = length-take-le i vs (let c = h.counted in omega arith)

    old : (k : ℕ) → k < i → value_of_variable (take i vs) k ≡ grown (kind_at best k) (var_at vars k).target (children k (drop (i + 1) vars) (drop (i + 1) all) (extra (opened vars marks k) z))
    old k b = get_or-take i vs k Absent b ∙ h.each k (omega arith)

    same_by : (d : Definition) (k : ℕ) → k < i → (var_at vars i).definition ≡ d → ((es : List Entry) → add k d v es ≡ es) → value_of_variable (take i vs) k ≡ grown (kind_at best k) (var_at vars k).target (children k (drop i vars) (drop i all) (extra (opened vars marks k) z))
    same_by d k b q none =
        let first = extra (opened vars marks k) z in
        let es = children k (drop (i + 1) vars) (drop (i + 1) all) first in
        old k b ∙ ap (grown (kind_at best k) (var_at vars k).target) (sym (children_next i k first w ∙ ap (λ t. add k (var_at vars i).definition t es) (sym v_is) ∙ ap (λ x. add k x v es) q ∙ none es))

    each_by : (d : Definition) → (var_at vars i).definition ≡ d → (k : ℕ) → k < i → value_of_variable (moved_to_parent (take i vs) d v) k ≡ grown (kind_at best k) (var_at vars k).target (children k (drop i vars) (drop i all) (extra (opened vars marks k) z))
    each_by Start q k b = same_by Start k b q (λ es. refl)
    each_by (Child p f) q k b = elim (nat_cases k p) [
      | inl same ↦
          let p_in : p < length (take i vs) = rw rest_length (rw same at b) in
          let yes : nat_eq p k ≡ true = same_yes p k (sym same) in
          let here : value_of_variable (moved_to_parent (take i vs) (Child p f) v) k ≡ with_entry (value_of_variable (take i vs) p) f v = rw same (get_or-set_same (take i vs) p _ Absent p_in) in
          let first = extra (opened vars marks k) z in
          let es = children k (drop (i + 1) vars) (drop (i + 1) all) first in
          let added : add k (Child p f) v es ≡ update es f v = rw yes refl in
          here
          ∙ ap (λ u. with_entry u f v) (ap (value_of_variable (take i vs)) (sym same) ∙ old k b)
          ∙ with_grown (kind_at best k) (var_at vars k).target es f v
          ∙ ap (grown (kind_at best k) (var_at vars k).target) (sym (children_next i k first w ∙ ap (λ t. add k (var_at vars i).definition t es) (sym v_is) ∙ ap (λ x. add k x v es) q ∙ added))
      | inr ne ↦
          let no : nat_eq p k ≡ false = elim (eq_cases p k) [ inl a ↦ absurd (ne (sym a.0)) | inr a ↦ a.1 ] in
          let here : value_of_variable (moved_to_parent (take i vs) (Child p f) v) k ≡ value_of_variable (take i vs) k = get_or-set_other (take i vs) p k _ Absent ne in
          here ∙ same_by (Child p f) k b q (λ es. rw no refl)
    ]
    each_by (Derived x f y) q k b = same_by (Derived x f y) k b q (λ es. refl)
    each_by (Ensured x) q k b = same_by (Ensured x) k b q (λ es. refl)
    each_by (Made m) q k b = same_by (Made m) k b q (λ es. refl)

    counted_by : (d : Definition) → length (moved_to_parent (take i vs) d v) ≡ i
    counted_by Start = rest_length
    counted_by (Child p f) = length-set (take i vs) p _ ∙ rest_length
    counted_by (Derived x f y) = rest_length
    counted_by (Ensured x) = rest_length
    counted_by (Made m) = rest_length

    pub moved_to_parent_built : IsBuilt vars best marks z i (moved_to_parent (take i vs) (var_at vars i).definition v)
    moved_to_parent_built = record {
      counted = counted_by (var_at vars i).definition;
      each = each_by (var_at vars i).definition refl;
    }

-- one step of the building: the last value is taken off and moved into its parent
pub move_step : (vars : List Variable) (best : List Kind) (marks : List Bool) (z : List ℕ) (old new : Valuation) (v : Value) (i : ℕ) → old ≡ new ++ v ∷ [] → length new ≡ i → i < length vars → IsBuilt vars best marks z (length old) old → IsBuilt vars best marks z i (moved_to_parent new (var_at vars i).definition v)
move_step vars best marks z old new v i e l w h =
    let long : length old ≡ i + 1 = ap length e ∙ length-append new (v ∷ []) ∙ ap (λ n. n + 1) l in
    let h' : IsBuilt vars best marks z (i + 1) old = rw long at h in
    let rest : take i old ≡ new = ap (take i) e ∙ rw (sym l) (take-append_seam new (v ∷ [])) in
    let last : v ≡ value_of_variable old i = sym (ap (λ t. value_of_variable t i) e ∙ rw (sym l) (get_or-append_seam new v [] Absent)) in
    rw rest at (moved_to_parent_built vars best marks z i old v w h' last)

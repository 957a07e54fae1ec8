-- Where some valuation meets all, the greatest kinds are satisfied.
use Rattle.std.proofs.Common.{◌≡◌, ◌≢◌, ℕ, zero, suc, ◌<◌, inl, inr, ◌&&◌, true, false, IsTrue, Option, Some, None, List, [], ◌∷◌, length, refl, sym, ap, ◌∙◌, arith}
use Rattle.feature_trees.specs.declared.kind.Kind.{Kind}
use Rattle.feature_trees.specs.declared.kind.Kind.TheVariants.{Absent, Dir}
use Rattle.feature_trees.specs.declared.value.Value.{Value}
use Rattle.feature_trees.specs.declared.value.Value.TheVariants as value
use Rattle.feature_trees.specs.Kinds.{has}
use Rattle.feature_trees.specs.Tree.{entry, kind_of}
use Rattle.clause_solver.specs.declared.variable.MadeValue.{MadeValue}
use Rattle.clause_solver.specs.declared.variable.MadeValue.TheVariants as made
use Rattle.clause_solver.specs.declared.variable.Definition.{Definition}
use Rattle.clause_solver.specs.declared.variable.Definition.TheVariants.{Start, Child, Derived, Ensured, Made}
use Rattle.clause_solver.specs.declared.variable.Variable.{Variable}
use Rattle.tree_clauses.specs.Literals.{Valuation, value_of_variable, IsSound}
use Rattle.clause_solver.specs.Variables.{var_at, Listed, allowed, member, defined, made_value, AllFit, is_node, Ordered}
use Rattle.clause_solver.specs.Greatest.{kind_at, choose, is_dir, best_by, IsBest, unfenced, HasEntryOutside, free, child_present, here, below, kept, IsSatisfied}
use Rattle.clause_solver.proofs.Names.{name_cases, bool_cases}
use Rattle.clause_solver.proofs.GreatestKinds.{choose_in, choose_dir, choose_present}
use Rattle.tree_clauses.proofs.Values.{entry_of_dir, absent_or_not, present_kind, derived_same, derived_other, entry_is}
use Rattle.clause_solver.proofs.Pairs.{sound_at}

-- what a value shows is shown by the greatest kinds
record Shown (v : Value) (k : Kind) : Type 0 where
  as_dir : kind_of v ≡ Dir → k ≡ Dir
  as_some : v ≢ value.Absent → k ≢ Absent

made_entry : (m : MadeValue) (h : List ℕ) → entry (made_value m) h ≡ value.Absent
made_entry made.Absent h = refl
made_entry made.Reg h = refl
made_entry (made.Link b) h = refl
made_entry made.Dir h = refl

module _ (vars : List Variable) (best : List Kind) (g : Valuation) (order : Ordered vars) (is : IsBest vars best) (sounds : IsSound g) (fits : AllFit vars g) where
  chosen : (i : ℕ) → i < length vars → kind_at best i ≡ choose (var_at vars i).kinds → Shown (value_of_variable g i) (kind_at best i)
  chosen i w e =
      let fit = (fits i w).kind in
      record {
        as_dir = λ d. e ∙ choose_dir (var_at vars i).kinds (rw d at fit);
        as_some = λ p. rw e (choose_present (var_at vars i).kinds (kind_of (value_of_variable g i)) fit (present_kind (value_of_variable g i) p));
      }

  -- what the definition says of the value
  is_by : (i : ℕ) → i < length vars → (d : Definition) → (var_at vars i).definition ≡ d → value_of_variable g i ≡ defined g d
  is_by i w d e = (fits i w).is ∙ ap (defined g) e

  best_is : (i : ℕ) → i < length vars → (d : Definition) → (var_at vars i).definition ≡ d → kind_at best i ≡ best_by vars best (var_at vars i).kinds d
  best_is i w d e = is i w ∙ ap (best_by vars best (var_at vars i).kinds) e

  -- a value that is there stands below a directory, by an allowed name
  child_by : (i p : ℕ) (f : List ℕ) → p < length vars → value_of_variable g i ≡ entry (value_of_variable g p) f → value_of_variable g i ≢ value.Absent → Shown (value_of_variable g p) (kind_at best p) → (kind_at best p ≡ Dir) × IsTrue (allowed (var_at vars p).fence f)
  child_by i p f w e some up =
      let some' : entry (value_of_variable g p) f ≢ value.Absent = λ q. some (e ∙ q) in (
        elim (entry_of_dir (value_of_variable g p) f) [ inl d ↦ up.as_dir d | inr a ↦ absurd (some' a) ],
        (fits p w).fenced f some',
      )

  shown_by : (n : ℕ) → ((m : ℕ) → m < n → m < length vars → Shown (value_of_variable g m) (kind_at best m)) → (i : ℕ) → i < suc n → i < length vars → (d : Definition) → (var_at vars i).definition ≡ d → Shown (value_of_variable g i) (kind_at best i)
  shown_by n ih i h w Start e = chosen i w (best_is i w Start e)
  shown_by n ih i h w (Child p f) e =
      let before = rw e at (order.earlier i w) in
      let holds : value_of_variable g i ≡ entry (value_of_variable g p) f = is_by i w (Child p f) e in
      let at_child = best_is i w (Child p f) e in
      elim (absent_or_not (value_of_variable g i)) [
        | inl a ↦ record { as_dir = λ d. let q : Absent ≡ Dir = sym (ap kind_of a) ∙ d in cc; as_some = λ p. absurd (p a) }
        | inr some ↦
            let by = child_by i p f (omega (arith, before.0)) holds some (ih p (omega (arith, before.0)) (omega (arith, before.0))) in
            let yes : is_dir (kind_at best p) ≡ true = ap is_dir by.0 in
            let yes' : allowed (var_at vars p).fence f ≡ true = by.1 in
            chosen i w (at_child ∙ rw (yes, yes') refl)
      ]
  shown_by n ih i h w (Derived x f y) e =
      let top : kind_at best i ≡ Dir = best_is i w (Derived x f y) e in
      record { as_dir = λ d. top; as_some = λ p q. cc }
  shown_by n ih i h w (Ensured x) e =
      let top : kind_at best i ≡ Dir = best_is i w (Ensured x) e in
      record { as_dir = λ d. top; as_some = λ p q. cc }
  shown_by n ih i h w (Made k) e =
      let top : kind_at best i ≡ kind_of (made_value k) = best_is i w (Made k) e in
      let holds : kind_of (value_of_variable g i) ≡ kind_of (made_value k) = ap kind_of (is_by i w (Made k) e) in
      record { as_dir = λ d. top ∙ sym holds ∙ d; as_some = λ p q. present_kind (value_of_variable g i) p (holds ∙ sym top ∙ q) }

  shown_below : (n i : ℕ) → i < n → i < length vars → Shown (value_of_variable g i) (kind_at best i)
  shown_below zero i h w = absurd (omega arith)
  shown_below (suc n) i h w = shown_by n (shown_below n) i h w (var_at vars i).definition refl

  shown : (i : ℕ) → i < length vars → Shown (value_of_variable g i) (kind_at best i)
  shown i w = shown_below (suc i) i (omega arith) w

  pub shown_some : (i : ℕ) → i < length vars → value_of_variable g i ≢ value.Absent → kind_at best i ≢ Absent
  shown_some i w some = (shown i w).as_some some

  -- a definition with one kind
  fits_one : (i : ℕ) (k : Kind) → i < length vars → kind_at best i ≡ k → kind_of (value_of_variable g i) ≡ k → IsTrue (has (var_at vars i).kinds (kind_at best i))
  fits_one i k w b v = rw b (rw v at (fits i w).kind)

  fits_by : (i : ℕ) → i < length vars → (d : Definition) → (var_at vars i).definition ≡ d → IsTrue (has (var_at vars i).kinds (kind_at best i))
  fits_by i w Start e = rw (best_is i w Start e) (choose_in (var_at vars i).kinds (kind_of (value_of_variable g i)) (fits i w).kind)
  fits_by i w (Child p f) e =
      let before = rw e at (order.earlier i w) in
      let holds : value_of_variable g i ≡ entry (value_of_variable g p) f = is_by i w (Child p f) e in
      let at_child = best_is i w (Child p f) e in
      let p_known : p < length vars = omega (arith, before.0) in
      rw at_child (elim (bool_cases (is_dir (kind_at best p) && allowed (var_at vars p).fence f)) [
        | inl both ↦ rw both (choose_in (var_at vars i).kinds (kind_of (value_of_variable g i)) (fits i w).kind)
        | inr neither ↦
            rw neither (elim (absent_or_not (value_of_variable g i)) [
              | inl a ↦ rw a at (fits i w).kind
              | inr some ↦
                  let by = child_by i p f p_known holds some (shown p p_known) in
                  let yes : is_dir (kind_at best p) ≡ true = ap is_dir by.0 in
                  let yes' : allowed (var_at vars p).fence f ≡ true = by.1 in
                  let no' : (true && true) ≡ false = rw (yes, yes') at neither in
                  absurd (cc)
            ])
      ])
  fits_by i w (Derived x f y) e = fits_one i Dir w (best_is i w (Derived x f y) e) (ap kind_of (is_by i w (Derived x f y) e))
  fits_by i w (Ensured x) e = fits_one i Dir w (best_is i w (Ensured x) e) (ap kind_of (is_by i w (Ensured x) e))
  fits_by i w (Made k) e = fits_one i (kind_of (made_value k)) w (best_is i w (Made k) e) (ap kind_of (is_by i w (Made k) e))

  -- a place that has an entry outside the names has one among the greatest kinds
  node_has_entry : (i : ℕ) → i < length vars → IsTrue (is_node (var_at vars i).definition) → (ds : List (List ℕ)) (h : List ℕ) → ¬ (Listed h ds) → entry (value_of_variable g i) h ≢ value.Absent → (fence : Option (List (List ℕ))) → (var_at vars i).fence ≡ fence → HasEntryOutside vars best (unfenced vars) i ds
  node_has_entry i w node ds h out some None e =
      free node (elim (entry_of_dir (value_of_variable g i) h) [ inl d ↦ (shown i w).as_dir d | inr a ↦ absurd (some a) ]) (rw e refl)
  node_has_entry i w node ds h out some (Some names) e =
      let inside : IsTrue (member h names) = rw e at ((fits i w).fenced h some) in
      let m = order.known i names h w e inside in
      let at_m : value_of_variable g m.0 ≡ entry (value_of_variable g i) h = is_by m.0 m.1 (Child i h) m.2 in
      child_present m.0 h m.1 m.2 ((shown m.0 m.1).as_some (λ q. some (sym at_m ∙ q))) out

  has_entry_by : (n : ℕ) → ((m : ℕ) → m < n → m < length vars → (ds : List (List ℕ)) (h : List ℕ) → ¬ (Listed h ds) → entry (value_of_variable g m) h ≢ value.Absent → HasEntryOutside vars best (unfenced vars) m ds) → (i : ℕ) → i < suc n → i < length vars → (ds : List (List ℕ)) (h : List ℕ) → ¬ (Listed h ds) → entry (value_of_variable g i) h ≢ value.Absent → (d : Definition) → (var_at vars i).definition ≡ d → HasEntryOutside vars best (unfenced vars) i ds
  has_entry_by n ih i b w ds h out some Start e = node_has_entry i w (rw e refl) ds h out some (var_at vars i).fence refl
  has_entry_by n ih i b w ds h out some (Child p f) e = node_has_entry i w (rw e refl) ds h out some (var_at vars i).fence refl
  has_entry_by n ih i b w ds h out some (Derived x f y) e =
      let before = rw e at (order.earlier i w) in
      let at_i = is_by i w (Derived x f y) e in
      let vx = value_of_variable g x in
      let vy = value_of_variable g y in
      elim (name_cases f h) [
        | inl q ↦
            let at_y : entry (value_of_variable g i) h ≡ vy = ap (entry (value_of_variable g i)) (sym q.0) ∙ ap (λ v. entry v f) at_i ∙ derived_same vx vy f (sound_at g sounds x) in
            here x f y e ((shown y (omega (arith, before.1))).as_some (λ a. some (at_y ∙ a))) (rw (← q.0) at out)
        | inr ne ↦
            let at_x : entry (value_of_variable g i) h ≡ entry vx h = ap (λ v. entry v h) at_i ∙ derived_other vx vy f h (sound_at g sounds x) ne.0 in
            below x f y e (ih x (omega (arith, before.0)) (omega (arith, before.0)) (f ∷ ds) h (λ l. elim l [ inl q ↦ ne.0 (sym q) | inr r ↦ out r ]) (λ a. some (at_x ∙ a)))
      ]
  has_entry_by n ih i b w ds h out some (Ensured x) e =
      let before = rw e at (order.earlier i w) in
      let at_x : entry (value_of_variable g i) h ≡ entry (value_of_variable g x) h = ap (λ v. entry v h) (is_by i w (Ensured x) e) ∙ entry_is (value_of_variable g x) h in
      kept x e (ih x (omega (arith, before)) (omega (arith, before)) ds h out (λ a. some (at_x ∙ a)))
  has_entry_by n ih i b w ds h out some (Made k) e =
      absurd (some (ap (λ v. entry v h) (is_by i w (Made k) e) ∙ made_entry k h))

  has_entry_below : (n i : ℕ) → i < n → i < length vars → (ds : List (List ℕ)) (h : List ℕ) → ¬ (Listed h ds) → entry (value_of_variable g i) h ≢ value.Absent → HasEntryOutside vars best (unfenced vars) i ds
  has_entry_below zero i b w ds h out some = absurd (omega arith)
  has_entry_below (suc n) i b w ds h out some = has_entry_by n (has_entry_below n) i b w ds h out some (var_at vars i).definition refl

  pub satisfied : IsSatisfied vars best (unfenced vars)
  satisfied i w = record {
    fits = fits_by i w (var_at vars i).definition refl;
    filled = λ t. let some = (fits i w).filled t in has_entry_below (suc i) i (omega arith) w [] some.0 (λ l. l) some.1;
  }

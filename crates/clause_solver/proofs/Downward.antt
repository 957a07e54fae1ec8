-- The links along derived directories hold as variables are added and narrowed.
use Rattle.std.proofs.Common.{◌≡◌, ℕ, zero, suc, ◌+◌, ◌<◌, ◌≤◌, inl, inr, Option, None, Some, List, [], ◌∷◌, ◌++◌, length, refl, sym, ap, ◌∙◌, arith, subst}
use Rattle.feature_trees.specs.Tree.{entry}
use Rattle.clause_solver.specs.declared.kin.Kin.{Kin}
use Rattle.clause_solver.specs.declared.kin.Link.{Link}
use Rattle.clause_solver.specs.declared.variable.Definition.{Definition}
use Rattle.clause_solver.specs.declared.variable.Definition.TheVariants.{Start, Derived, Ensured}
use Rattle.clause_solver.specs.declared.variable.Variable.{Variable}
use Rattle.tree_clauses.specs.Literals.{Valuation, value_of_variable}
use Rattle.clause_solver.specs.Variables.{var_at, defined, Earlier, Ordered}
use Rattle.clause_solver.specs.Fresh.{fresh}
use Rattle.clause_solver.specs.Linked.{kin_at, other_kin, link_at, AreDefined, PassesTo, IsEnd, LeadsDown, or_end, AreLinksDown, AreLinkedDown}
use Rattle.tree_clauses.proofs.Values.{entry_is}
use Rattle.clause_solver.proofs.Names.{last_cases}
use Rattle.clause_solver.proofs.OneMore.{longer, old_at, new_at}

-- among more variables
more_down : (vars : List Variable) (kin : List Kin) (end n m : ℕ) (o : Option ℕ) → n ≤ m → LeadsDown vars kin end n o → LeadsDown vars kin end m o
more_down vars kin end n m None le d = tt
more_down vars kin end n m (Some k) le d = let w = d.0 in (omega (arith, w, le), d.1, d.2)

pub moved_down : (vars : List Variable) (kin : List Kin) (a b n m : ℕ) (o p : Option ℕ) → a ≡ b → o ≡ p → n ≤ m → LeadsDown vars kin a n o → LeadsDown vars kin b m p
moved_down vars kin a b n m o p ends tops le d =
    subst (λ e. LeadsDown vars kin e m p) ends (subst (LeadsDown vars kin a m) tops (more_down vars kin a n m o le d))

pub moved_passes : (vars : List Variable) (x : ℕ) (f : List ℕ) (a b : ℕ) (o p : Option ℕ) → a ≡ b → o ≡ p → PassesTo vars x f (or_end o a) → PassesTo vars x f (or_end p b)
moved_passes vars x f a b o p ends tops passes =
    subst (λ e. PassesTo vars x f (or_end p e)) ends (subst (λ q. PassesTo vars x f (or_end q a)) tops passes)

-- what holds of variables holds of others whose first ones have the same definitions and ends
module _ (vars new : List Variable) (kin more : List Kin) (long : length vars ≤ length new) (same : (i : ℕ) → i < length vars → (var_at new i).definition ≡ (var_at vars i).definition) (ends : (i : ℕ) → i < length vars → (kin_at more i).end ≡ (kin_at kin i).end) where
  defined_before : (g : Valuation) → AreDefined new g → AreDefined vars g
  defined_before g all = λ i w. all i (omega (arith, w, long)) ∙ ap (defined g) (same i w)

  still_passes : (x : ℕ) (f : List ℕ) (n : ℕ) → PassesTo vars x f n → PassesTo new x f n
  still_passes x f n passes = λ g s all. passes g s (defined_before g all)

  still_down : (end n : ℕ) (o : Option ℕ) → n ≤ length vars → LeadsDown vars kin end n o → LeadsDown new more end n o
  still_down end n None le d = tt
  still_down end n (Some m) le d =
      let low = d.0 in
      let w : m < length vars = omega (arith, low, le) in
      (d.0, (d.1.0, d.1.1, d.1.2, same m w ∙ d.1.3), ends m w ∙ d.2)

  still_links : (x : ℕ) (f : List ℕ) (end n : ℕ) (links : List Link) → n ≤ length vars → AreLinksDown vars kin x f end n links → AreLinksDown new more x f end n links
  still_links x f end n links le l = record {
    down = λ place. still_down end n (link_at links place) le (l.down place);
    passes = λ g ne. still_passes x g _ (l.passes g ne);
  }

-- the links hold wherever the definitions are the same
pub same_down : (vars new : List Variable) (kin : List Kin) → length new ≡ length vars → ((i : ℕ) → (var_at new i).definition ≡ (var_at vars i).definition) → AreLinkedDown vars kin → AreLinkedDown new kin
same_down vars new kin long same l =
    let le : length vars ≤ length new = omega (arith, long) in
    record {
      inside = λ x w. let b = l.inside x (rw long at w) in omega (arith, b, long);
      ends = λ x w. subst IsEnd (sym (same (kin_at kin x).end)) (l.ends x (rw long at w));
      down = λ x w.
          moved_down new kin _ _ (length vars) (length new) _ _ refl refl le
          (still_down vars new kin kin le (λ i b. same i) (λ i b. refl) (kin_at kin x).end (length vars) (kin_at kin x).top (omega arith) (l.down x (rw long at w)));
      passes = λ x f w. still_passes vars new kin kin le (λ i b. same i) (λ i b. refl) x f _ (l.passes x f (rw long at w));
      links = λ i x y f w e.
          let w' : i < length vars = rw long at w in
          still_links vars new kin kin le (λ j b. same j) (λ j b. refl) x f (kin_at kin i).end i (kin_at kin i).links (omega (arith, w')) (l.links i x y f w' (sym (same i) ∙ e));
    }

-- the variable leads down as before
abbrev pub IsKept : Kin → Kin → Type 0
IsKept old new = (new.end ≡ old.end) × (new.top ≡ old.top) × (new.links ≡ old.links)

-- one more variable, with these links of its own
module _ (vars : List Variable) (kin new : List Kin) (order : Ordered vars) (l : AreLinkedDown vars kin) (d : Definition) (before : Earlier vars (length vars) d) (own : Kin) (seam : kin_at new (length vars) ≡ own) (kept : (i : ℕ) → i < length vars → IsKept (kin_at kin i) (kin_at new i)) where
  abbrev more : List Variable
  more = vars ++ fresh d ∷ []

  old_definition : (i : ℕ) → i < length vars → (var_at more i).definition ≡ (var_at vars i).definition
  old_definition i w = ap (λ (u : Variable). u.definition) (old_at vars order d before i w)

  new_definition : (var_at more (length vars)).definition ≡ d
  new_definition = ap (λ (u : Variable). u.definition) (new_at vars order d before)

  more_long : length more ≡ length vars + 1
  more_long = longer vars order d before

  le : length vars ≤ length more
  le = let e = more_long in omega (arith, e)

  own_end : (kin_at new (length vars)).end ≡ own.end
  own_end = ap (λ (k : Kin). k.end) seam

  own_top : (kin_at new (length vars)).top ≡ own.top
  own_top = ap (λ (k : Kin). k.top) seam

  own_links : (kin_at new (length vars)).links ≡ own.links
  own_links = ap (λ (k : Kin). k.links) seam

  passes_still : (x : ℕ) (f : List ℕ) (n : ℕ) → PassesTo vars x f n → PassesTo more x f n
  passes_still = still_passes vars more kin new le old_definition (λ i w. (kept i w).0)

  down_still : (end n : ℕ) (o : Option ℕ) → n ≤ length vars → LeadsDown vars kin end n o → LeadsDown more new end n o
  down_still = still_down vars more kin new le old_definition (λ i w. (kept i w).0)

  links_still : (x : ℕ) (f : List ℕ) (end n : ℕ) (links : List Link) → n ≤ length vars → AreLinksDown vars kin x f end n links → AreLinksDown more new x f end n links
  links_still = still_links vars more kin new le old_definition (λ i w. (kept i w).0)

  linked_down : own.end < length vars + 1
      → IsEnd (var_at more own.end).definition
      → LeadsDown more new own.end (length vars + 1) own.top
      → ((f : List ℕ) → PassesTo more (length vars) f (or_end own.top own.end))
      → ((x y : ℕ) (f : List ℕ) → d ≡ Derived x f y → AreLinksDown more new x f own.end (length vars) own.links)
      → AreLinkedDown more new
  linked_down its_inside its_end its_down its_passes its_links = record {
    inside = λ x w'.
        let long = more_long in
        let w : x < length vars + 1 = rw more_long at w' in
        elim (last_cases x (length vars) w) [
          | inl b ↦ let q = (kept x b).0 in let a = l.inside x b in omega (arith, q, a, long)
          | inr e ↦ let q : (kin_at new x).end ≡ own.end = ap (λ n. (kin_at new n).end) e ∙ own_end in omega (arith, q, its_inside, long)
        ];
    ends = λ x w'.
        let w : x < length vars + 1 = rw more_long at w' in
        elim (last_cases x (length vars) w) [
          | inl b ↦ subst (λ n. IsEnd (var_at more n).definition) (sym (kept x b).0) (subst IsEnd (sym (old_definition (kin_at kin x).end (l.inside x b))) (l.ends x b))
          | inr e ↦
              let q : (kin_at new x).end ≡ own.end = ap (λ n. (kin_at new n).end) e ∙ own_end in
              subst (λ n. IsEnd (var_at more n).definition) (sym q) its_end
        ];
    down = λ x w'.
        let long = more_long in
        let w : x < length vars + 1 = rw more_long at w' in
        elim (last_cases x (length vars) w) [
          | inl b ↦
              moved_down more new (kin_at kin x).end (kin_at new x).end (length vars) (length more) (kin_at kin x).top (kin_at new x).top (sym (kept x b).0) (sym (kept x b).1) le
              (down_still (kin_at kin x).end (length vars) (kin_at kin x).top (omega arith) (l.down x b))
          | inr e ↦
              let q : (kin_at new x).end ≡ own.end = ap (λ n. (kin_at new n).end) e ∙ own_end in
              let t : (kin_at new x).top ≡ own.top = ap (λ n. (kin_at new n).top) e ∙ own_top in
              moved_down more new own.end (kin_at new x).end (length vars + 1) (length more) own.top (kin_at new x).top (sym q) (sym t) (omega (arith, long)) its_down
        ];
    passes = λ x f w'.
        let w : x < length vars + 1 = rw more_long at w' in
        elim (last_cases x (length vars) w) [
          | inl b ↦
              moved_passes more x f (kin_at kin x).end (kin_at new x).end (kin_at kin x).top (kin_at new x).top (sym (kept x b).0) (sym (kept x b).1)
              (passes_still x f (or_end (kin_at kin x).top (kin_at kin x).end) (l.passes x f b))
          | inr e ↦
              let q : (kin_at new x).end ≡ own.end = ap (λ n. (kin_at new n).end) e ∙ own_end in
              let t : (kin_at new x).top ≡ own.top = ap (λ n. (kin_at new n).top) e ∙ own_top in
              moved_passes more x f own.end (kin_at new x).end own.top (kin_at new x).top (sym q) (sym t)
              (subst (λ n. PassesTo more n f (or_end own.top own.end)) (sym e) (its_passes f))
        ];
    links = λ i x y f w' is.
        let w : i < length vars + 1 = rw more_long at w' in
        elim (last_cases i (length vars) w) [
          | inl b ↦
              let old = links_still x f (kin_at kin i).end i (kin_at kin i).links (omega (arith, b)) (l.links i x y f b (sym (old_definition i b) ∙ is)) in
              subst (λ n. AreLinksDown more new x f n i (kin_at new i).links) (sym (kept i b).0) (subst (AreLinksDown more new x f (kin_at kin i).end i) (sym (kept i b).2) old)
          | inr e ↦
              let its : d ≡ Derived x f y = sym new_definition ∙ ap (λ n. (var_at more n).definition) (sym e) ∙ is in
              subst (λ n. AreLinksDown more new x f (kin_at new n).end n (kin_at new n).links) (sym e)
              (subst (λ (k : Kin). AreLinksDown more new x f k.end (length vars) k.links) (sym seam) (its_links x y f its))
        ];
  }

  -- the way down ends at the variable itself
  pub ended_down : own.end ≡ length vars → own.top ≡ None → IsEnd d → ((x y : ℕ) (f : List ℕ) → d ≡ Derived x f y → ⊥) → AreLinkedDown more new
  ended_down end top is other = linked_down
      (omega (arith, end))
      (subst (λ n. IsEnd (var_at more n).definition) (sym end) (subst IsEnd (sym new_definition) is))
      (subst (LeadsDown more new own.end (length vars + 1)) (sym top) tt)
      (λ f. moved_passes more (length vars) f (length vars) own.end None own.top (sym end) (sym top) (λ g s all. refl))
      (λ x y f e. absurd (other x y f e))

  -- the variable is a directory that is derived from x
  pub derived_down : (x y : ℕ) (f : List ℕ) → d ≡ Derived x f y → x < length vars → own.end ≡ (kin_at kin x).end → own.top ≡ Some (length vars) → AreLinksDown vars kin x f (kin_at kin x).end (length vars) own.links → AreLinkedDown more new
  derived_down x y f is w end top links = linked_down
      (let a = l.inside x w in omega (arith, a, end))
      (subst (λ n. IsEnd (var_at more n).definition) (sym end) (subst IsEnd (sym (old_definition (kin_at kin x).end (l.inside x w))) (l.ends x w)))
      (subst (LeadsDown more new own.end (length vars + 1)) (sym top) (omega arith, (x, y, f, new_definition ∙ is), own_end))
      (λ g. moved_passes more (length vars) g own.end own.end (Some (length vars)) own.top refl (sym top) (λ v s all. refl))
      (λ z u g e.
      let same : Derived x f y ≡ Derived z g u = sym is ∙ e in
      let ex : x ≡ z = cc in
      let ef : f ≡ g = cc in
      subst (λ n. AreLinksDown more new n g own.end (length vars) own.links) ex
      (subst (λ h. AreLinksDown more new x h own.end (length vars) own.links) ef
      (subst (λ n. AreLinksDown more new x f n (length vars) own.links) (sym end)
      (links_still x f (kin_at kin x).end (length vars) own.links (omega arith) links))))

  -- the variable is a directory with the entries of x
  pub ensured_down : (x : ℕ) → d ≡ Ensured x → x < length vars → own.end ≡ (kin_at kin x).end → own.top ≡ (kin_at kin x).top → AreLinkedDown more new
  ensured_down x is w end top = linked_down
      (let a = l.inside x w in omega (arith, a, end))
      (subst (λ n. IsEnd (var_at more n).definition) (sym end) (subst IsEnd (sym (old_definition (kin_at kin x).end (l.inside x w))) (l.ends x w)))
      (moved_down more new (kin_at kin x).end own.end (length vars) (length vars + 1) (kin_at kin x).top own.top (sym end) (sym top) (omega arith)
      (down_still (kin_at kin x).end (length vars) (kin_at kin x).top (omega arith) (l.down x w)))
      (λ f. moved_passes more (length vars) f (kin_at kin x).end own.end (kin_at kin x).top own.top (sym end) (sym top)
      (λ g s all.
      let long = more_long in
      let here : value_of_variable g (length vars) ≡ defined g (Ensured x) = all (length vars) (omega (arith, long)) ∙ ap (defined g) (new_definition ∙ is) in
      ap (λ v. entry v f) here ∙ entry_is (value_of_variable g x) f ∙ passes_still x f _ (l.passes x f w) g s all))
      (λ z u g e. let bad : Ensured x ≡ Derived z g u = sym is ∙ e in absurd (cc))

-- the start tree alone
pub first_down : (v : Variable) → v.definition ≡ Start → AreLinkedDown (v ∷ []) (other_kin [] None 0 ∷ [])
first_down v e = record {
  inside = inside;
  ends = ends;
  down = down;
  passes = passes;
  links = λ i x y f w is. absurd (none i x y f w is);
}
  where
    inside : (x : ℕ) → x < 1 → (kin_at (other_kin [] None 0 ∷ []) x).end < 1
    inside zero w = omega arith
    inside (suc x) w = absurd (omega (arith, w))

    ends : (x : ℕ) → x < 1 → IsEnd (var_at (v ∷ []) (kin_at (other_kin [] None 0 ∷ []) x).end).definition
    ends zero w = subst IsEnd (sym e) tt
    ends (suc x) w = absurd (omega (arith, w))

    down : (x : ℕ) → x < 1 → LeadsDown (v ∷ []) (other_kin [] None 0 ∷ []) (kin_at (other_kin [] None 0 ∷ []) x).end 1 (kin_at (other_kin [] None 0 ∷ []) x).top
    down zero w = tt
    down (suc x) w = absurd (omega (arith, w))

    passes : (x : ℕ) (f : List ℕ) → x < 1 → PassesTo (v ∷ []) x f (or_end (kin_at (other_kin [] None 0 ∷ []) x).top (kin_at (other_kin [] None 0 ∷ []) x).end)
    passes zero f w = λ g s all. refl
    passes (suc x) f w = absurd (omega (arith, w))

    none : (i x y : ℕ) (f : List ℕ) → i < 1 → (var_at (v ∷ []) i).definition ≡ Derived x f y → ⊥
    none zero x y f w is = let q : Start ≡ Derived x f y = sym e ∙ is in cc
    none (suc i) x y f w is = omega (arith, w)

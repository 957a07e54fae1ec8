-- The links between the entries of a place hold as variables are added and narrowed, and lead past each entry.
use Rattle.std.proofs.Common.{◌≡◌, ◌≢◌, ◌⊎◌, ℕ, zero, suc, ◌+◌, ◌<◌, ◌≤◌, inl, inr, Option, None, Some, List, [], ◌∷◌, ◌++◌, length, refl, sym, ap, ◌∙◌, arith, subst, length-set, get_or-set_other, get_or-set_same, set}
use Rattle.std.proofs.lemmas.List.{length-append, get_or_append_left}
use Rattle.std.proofs.Math.Seq.{get_or-append_seam}
use Rattle.feature_trees.specs.declared.kind.Kinds.{Kinds}
use Rattle.clause_solver.specs.declared.kin.Kin.{Kin}
use Rattle.clause_solver.specs.declared.kin.Link.{Link}
use Rattle.clause_solver.specs.declared.variable.Definition.{Definition}
use Rattle.clause_solver.specs.declared.variable.Definition.TheVariants.{Start, Child, Derived, Ensured, Made}
use Rattle.clause_solver.specs.declared.variable.Variable.{Variable}
use Rattle.clause_solver.specs.Variables.{var_at, no_variable, narrowed, Earlier, Ordered}
use Rattle.clause_solver.specs.Fresh.{fresh}
use Rattle.clause_solver.specs.Linked.{other_kin, no_kin, kin_at, link_at, IsChildOf, IsLastChild, LeadsToEntry, AreLinks, IsEnd, AreLinkedDown, AreLinked, with_entry, WithVariable}
use Rattle.clause_solver.proofs.Downward.{IsKept, same_down, ended_down, derived_down, ensured_down, first_down}
use Rattle.clause_solver.proofs.Names.{nat_cases, last_cases}
use Rattle.clause_solver.proofs.OneMore.{longer, old_at, new_at}
use Rattle.clause_solver.proofs.Narrowed.{narrowed_definition}

pub below_or : (i n : ℕ) → (i < n) ⊎ (n ≤ i)
below_or i zero = inr (omega arith)
below_or zero (suc n) = inl (omega arith)
below_or (suc i) (suc n) = elim (below_or i n) [ inl w ↦ inl (omega (arith, w)) | inr le ↦ inr (omega (arith, le)) ]

-- how many variables may be left
abbrev pub left_of : Option ℕ → ℕ
left_of None = 0
left_of (Some m) = suc m

-- fewer are left behind an entry
pub left_falls : (vars : List Variable) (p m : ℕ) (rest : Option ℕ) → IsLastChild vars p m rest → left_of rest < suc m
left_falls vars p m None last = omega arith
left_falls vars p m (Some k) last = let w = last.0 in omega (arith, w)

-- the links hold of variables whose definitions are the same
same_last : (vars new : List Variable) (p n : ℕ) (o : Option ℕ) → ((i : ℕ) → i < n → (var_at new i).definition ≡ (var_at vars i).definition) → IsLastChild vars p n o → IsLastChild new p n o
same_last vars new p n None same last = λ i w child. last i w (child.0, sym (same i w) ∙ child.1)
same_last vars new p n (Some m) same last = (
  last.0,
  (last.1.0, same m last.0 ∙ last.1.1),
  λ i low w child. last.2 i low w (child.0, sym (same i w) ∙ child.1),
)

same_entry : (vars new : List Variable) (p n : ℕ) (o : Option ℕ) → ((i : ℕ) → i < n → (var_at new i).definition ≡ (var_at vars i).definition) → LeadsToEntry vars p n o → LeadsToEntry new p n o
same_entry vars new p n None same leads = leads
same_entry vars new p n (Some m) same leads = (leads.0, (leads.1.0, same m leads.0 ∙ leads.1.1))

same_links : (vars new : List Variable) (p n : ℕ) (f : List ℕ) (links : List Link) → ((i : ℕ) → i < n → (var_at new i).definition ≡ (var_at vars i).definition) → AreLinks vars p f n links → AreLinks new p f n links
same_links vars new p n f links same l = record {
  entries = λ place. same_entry vars new p n (link_at links place) same (l.entries place);
  all = λ i g w e. l.all i g w (sym (same i w) ∙ e);
}

-- the links hold wherever the definitions are the same
pub same_linked : (vars new : List Variable) (kin : List Kin) → length new ≡ length vars → ((i : ℕ) → (var_at new i).definition ≡ (var_at vars i).definition) → AreLinked vars kin → AreLinked new kin
same_linked vars new kin long same linked = record {
  counted = linked.counted ∙ sym long;
  youngest = λ p w. rw long (same_last vars new p (length vars) _ (λ i b. same i) (linked.youngest p (rw long at w)));
  older = λ i p w child. same_last vars new p i _ (λ j b. same j) (linked.older i p (rw long at w) (child.0, sym (same i) ∙ child.1));
  links = λ i p f w e. same_links vars new p i f _ (λ j b. same j) (linked.links i p f (rw long at w) (sym (same i) ∙ e));
  below = same_down vars new kin long same linked.below;
}

pub narrowed_linked : (vars : List Variable) (kin : List Kin) (x : ℕ) (k : Kinds) → x < length vars → AreLinked vars kin → AreLinked (narrowed vars x k) kin
narrowed_linked vars kin x k inside linked = same_linked vars (narrowed vars x k) kin (length-set vars x _) (narrowed_definition vars x k inside) linked

at_end : (vars : List Variable) (v : Variable) (i : ℕ) → i ≡ length vars → var_at (vars ++ v ∷ []) i ≡ v
at_end vars v i e = ap (var_at (vars ++ v ∷ [])) e ∙ get_or-append_seam vars v [] no_variable

-- the variable that is added is no entry of p
more_last : (vars : List Variable) (v : Variable) (p : ℕ) (o : Option ℕ) → ((f : List ℕ) → v.definition ≡ Child p f → ⊥) → IsLastChild vars p (length vars) o → IsLastChild (vars ++ v ∷ []) p (length vars + 1) o
more_last vars v p None other last = λ i w child. elim (last_cases i (length vars) w) [
  | inl b ↦ last i b (child.0, sym (ap (λ (u : Variable). u.definition) (get_or_append_left vars (v ∷ []) no_variable i b)) ∙ child.1)
  | inr e ↦ other child.0 (sym (ap (λ (u : Variable). u.definition) (at_end vars v i e)) ∙ child.1)
]
more_last vars v p (Some m) other last =
    let w = last.0 in (
      omega (arith, w),
      (last.1.0, ap (λ (u : Variable). u.definition) (get_or_append_left vars (v ∷ []) no_variable m w) ∙ last.1.1),
      λ i low b child. elim (last_cases i (length vars) b) [
        | inl b' ↦ last.2 i low b' (child.0, sym (ap (λ (u : Variable). u.definition) (get_or_append_left vars (v ∷ []) no_variable i b')) ∙ child.1)
        | inr e ↦ other child.0 (sym (ap (λ (u : Variable). u.definition) (at_end vars v i e)) ∙ child.1)
      ],
    )

module _ (vars : List Variable) (kin new : List Kin) (order : Ordered vars) (linked : AreLinked vars kin) (d : Definition) (before : Earlier vars (length vars) d) where
  old_definition : (i : ℕ) → i < length vars → (var_at (vars ++ fresh d ∷ []) i).definition ≡ (var_at vars i).definition
  old_definition i w = ap (λ (u : Variable). u.definition) (old_at vars order d before i w)

  new_definition : (i : ℕ) → i ≡ length vars → (var_at (vars ++ fresh d ∷ []) i).definition ≡ d
  new_definition i e = ap (λ (u : Variable). u.definition) (ap (var_at (vars ++ fresh d ∷ [])) e ∙ new_at vars order d before)

  -- no variable is an entry of the last one
  no_entry : (i : ℕ) → i < length vars + 1 → IsChildOf (vars ++ fresh d ∷ []) (length vars) i → ⊥
  no_entry i w child = elim (last_cases i (length vars) w) [
    | inl b ↦
        let e : (var_at vars i).definition ≡ Child (length vars) child.0 = sym (old_definition i b) ∙ child.1 in
        let before_it : Earlier vars i (Child (length vars) child.0) = rw e at (order.earlier i b) in
        let low = before_it.0 in
        omega (arith, b, low)
    | inr e ↦
        let q : d ≡ Child (length vars) child.0 = sym (new_definition i e) ∙ child.1 in
        let before_it : Earlier vars (length vars) (Child (length vars) child.0) = rw q at before in
        let low = before_it.0 in
        omega (arith, low)
  ]

  -- what the links of each variable owe, given those of the old ones, and the place that the new one is an entry of
  pub more_linked : length new ≡ length kin + 1
      → ((p : ℕ) → p < length vars → ((f : List ℕ) → d ≡ Child p f → ⊥) → (kin_at new p).youngest ≡ (kin_at kin p).youngest)
      → ((p : ℕ) (f : List ℕ) → d ≡ Child p f → (kin_at new p).youngest ≡ Some (length vars))
      → (kin_at new (length vars)).youngest ≡ None
      → ((i : ℕ) → i < length vars → (kin_at new i).older ≡ (kin_at kin i).older)
      → ((p : ℕ) (f : List ℕ) → d ≡ Child p f → (kin_at new (length vars)).older ≡ (kin_at kin p).youngest)
      → ((p : ℕ) → ((f : List ℕ) × (d ≡ Child p f)) ⊎ ((f : List ℕ) → d ≡ Child p f → ⊥))
      → ((i : ℕ) → i < length vars → (kin_at new i).links ≡ (kin_at kin i).links)
      → ((p : ℕ) (f : List ℕ) → d ≡ Child p f → AreLinks vars p f (length vars) (kin_at new (length vars)).links)
      → AreLinkedDown (vars ++ fresh d ∷ []) new
      → AreLinked (vars ++ fresh d ∷ []) new
  more_linked long kept_young its_young none_young kept_old its_old cases kept_links its_links down = record {
    below = down;
    counted = long ∙ ap (λ n. n + 1) linked.counted ∙ sym (longer vars order d before);
    youngest = λ p w'.
        let w : p < length vars + 1 = rw longer at w' in
        rw longer (elim (last_cases p (length vars) w) [
          | inl b ↦ elim (cases p) [
            | inl is ↦ rw (its_young p is.0 is.1) (
              omega arith,
              (is.0, new_definition (length vars) refl ∙ is.1),
              λ i low b' child. omega (arith, low, b'),
            )
            | inr other ↦ rw (kept_young p b other) (more_last vars (fresh d) p _ other (linked.youngest p b))
          ]
          | inr e ↦ rw (e, none_young) no_entry
        ]);
    older = λ i p w' child.
        let w : i < length vars + 1 = rw longer at w' in
        elim (last_cases i (length vars) w) [
          | inl b ↦ rw (kept_old i b) (same_last vars (vars ++ fresh d ∷ []) p i _ (λ j b'. old_definition j (omega (arith, b, b'))) (linked.older i p b (child.0, sym (old_definition i b) ∙ child.1)))
          | inr e ↦
              let q : d ≡ Child p child.0 = sym (new_definition i e) ∙ child.1 in
              let before_it : Earlier vars (length vars) (Child p child.0) = rw q at before in
              rw (e, its_old p child.0 q) (same_last vars (vars ++ fresh d ∷ []) p (length vars) _ (λ j b'. old_definition j b') (linked.youngest p before_it.0))
        ];
    links = λ i p f w' child.
        let w : i < length vars + 1 = rw longer at w' in
        elim (last_cases i (length vars) w) [
          | inl b ↦ rw (kept_links i b) (same_links vars (vars ++ fresh d ∷ []) p i f _ (λ j b'. old_definition j (omega (arith, b, b'))) (linked.links i p f b (sym (old_definition i b) ∙ child)))
          | inr e ↦ rw e (same_links vars (vars ++ fresh d ∷ []) p (length vars) f _ (λ j b'. old_definition j b') (its_links p f (sym (new_definition i e) ∙ child)))
        ];
  }

  module _ (own : Kin) (is : new ≡ kin ++ own ∷ []) where
    other_seam : kin_at new (length vars) ≡ own
    other_seam = let count = linked.counted in rw (is, ← count) (get_or-append_seam kin own [] no_kin)

    other_old : (i : ℕ) → i < length vars → kin_at new i ≡ kin_at kin i
    other_old i w = let w' : i < length kin = rw linked.counted w in rw is (get_or_append_left kin (own ∷ []) no_kin i w')

    other_kept : (i : ℕ) → i < length vars → IsKept (kin_at kin i) (kin_at new i)
    other_kept i w = let e = other_old i w in (ap (λ (k : Kin). k.end) e, ap (λ (k : Kin). k.top) e, ap (λ (k : Kin). k.links) e)

    other_linked : ((p : ℕ) (f : List ℕ) → d ≡ Child p f → ⊥) → own.youngest ≡ None → AreLinkedDown (vars ++ fresh d ∷ []) new → AreLinked (vars ++ fresh d ∷ []) new
    other_linked none young down = more_linked
        (rw is (length-append kin (own ∷ [])))
        (λ p w other. ap (λ (k : Kin). k.youngest) (other_old p w))
        (λ p f e. absurd (none p f e))
        (ap (λ (k : Kin). k.youngest) other_seam ∙ young)
        (λ i w. ap (λ (k : Kin). k.older) (other_old i w))
        (λ p f e. absurd (none p f e))
        (λ p. inr (none p))
        (λ i w. ap (λ (k : Kin). k.links) (other_old i w))
        (λ p f e. absurd (none p f e))
        down

  entry_linked : (p : ℕ) (f : List ℕ) (links : List Link) → d ≡ Child p f → p < length vars → AreLinks vars p f (length vars) links → new ≡ with_entry kin p links → AreLinked (vars ++ fresh d ∷ []) new
  entry_linked p f links e inside its is =
      let count = linked.counted in
      let changed : Kin = record (kin_at kin p) { youngest = Some (length kin) } in
      let entry : Kin = record (other_kin links None (length kin)) { older = (kin_at kin p).youngest } in
      let p_in : p < length kin = rw count inside in
      let long_set : length (set kin p changed) ≡ length vars = length-set kin p changed ∙ count in
      let seam : kin_at new (length vars) ≡ entry = rw (is, ← long_set) (get_or-append_seam (set kin p changed) entry [] no_kin) in
      let front : (i : ℕ) → i < length vars → kin_at new i ≡ kin_at (set kin p changed) i =
      λ i w. let w' : i < length (set kin p changed) = rw long_set w in rw is (get_or_append_left (set kin p changed) (entry ∷ []) no_kin i w') in
      let here : kin_at new p ≡ changed = front p inside ∙ get_or-set_same kin p changed no_kin p_in in
      let there : (i : ℕ) → i < length vars → i ≢ p → kin_at new i ≡ kin_at kin i = λ i w ne. front i w ∙ get_or-set_other kin p i changed no_kin ne in
      more_linked
      (rw is (length-append (set kin p changed) (entry ∷ []) ∙ ap (λ n. n + 1) (length-set kin p changed)))
      (λ q w other. elim (nat_cases q p) [
        | inl same ↦ absurd (other f (subst (λ n. d ≡ Child n f) (sym same) e))
        | inr ne ↦ ap (λ (k : Kin). k.youngest) (there q w ne)
      ])
      (λ q g eq.
      let same : Child p f ≡ Child q g = sym e ∙ eq in
      let ep : p ≡ q = cc in
      rw (← ep) (ap (λ (k : Kin). k.youngest) here ∙ ap Some count))
      (ap (λ (k : Kin). k.youngest) seam)
      (λ i w. elim (nat_cases i p) [
        | inl same ↦ rw same (ap (λ (k : Kin). k.older) here)
        | inr ne ↦ ap (λ (k : Kin). k.older) (there i w ne)
      ])
      (λ q g eq.
      let same : Child p f ≡ Child q g = sym e ∙ eq in
      let ep : p ≡ q = cc in
      rw (← ep) (ap (λ (k : Kin). k.older) seam))
      (λ q. elim (nat_cases q p) [
        | inl same ↦ inl (f, subst (λ n. d ≡ Child n f) (sym same) e)
        | inr ne ↦ inr (λ g eq. let same : Child p f ≡ Child q g = sym e ∙ eq in let ep : p ≡ q = cc in ne (sym ep))
      ])
      (λ i w. elim (nat_cases i p) [
        | inl same ↦ rw same (ap (λ (k : Kin). k.links) here)
        | inr ne ↦ ap (λ (k : Kin). k.links) (there i w ne)
      ])
      (λ q g eq.
      let same : Child p f ≡ Child q g = sym e ∙ eq in
      let ep : p ≡ q = cc in
      let ef : f ≡ g = cc in
      rw (← ep, ← ef, seam) its)
      (ended_down vars kin new order linked.below d before entry seam
      (λ i w. elim (nat_cases i p) [
        | inl same ↦
            let k : kin_at new i ≡ changed = ap (kin_at new) same ∙ here in
            let old : kin_at kin p ≡ kin_at kin i = ap (kin_at kin) (sym same) in (
              ap (λ (k : Kin). k.end) k ∙ ap (λ (k : Kin). k.end) old,
              ap (λ (k : Kin). k.top) k ∙ ap (λ (k : Kin). k.top) old,
              ap (λ (k : Kin). k.links) k ∙ ap (λ (k : Kin). k.links) old,
            )
        | inr ne ↦ let k = there i w ne in (ap (λ (k : Kin). k.end) k, ap (λ (k : Kin). k.top) k, ap (λ (k : Kin). k.links) k)
      ])
      count refl (subst IsEnd (sym e) tt)
      (λ x y g q. let bad : Child p f ≡ Derived x g y = sym e ∙ q in absurd (cc)))

pub variable_linked : (vars : List Variable) (kin new : List Kin) → Ordered vars → AreLinked vars kin → (d : Definition) → Earlier vars (length vars) d → WithVariable vars kin d new → AreLinked (vars ++ fresh d ∷ []) new
variable_linked vars kin new order linked Start before is =
    let own = other_kin [] None (length kin) in
    other_linked vars kin new order linked Start before own is (λ p f e. let q : Start ≡ Child p f = e in cc) refl
    (ended_down vars kin new order linked.below Start before own (other_seam vars kin new order linked Start before own is) (other_kept vars kin new order linked Start before own is) linked.counted refl tt (λ x y f e. let q : Start ≡ Derived x f y = e in cc))
variable_linked vars kin new order linked (Child p f) before is = entry_linked vars kin new order linked (Child p f) before p f is.0 refl before.0 is.1 is.2
variable_linked vars kin new order linked (Derived x f y) before is =
    let own = other_kin is.0 (Some (length kin)) (kin_at kin x).end in
    let d = Derived x f y in
    other_linked vars kin new order linked d before own is.2 (λ p g e. let q : Derived x f y ≡ Child p g = e in cc) refl
    (derived_down vars kin new order linked.below d before own (other_seam vars kin new order linked d before own is.2) (other_kept vars kin new order linked d before own is.2) x y f refl before.0 refl (ap Some linked.counted) is.1)
variable_linked vars kin new order linked (Ensured x) before is =
    let own = other_kin [] (kin_at kin x).top (kin_at kin x).end in
    let d = Ensured x in
    other_linked vars kin new order linked d before own is (λ p f e. let q : Ensured x ≡ Child p f = e in cc) refl
    (ensured_down vars kin new order linked.below d before own (other_seam vars kin new order linked d before own is) (other_kept vars kin new order linked d before own is) x refl before refl refl)
variable_linked vars kin new order linked (Made m) before is =
    let own = other_kin [] None (length kin) in
    let d = Made m in
    other_linked vars kin new order linked d before own is (λ p f e. let q : Made m ≡ Child p f = e in cc) refl
    (ended_down vars kin new order linked.below d before own (other_seam vars kin new order linked d before own is) (other_kept vars kin new order linked d before own is) linked.counted refl tt (λ x y f e. let q : Made m ≡ Derived x f y = e in cc))

-- the start tree alone has no entry
pub first_linked : (v : Variable) → v.definition ≡ Start → AreLinked (v ∷ []) (no_kin ∷ [])
first_linked v e = record {
  counted = refl;
  youngest = young;
  older = old;
  links = λ i p f w child. absurd (none p i w (f, child));
  below = first_down v e;
}
  where
    none : (p i : ℕ) → i < 1 → IsChildOf (v ∷ []) p i → ⊥
    none p zero w child = let q : Start ≡ Child p child.0 = sym e ∙ child.1 in cc
    none p (suc i) w child = omega (arith, w)

    young : (p : ℕ) → p < 1 → IsLastChild (v ∷ []) p 1 (kin_at (no_kin ∷ []) p).youngest
    young zero w = none zero
    young (suc p) w = absurd (omega arith)

    old : (i p : ℕ) → i < 1 → IsChildOf (v ∷ []) p i → IsLastChild (v ∷ []) p i (kin_at (no_kin ∷ []) i).older
    old i p w child = absurd (none p i w child)

-- The tree of the greatest kinds, and the valuation that it gives.
use Rattle.std.proofs.Common.{◌≡◌, ◌≢◌, ℕ, zero, suc, ◌+◌, ◌<◌, ◌≤◌, ◌⊎◌, inl, inr, Bool, true, false, IsTrue, Option, None, Some, List, [], ◌∷◌, ◌++◌, length, refl, sym, ap, subst, ◌∙◌, arith, nat_eq}
use Rattle.std.proofs.lemmas.List.{length-append, get_or_append_left}
use Rattle.std.proofs.lemmas.Cmp.{tied_itself}
use Rattle.std.proofs.Math.Seq.{get_or-append_seam}
use Rattle.script_names.specs.Names.{is_name}
use Rattle.feature_trees.specs.declared.kind.Kind.{Kind}
use Rattle.feature_trees.specs.declared.kind.Kind.TheVariants as kind
use Rattle.feature_trees.specs.declared.value.Value.{Value}
use Rattle.feature_trees.specs.declared.value.Value.TheVariants.{Absent, Reg, Link}
use Rattle.feature_trees.specs.declared.shape.Entry.{Entry}
use Rattle.feature_trees.specs.Kinds.{has}
use Rattle.feature_trees.specs.Tree.{entry, kind_of, find, update, by_order}
use Rattle.feature_trees.specs.View.{node_of, value_of, value_of-node_of}
use Rattle.feature_trees.specs.Sound.{sound, sound_all}
use Rattle.feature_trees.proofs.Laws.{ord, Rises, rises_of, find-update_same, find-update_other}
use Rattle.feature_trees.proofs.Kept.{sound-update}
use Rattle.clause_solver.specs.declared.variable.Definition.{Definition}
use Rattle.clause_solver.specs.declared.variable.Definition.TheVariants.{Start, Child, Derived, Ensured, Made}
use Rattle.clause_solver.specs.declared.variable.Variable.{Variable}
use Rattle.tree_clauses.specs.Literals.{Valuation, value_of_variable, IsSound}
use Rattle.clause_solver.specs.Variables.{var_at, Listed, allowed, defined, made_value, AllFit, is_node, Earlier, Ordered}
use Rattle.clause_solver.specs.Greatest.{kind_at, is_dir, best_by, IsBest, HasEntryOutside, free, child_present, here, below, kept, IsSatisfied, unfenced_if}
use Rattle.clause_solver.specs.Opens.{IsRoot, itself, derived, ensured}
use Rattle.clause_solver.specs.Grown.{grown, add, children, extra, values}
use Rattle.clause_solver.proofs.Names.{nat_cases, bool_cases, eq_cases, same_yes, name_cases}
use Rattle.clause_solver.proofs.GreatestKinds.{is_dir_cases}
use Rattle.tree_clauses.proofs.Values.{entry_of_dir, absent_kind, present_kind, derived_same, derived_other, entry_is}
use Rattle.clause_solver.proofs.Pairs.{sound_at}
use Rattle.clause_solver.proofs.OneMore.{defined_sound, defined_same, sound_push}

pub kind_grown : (k : Kind) (target : Option (List ℕ)) (es : List Entry) → kind_of (grown k target es) ≡ k
kind_grown kind.Absent target es = refl
kind_grown kind.Reg target es = refl
kind_grown kind.Link target es = refl
kind_grown (kind.Special s) target es = refl
kind_grown kind.Dir target es = refl

grown_sound : (k : Kind) (target : Option (List ℕ)) (es : List Entry) → IsTrue (sound_all es) → IsTrue (sound (grown k target es))
grown_sound kind.Absent target es s = refl
grown_sound kind.Reg target es s = refl
grown_sound kind.Link target es s = refl
grown_sound (kind.Special which) target es s = refl
grown_sound kind.Dir target es s = s

-- a child's name is a name
abbrev pub Named : Definition → Type 0
Named Start = Unit {0}
Named (Child p f) = IsTrue (is_name f)
Named (Derived x f y) = Unit {0}
Named (Ensured x) = Unit {0}
Named (Made m) = Unit {0}

abbrev pub AllNamed : List Variable → Type 0
AllNamed cs = (i : ℕ) → i < length cs → Named (var_at cs i).definition

abbrev pub AllSound : Valuation → Type 0
AllSound ts = (i : ℕ) → IsTrue (sound (value_of_variable ts i))

named_by : (vars : List Variable) (i : ℕ) (d : Definition) → Earlier vars i d → Named d
named_by vars i Start e = tt
named_by vars i (Child p f) e = e.2
named_by vars i (Derived x f y) e = tt
named_by vars i (Ensured x) e = tt
named_by vars i (Made m) e = tt

pub all_named : (vars : List Variable) → Ordered vars → AllNamed vars
all_named vars order i w = named_by vars i (var_at vars i).definition (order.earlier i w)

tail_named : (c : Variable) (cs : List Variable) → AllNamed (c ∷ cs) → AllNamed cs
tail_named c cs n i w = n (suc i) (omega arith)

tail_sound : (t : Value) (ts : Valuation) → AllSound (t ∷ ts) → AllSound ts
tail_sound t ts s i = s (suc i)

add_sound : (p : ℕ) (d : Definition) (t : Value) (es : List Entry) → Named d → IsTrue (sound t) → IsTrue (sound_all es) → IsTrue (sound_all (add p d t es))
add_sound p Start t es n s r = r
add_sound p (Child q f) t es n s r = elim (bool_cases (nat_eq q p)) [
  | inl a ↦ rw a (sound-update es f t r n s)
  | inr a ↦ rw a r
]
add_sound p (Derived x f y) t es n s r = r
add_sound p (Ensured x) t es n s r = r
add_sound p (Made m) t es n s r = r

pub children_sound : (p : ℕ) (cs : List Variable) (ts : Valuation) (first : List Entry) → AllNamed cs → AllSound ts → IsTrue (sound_all first) → IsTrue (sound_all (children p cs ts first))
children_sound p [] ts first n s r = r
children_sound p (c ∷ cs) [] first n s r = r
children_sound p (c ∷ cs) (t ∷ ts) first n s r =
    add_sound p c.definition t (children p cs ts first) (n zero (omega arith)) (s zero) (children_sound p cs ts first (tail_named c cs n) (tail_sound t ts s) r)

pub extra_sound : (b : Bool) (z : List ℕ) → IsTrue (is_name z) → IsTrue (sound_all (extra b z))
extra_sound false z n = refl
extra_sound true z n = sound-update [] z Reg refl n refl

pub values_length : (best : List Kind) (open_at : ℕ → Bool) (z : List ℕ) (k : ℕ) (cs : List Variable) → length (values best open_at z k cs) ≡ length cs
values_length best open_at z k [] = refl
values_length best open_at z k (c ∷ cs) = ap suc (values_length best open_at z (suc k) cs)

pub values_kind : (best : List Kind) (open_at : ℕ → Bool) (z : List ℕ) (k : ℕ) (cs : List Variable) (i : ℕ) → i < length cs → kind_of (value_of_variable (values best open_at z k cs) i) ≡ kind_at best (k + i)
values_kind best open_at z k [] i w = absurd (omega arith)
values_kind best open_at z k (c ∷ cs) zero w = let e : k + 0 ≡ k = omega arith in rw e (kind_grown (kind_at best k) c.target (children k cs (values best open_at z (suc k) cs) (extra (open_at k) z)))
values_kind best open_at z k (c ∷ cs) (suc i) w = let e : k + suc i ≡ suc k + i = omega arith in rw e (values_kind best open_at z (suc k) cs i (omega arith))

-- a link has its target, where one is known
values_target : (best : List Kind) (open_at : ℕ → Bool) (z : List ℕ) (k : ℕ) (cs : List Variable) (i : ℕ) (b : List ℕ) → i < length cs → kind_at best (k + i) ≡ kind.Link → (var_at cs i).target ≡ Some b → value_of_variable (values best open_at z k cs) i ≡ Link b
values_target best open_at z k [] i b w d t = absurd (omega arith)
values_target best open_at z k (c ∷ cs) zero b w d t = let e : k + 0 ≡ k = omega arith in let d' : kind_at best k ≡ kind.Link = rw e at d in rw (d', t) refl
values_target best open_at z k (c ∷ cs) (suc i) b w d t = let e : k + suc i ≡ suc k + i = omega arith in values_target best open_at z (suc k) cs i b (omega arith) (rw e at d) t

pub values_sound : (best : List Kind) (open_at : ℕ → Bool) (z : List ℕ) (k : ℕ) (cs : List Variable) → IsTrue (is_name z) → AllNamed cs → AllSound (values best open_at z k cs)
values_sound best open_at z k [] zn n i = refl
values_sound best open_at z k (c ∷ cs) zn n zero =
    grown_sound (kind_at best k) c.target _ (children_sound k cs (values best open_at z (suc k) cs) (extra (open_at k) z) (tail_named c cs n) (values_sound best open_at z (suc k) cs zn (tail_named c cs n)) (extra_sound (open_at k) z zn))
values_sound best open_at z k (c ∷ cs) zn n (suc i) = values_sound best open_at z (suc k) cs zn (tail_named c cs n) i

add_cases : (p : ℕ) (d : Definition) (t : Value) (es : List Entry) (h : List ℕ) → Rises es → ((d ≡ Child p h) × (find (add p d t es) h ≡ t)) ⊎ (find (add p d t es) h ≡ find es h)
add_cases p Start t es h r = inr refl
add_cases p (Child q f) t es h r = elim (eq_cases q p) [
  | inl a ↦ elim (name_cases f h) [
    | inl b ↦ inl (rw (a.0, b.0) refl, rw a.1 (ap (find (update es f t)) (sym b.0) ∙ find-update_same es f t r))
    | inr b ↦ inr (rw a.1 (find-update_other es f h t r b.0))
  ]
  | inr a ↦ inr (rw a.1 refl)
]
add_cases p (Derived x f y) t es h r = inr refl
add_cases p (Ensured x) t es h r = inr refl
add_cases p (Made k) t es h r = inr refl

add_here : (p : ℕ) (f : List ℕ) (t : Value) (es : List Entry) → Rises es → find (add p (Child p f) t es) f ≡ t
add_here p f t es r = rw (same_yes p p refl) (find-update_same es f t r)

add_other : (p : ℕ) (d : Definition) (t : Value) (es : List Entry) (h : List ℕ) → Rises es → (d ≡ Child p h → ⊥) → find (add p d t es) h ≡ find es h
add_other p d t es h r never = elim (add_cases p d t es h r) [ inl a ↦ absurd (never a.0) | inr b ↦ b ]

children_rises : (p : ℕ) (cs : List Variable) (ts : Valuation) (first : List Entry) → AllNamed cs → AllSound ts → IsTrue (sound_all first) → Rises (children p cs ts first)
children_rises p cs ts first n s r = rises_of (children p cs ts first) (children_sound p cs ts first n s r)

children_find : (p : ℕ) (f : List ℕ) (cs : List Variable) (ts : Valuation) (first : List Entry) (j : ℕ) → AllNamed cs → AllSound ts → IsTrue (sound_all first) → length ts ≡ length cs → j < length cs → (var_at cs j).definition ≡ Child p f → ((m : ℕ) → m < j → (var_at cs m).definition ≡ Child p f → ⊥) → find (children p cs ts first) f ≡ value_of_variable ts j
children_find p f [] ts first j n s r same w e never = absurd (omega arith)
children_find p f (c ∷ cs) [] first j n s r same w e never = absurd (omega arith)
children_find p f (c ∷ cs) (t ∷ ts) first zero n s r same w e never =
    rw e (add_here p f t (children p cs ts first) (children_rises p cs ts first (tail_named c cs n) (tail_sound t ts s) r))
children_find p f (c ∷ cs) (t ∷ ts) first (suc j) n s r same w e never =
    add_other p c.definition t (children p cs ts first) f (children_rises p cs ts first (tail_named c cs n) (tail_sound t ts s) r) (never zero (omega arith))
    ∙ children_find p f cs ts first j (tail_named c cs n) (tail_sound t ts s) r (omega arith) (omega arith) e (λ m h. never (suc m) (omega arith))

children_only : (p : ℕ) (h : List ℕ) (cs : List Variable) (ts : Valuation) (first : List Entry) → AllNamed cs → AllSound ts → IsTrue (sound_all first) → length ts ≡ length cs → find (children p cs ts first) h ≢ Absent → ((j : ℕ) × (j < length cs) × ((var_at cs j).definition ≡ Child p h) × (value_of_variable ts j ≢ Absent)) ⊎ (find first h ≢ Absent)
children_only p h [] ts first n s r same some = inr some
children_only p h (c ∷ cs) [] first n s r same some = inr some
children_only p h (c ∷ cs) (t ∷ ts) first n s r same some = elim (add_cases p c.definition t (children p cs ts first) h (children_rises p cs ts first (tail_named c cs n) (tail_sound t ts s) r)) [
  | inl a ↦ inl (0, omega arith, a.0, λ q. some (a.1 ∙ q))
  | inr b ↦ elim (children_only p h cs ts first (tail_named c cs n) (tail_sound t ts s) r (omega arith) (λ q. some (b ∙ q))) [
    | inl d ↦ inl (suc d.0, let w = d.1 in omega arith, d.2, d.3)
    | inr d ↦ inr d
  ]
]

children_skip : (p : ℕ) (h : List ℕ) (cs : List Variable) (ts : Valuation) (first : List Entry) → AllNamed cs → AllSound ts → IsTrue (sound_all first) → ((j : ℕ) → j < length cs → (var_at cs j).definition ≡ Child p h → ⊥) → find (children p cs ts first) h ≡ find first h
children_skip p h [] ts first n s r never = refl
children_skip p h (c ∷ cs) [] first n s r never = refl
children_skip p h (c ∷ cs) (t ∷ ts) first n s r never =
    add_other p c.definition t (children p cs ts first) h (children_rises p cs ts first (tail_named c cs n) (tail_sound t ts s) r) (never zero (omega arith))
    ∙ children_skip p h cs ts first (tail_named c cs n) (tail_sound t ts s) r (λ j w. never (suc j) (omega arith))

extra_find : (z : List ℕ) → find (extra true z) z ≡ Reg
extra_find z = ap (λ o. by_order o Absent (value_of (node_of Reg)) Absent) (tied_itself ord z) ∙ value_of-node_of Reg tt

extra_only : (b : Bool) (z h : List ℕ) → find (extra b z) h ≢ Absent → IsTrue b × (h ≡ z)
extra_only false z h some = absurd (some refl)
extra_only true z h some = elim (name_cases z h) [
  | inl e ↦ (refl, sym e.0)
  | inr n ↦ absurd (some (find-update_other [] z h Reg (rises_of [] refl) n.0))
]

grown_entry : (b : Kind) (target : Option (List ℕ)) (es : List Entry) (h : List ℕ) → entry (grown b target es) h ≢ Absent → find es h ≢ Absent
grown_entry kind.Absent target es h some = absurd (some refl)
grown_entry kind.Reg target es h some = absurd (some refl)
grown_entry kind.Link target es h some = absurd (some refl)
grown_entry (kind.Special s) target es h some = absurd (some refl)
grown_entry kind.Dir target es h some = some

module _ (best : List Kind) (open_at : ℕ → Bool) (z : List ℕ) (zn : IsTrue (is_name z)) where
  entry_values : (k : ℕ) (f : List ℕ) (cs : List Variable) (i j : ℕ) → AllNamed cs → i < j → j < length cs → (var_at cs j).definition ≡ Child (k + i) f → kind_at best (k + i) ≡ kind.Dir → ((m : ℕ) → m < j → (var_at cs m).definition ≡ Child (k + i) f → ⊥) → value_of_variable (values best open_at z k cs) j ≡ entry (value_of_variable (values best open_at z k cs) i) f
  entry_values k f [] i j n h w e d never = absurd (omega arith)
  entry_values k f (c ∷ cs) i zero n h w e d never = absurd (omega arith)
  entry_values k f (c ∷ cs) zero (suc j) n h w e d never =
      let zz : k + 0 ≡ k = omega arith in
      let d' : kind_at best k ≡ kind.Dir = rw zz at d in
      let e' : (var_at cs j).definition ≡ Child k f = rw zz at e in
      let vs = values best open_at z (suc k) cs in
      rw d' (sym (children_find k f cs vs (extra (open_at k) z) j (tail_named c cs n) (values_sound best open_at z (suc k) cs zn (tail_named c cs n)) (extra_sound (open_at k) z zn) (values_length best open_at z (suc k) cs) (omega arith) e'
      (λ m b q. let q' : (var_at (c ∷ cs) (suc m)).definition ≡ Child (k + 0) f = rw zz q in never (suc m) (omega arith) q')))
  entry_values k f (c ∷ cs) (suc i) (suc j) n h w e d never =
      let shift : k + suc i ≡ suc k + i = omega arith in
      entry_values (suc k) f cs i j (tail_named c cs n) (omega arith) (omega arith) (rw shift at e) (rw shift at d)
      (λ m b q. let q' : (var_at (c ∷ cs) (suc m)).definition ≡ Child (k + suc i) f = rw shift q in never (suc m) (omega arith) q')

  only_values : (k : ℕ) (h : List ℕ) (cs : List Variable) (i : ℕ) → AllNamed cs → i < length cs → entry (value_of_variable (values best open_at z k cs) i) h ≢ Absent → ((j : ℕ) × (j < length cs) × ((var_at cs j).definition ≡ Child (k + i) h) × (value_of_variable (values best open_at z k cs) j ≢ Absent)) ⊎ (find (extra (open_at (k + i)) z) h ≢ Absent)
  only_values k h [] i n w some = absurd (omega arith)
  only_values k h (c ∷ cs) zero n w some =
      let zz : k + 0 ≡ k = omega arith in
      let vs = values best open_at z (suc k) cs in
      elim (children_only k h cs vs (extra (open_at k) z) (tail_named c cs n) (values_sound best open_at z (suc k) cs zn (tail_named c cs n)) (extra_sound (open_at k) z zn) (values_length best open_at z (suc k) cs)
      (grown_entry (kind_at best k) c.target (children k cs vs (extra (open_at k) z)) h some)) [
        | inl r ↦ inl (suc r.0, let w' = r.1 in omega arith, rw zz r.2, r.3)
        | inr r ↦ inr (rw zz r)
      ]
  only_values k h (c ∷ cs) (suc i) n w some =
      let shift : k + suc i ≡ suc k + i = omega arith in
      elim (only_values (suc k) h cs i (tail_named c cs n) (omega arith) some) [
        | inl r ↦ inl (suc r.0, let w' = r.1 in omega arith, rw shift r.2, r.3)
        | inr r ↦ inr (rw shift r)
      ]

  fresh_values : (k : ℕ) (cs : List Variable) (i : ℕ) → AllNamed cs → i < length cs → open_at (k + i) ≡ true → kind_at best (k + i) ≡ kind.Dir → ((j p : ℕ) → j < length cs → (var_at cs j).definition ≡ Child p z → ⊥) → entry (value_of_variable (values best open_at z k cs) i) z ≡ Reg
  fresh_values k [] i n w o d never = absurd (omega arith)
  fresh_values k (c ∷ cs) zero n w o d never =
      let zz : k + 0 ≡ k = omega arith in
      let d' : kind_at best k ≡ kind.Dir = rw zz at d in
      let o' : open_at k ≡ true = rw zz at o in
      let vs = values best open_at z (suc k) cs in
      rw (d', o') (children_skip k z cs vs (extra true z) (tail_named c cs n) (values_sound best open_at z (suc k) cs zn (tail_named c cs n)) (extra_sound true z zn) (λ j b. never (suc j) k (omega arith)) ∙ extra_find z)
  fresh_values k (c ∷ cs) (suc i) n w o d never =
      let shift : k + suc i ≡ suc k + i = omega arith in
      fresh_values (suc k) cs i (tail_named c cs n) (omega arith) (rw shift at o) (rw shift at d) (λ j p b. never (suc j) p (omega arith))

-- the value of a variable, from those of the earlier ones and of the places
abbrev pub next : Valuation → Valuation → ℕ → Definition → Value
next g vs i Start = value_of_variable vs i
next g vs i (Child p f) = value_of_variable vs i
next g vs i (Derived x f y) = defined g (Derived x f y)
next g vs i (Ensured x) = defined g (Ensured x)
next g vs i (Made m) = made_value m

abbrev pub evals : List Variable → Valuation → ℕ → Valuation
evals vars vs zero = []
evals vars vs (suc n) = evals vars vs n ++ next (evals vars vs n) vs n (var_at vars n).definition ∷ []

pub evals_length : (vars : List Variable) (vs : Valuation) (n : ℕ) → length (evals vars vs n) ≡ n
evals_length vars vs zero = refl
evals_length vars vs (suc n) =
    let e = evals_length vars vs n in
    let more : length (evals vars vs (suc n)) ≡ length (evals vars vs n) + 1 = length-append (evals vars vs n) (next (evals vars vs n) vs n (var_at vars n).definition ∷ []) in
    omega (arith, more, e)

evals_at : (vars : List Variable) (vs : Valuation) (n i : ℕ) → i < n → value_of_variable (evals vars vs n) i ≡ next (evals vars vs i) vs i (var_at vars i).definition
evals_at vars vs zero i h = absurd (omega arith)
evals_at vars vs (suc n) i h =
    let long = evals_length vars vs n in
    elim (nat_cases i n) [
      | inl e ↦
          let e' : i ≡ length (evals vars vs n) = e ∙ sym long in
          let top : value_of_variable (evals vars vs (suc n)) i ≡ next (evals vars vs n) vs n (var_at vars n).definition =
          rw e' (get_or-append_seam (evals vars vs n) (next (evals vars vs n) vs n (var_at vars n).definition) [] Absent) in
          let P : ℕ → Type 0 = λ m. value_of_variable (evals vars vs (suc n)) i ≡ next (evals vars vs m) vs m (var_at vars m).definition in
          subst P (sym e) top
      | inr ne ↦
          let low : i < length (evals vars vs n) = omega (arith, long) in
          get_or_append_left (evals vars vs n) (next (evals vars vs n) vs n (var_at vars n).definition ∷ []) Absent i low ∙ evals_at vars vs n i (omega arith)
    ]

evals_same : (vars : List Variable) (vs : Valuation) (n m i : ℕ) → i < n → i < m → value_of_variable (evals vars vs n) i ≡ value_of_variable (evals vars vs m) i
evals_same vars vs n m i h w = evals_at vars vs n i h ∙ sym (evals_at vars vs m i w)

next_sound : (vars : List Variable) (g vs : Valuation) (i : ℕ) (d : Definition) → Earlier vars i d → IsSound g → AllSound vs → IsTrue (sound (next g vs i d))
next_sound vars g vs i Start e s a = a i
next_sound vars g vs i (Child p f) e s a = a i
next_sound vars g vs i (Derived x f y) e s a = defined_sound vars i g (Derived x f y) e s
next_sound vars g vs i (Ensured x) e s a = defined_sound vars i g (Ensured x) e s
next_sound vars g vs i (Made m) e s a = defined_sound vars i g (Made m) e s

pub evals_sound : (vars : List Variable) (vs : Valuation) (n : ℕ) → Ordered vars → AllSound vs → n ≤ length vars → IsSound (evals vars vs n)
evals_sound vars vs zero order a le = λ k d w. absurd (omega arith)
evals_sound vars vs (suc n) order a le =
    let s = evals_sound vars vs n order a (omega arith) in
    sound_push (evals vars vs n) (next (evals vars vs n) vs n (var_at vars n).definition) s (next_sound vars (evals vars vs n) vs n (var_at vars n).definition (order.earlier n (omega arith)) s a)

module _ (vars : List Variable) (best : List Kind) (open_at : ℕ → Bool) (z : List ℕ) (zn : IsTrue (is_name z)) (order : Ordered vars) (is : IsBest vars best)
    (open_free : (i : ℕ) → i < length vars → IsTrue (open_at i) → (var_at vars i).fence ≡ None)
    (new_child : (j p : ℕ) → j < length vars → (var_at vars j).definition ≡ Child p z → ⊥) (new_derived : (j x y : ℕ) → j < length vars → (var_at vars j).definition ≡ Derived x z y → ⊥) where
  abbrev pub vals : Valuation
  vals = values best open_at z 0 vars

  abbrev pub whole : Valuation
  whole = evals vars vals (length vars)

  vals_kind : (i : ℕ) → i < length vars → kind_of (value_of_variable vals i) ≡ kind_at best i
  vals_kind i w = let zz : 0 + i ≡ i = omega arith in rw zz at (values_kind best open_at z 0 vars i w)

  best_is : (i : ℕ) (d : Definition) → i < length vars → (var_at vars i).definition ≡ d → kind_at best i ≡ best_by vars best (var_at vars i).kinds d
  best_is i d w e = is i w ∙ ap (best_by vars best (var_at vars i).kinds) e

  whole_is : (i : ℕ) (d : Definition) → i < length vars → (var_at vars i).definition ≡ d → value_of_variable whole i ≡ next (evals vars vals i) vals i d
  whole_is i d w e = evals_at vars vals (length vars) i w ∙ ap (next (evals vars vals i) vals i) e

  -- what is made of earlier values in the beginning is made of them in the whole
  defined_whole : (i : ℕ) (d : Definition) → i < length vars → Earlier vars i d → 0 < i → defined (evals vars vals i) d ≡ defined whole d
  defined_whole i d w e some = defined_same vars (evals vars vals i) whole i (λ m h. evals_same vars vals i (length vars) m h (omega arith)) i d some (omega arith) e

  -- a child that is there is allowed below its directory
  child_best : (i p : ℕ) (f : List ℕ) → i < length vars → (var_at vars i).definition ≡ Child p f → kind_at best i ≢ kind.Absent → (kind_at best p ≡ kind.Dir) × IsTrue (allowed (var_at vars p).fence f)
  child_best i p f w e some =
      let b = best_is i (Child p f) w e in
      elim (is_dir_cases (kind_at best p)) [
        | inl d ↦ elim (bool_cases (allowed (var_at vars p).fence f)) [
          | inl t ↦ (d, t)
          | inr u ↦ let d' : is_dir (kind_at best p) ≡ true = ap is_dir d in absurd (some (b ∙ rw (d', u) refl))
        ]
        | inr u ↦ absurd (some (b ∙ rw u refl))
      ]

  -- the entry equations of the places
  vals_child : (i p : ℕ) (f : List ℕ) → i < length vars → (var_at vars i).definition ≡ Child p f → value_of_variable vals i ≡ entry (value_of_variable vals p) f
  vals_child i p f w e =
      let before = rw e at (order.earlier i w) in
      let zz : 0 + p ≡ p = omega arith in
      elim (is_dir_cases (kind_at best p)) [
        | inl d ↦
            let e' : (var_at vars i).definition ≡ Child (0 + p) f = rw zz e in
            entry_values best open_at z zn 0 f vars p i (all_named vars order) before.0 w e' (rw zz d) (λ m b q. order.single m i p f b w (rw zz at q) e)
        | inr u ↦
            let low : kind_of (value_of_variable vals i) ≡ kind.Absent = vals_kind i w ∙ best_is i (Child p f) w e ∙ rw u refl in
            let up = vals_kind p (omega (arith, before.0)) in
            let gone : entry (value_of_variable vals p) f ≡ Absent =
            elim (entry_of_dir (value_of_variable vals p) f) [
              | inl d ↦ let q : is_dir (kind_at best p) ≡ true = ap is_dir (sym up ∙ d) in absurd (cc)
              | inr a ↦ a
            ] in
            absent_kind (value_of_variable vals i) low ∙ sym gone
      ]

  node_by : (i : ℕ) → i < length vars → (d : Definition) → (var_at vars i).definition ≡ d → IsTrue (is_node d) → value_of_variable whole i ≡ value_of_variable vals i
  node_by i w Start e t = whole_is i Start w e
  node_by i w (Child p f) e t = whole_is i (Child p f) w e
  node_by i w (Derived x f y) e t = cc
  node_by i w (Ensured x) e t = cc
  node_by i w (Made k) e t = cc

  pub node_is : (i : ℕ) → i < length vars → IsTrue (is_node (var_at vars i).definition) → value_of_variable whole i ≡ value_of_variable vals i
  node_is i w t = node_by i w (var_at vars i).definition refl t

  is_by : (i : ℕ) → i < length vars → (d : Definition) → (var_at vars i).definition ≡ d → value_of_variable whole i ≡ defined whole d
  is_by i w Start e =
      let first : i ≡ 0 = rw e at (order.earlier i w) in
      ap (value_of_variable whole) first
  is_by i w (Child p f) e =
      let before = rw e at (order.earlier i w) in
      let p_known : p < length vars = omega (arith, before.0) in
      whole_is i (Child p f) w e ∙ vals_child i p f w e ∙ ap (λ v. entry v f) (sym (node_is p p_known before.1))
  is_by i w (Derived x f y) e =
      let before = rw e at (order.earlier i w) in
      whole_is i (Derived x f y) w e ∙ defined_whole i (Derived x f y) w before (omega (arith, before.0))
  is_by i w (Ensured x) e =
      let before = rw e at (order.earlier i w) in
      whole_is i (Ensured x) w e ∙ defined_whole i (Ensured x) w before (omega (arith, before))
  is_by i w (Made k) e = whole_is i (Made k) w e

  kind_by : (i : ℕ) → i < length vars → (d : Definition) → (var_at vars i).definition ≡ d → kind_of (value_of_variable whole i) ≡ kind_at best i
  kind_by i w Start e = ap kind_of (whole_is i Start w e) ∙ vals_kind i w
  kind_by i w (Child p f) e = ap kind_of (whole_is i (Child p f) w e) ∙ vals_kind i w
  kind_by i w (Derived x f y) e = ap kind_of (whole_is i (Derived x f y) w e) ∙ sym (best_is i (Derived x f y) w e)
  kind_by i w (Ensured x) e = ap kind_of (whole_is i (Ensured x) w e) ∙ sym (best_is i (Ensured x) w e)
  kind_by i w (Made k) e = ap kind_of (whole_is i (Made k) w e) ∙ sym (best_is i (Made k) w e)

  pub kind_is : (i : ℕ) → i < length vars → kind_of (value_of_variable whole i) ≡ kind_at best i
  kind_is i w = kind_by i w (var_at vars i).definition refl

  -- a value that isn't absent among the greatest kinds
  some_is : (i : ℕ) → i < length vars → kind_at best i ≢ kind.Absent → value_of_variable whole i ≢ Absent
  some_is i w some q = some (sym (kind_is i w) ∙ ap kind_of q)

  extra_by : (i : ℕ) (h : List ℕ) (b : Bool) → i < length vars → open_at i ≡ b → find (extra b z) h ≢ Absent → IsTrue (allowed (var_at vars i).fence h)
  extra_by i h false w e some = absurd (some refl)
  extra_by i h true w e some = rw (open_free i w e) refl

  fence_node : (i : ℕ) (h : List ℕ) → i < length vars → entry (value_of_variable vals i) h ≢ Absent → IsTrue (allowed (var_at vars i).fence h)
  fence_node i h w some =
      let zz : 0 + i ≡ i = omega arith in
      elim (only_values best open_at z zn 0 h vars i (all_named vars order) w some) [
        | inl r ↦
            let e : (var_at vars r.0).definition ≡ Child i h = rw zz at r.2 in
            let there : kind_at best r.0 ≢ kind.Absent = λ q. present_kind (value_of_variable vals r.0) r.3 (vals_kind r.0 r.1 ∙ q) in
            (child_best r.0 i h r.1 e there).1
        | inr r ↦ extra_by i h (open_at i) w refl (rw zz at r)
      ]

  fence_is : (i : ℕ) (h : List ℕ) → i < length vars → entry (value_of_variable whole i) h ≢ Absent → IsTrue (allowed (var_at vars i).fence h)
  fence_is i h w some =
      elim (bool_cases (is_node (var_at vars i).definition)) [
        | inl t ↦ fence_node i h w (λ q. some (ap (λ v. entry v h) (node_is i w t) ∙ q))
        | inr u ↦ rw (order.nodes i w u) refl
      ]

  pub whole_sound : IsSound whole
  whole_sound = evals_sound vars vals (length vars) order (values_sound best open_at z 0 vars zn (all_named vars order)) (omega arith)

  has_entry_is : {i : ℕ} {ds : List (List ℕ)} → HasEntryOutside vars best open_at i ds → i < length vars → ¬ (Listed z ds) → (h : List ℕ) × (¬ (Listed h ds)) × (entry (value_of_variable whole i) h ≢ Absent)
  has_entry_is {i} {ds} (free node d o) w out =
      let zz : 0 + i ≡ i = omega arith in
      let there : entry (value_of_variable vals i) z ≡ Reg = fresh_values best open_at z zn 0 vars i (all_named vars order) w (rw zz o) (rw zz d) new_child in
      (z, out, λ q. let r : Reg ≡ Absent = sym (ap (λ v. entry v z) (node_is i w node) ∙ there) ∙ q in let k : kind.Reg ≡ kind.Absent = ap kind_of r in absurd (cc))
  has_entry_is {i} {ds} (child_present m f b e some out') w out =
      (f, out', λ q. some_is m b some (is_by m b (Child i f) e ∙ q))
  has_entry_is {i} {ds} (here x f y e some out') w out =
      let before = rw e at (order.earlier i w) in
      let at_f : entry (value_of_variable whole i) f ≡ value_of_variable whole y = ap (λ v. entry v f) (is_by i w (Derived x f y) e) ∙ derived_same (value_of_variable whole x) (value_of_variable whole y) f (sound_at whole whole_sound x) in
      (f, out', λ q. some_is y (omega (arith, before.1)) some (sym at_f ∙ q))
  has_entry_is {i} {ds} (below x f y e rest1) w out =
      let before = rw e at (order.earlier i w) in
      let deep = has_entry_is rest1 (omega (arith, before.0)) (λ l. elim l [ inl q ↦ new_derived i x y w (rw (← q) at e) | inr r ↦ out r ]) in (
        deep.0,
        (λ l. deep.1 (inr l)),
        λ q.
            let at_h : entry (value_of_variable whole i) deep.0 ≡ entry (value_of_variable whole x) deep.0 = ap (λ v. entry v deep.0) (is_by i w (Derived x f y) e) ∙ derived_other (value_of_variable whole x) (value_of_variable whole y) f deep.0 (sound_at whole whole_sound x) (λ same. deep.1 (inl (sym same))) in
            deep.2 (sym at_h ∙ q),
      )
  has_entry_is {i} {ds} (kept x e rest1) w out =
      let before = rw e at (order.earlier i w) in
      let deep = has_entry_is rest1 (omega (arith, before)) out in
      (deep.0, deep.1, λ q. deep.2 (sym (ap (λ v. entry v deep.0) (is_by i w (Ensured x) e) ∙ entry_is (value_of_variable whole x) deep.0) ∙ q))

  -- a child's value is the entry of its place
  pub child_is : (i j : ℕ) (h : List ℕ) → j < length vars → (var_at vars j).definition ≡ Child i h → value_of_variable whole j ≡ entry (value_of_variable whole i) h
  child_is i j h w e = is_by j w (Child i h) e

  -- an entry of a place is that of a variable, or the new one where the place is open
  pub place_entry : (i : ℕ) (h : List ℕ) → i < length vars → IsTrue (is_node (var_at vars i).definition) → entry (value_of_variable whole i) h ≢ Absent → ((j : ℕ) × (j < length vars) × ((var_at vars j).definition ≡ Child i h) × (kind_at best j ≢ kind.Absent)) ⊎ (IsTrue (open_at i) × (h ≡ z))
  place_entry i h w node some =
      let zz : 0 + i ≡ i = omega arith in
      elim (only_values best open_at z zn 0 h vars i (all_named vars order) w (λ q. some (ap (λ v. entry v h) (node_is i w node) ∙ q))) [
        | inl r ↦
            let e : (var_at vars r.0).definition ≡ Child i h = rw zz at r.2 in
            inl (r.0, r.1, e, λ q. present_kind (value_of_variable vals r.0) r.3 (vals_kind r.0 r.1 ∙ q))
        | inr r ↦ inr (extra_only (open_at i) z h (rw zz at r))
      ]

  -- the new entry is a regular file
  pub place_new : (i : ℕ) → i < length vars → IsTrue (is_node (var_at vars i).definition) → IsTrue (open_at i) → entry (value_of_variable whole i) z ≢ Absent → entry (value_of_variable whole i) z ≡ Reg
  place_new i w node o some =
      let zz : 0 + i ≡ i = omega arith in
      let dir : kind_at best i ≡ kind.Dir = elim (entry_of_dir (value_of_variable whole i) z) [
        | inl d ↦ sym (kind_is i w) ∙ d
        | inr a ↦ absurd (some a)
      ] in
      ap (λ v. entry v z) (node_is i w node) ∙ fresh_values best open_at z zn 0 vars i (all_named vars order) w (rw zz o) (rw zz dir) new_child

  -- where a variable has no entry but for open places, its one entry is the new one
  pub only_new : {i r : ℕ} → IsRoot vars i r → (ds : List (List ℕ)) → i < length vars → ¬ (HasEntryOutside vars best (unfenced_if vars false) i ds) → (h : List ℕ) → ¬ (Listed h ds) → entry (value_of_variable whole i) h ≢ Absent → h ≡ z
  only_new {i} (itself node) ds w none h out some = elim (place_entry i h w node some) [
    | inl r ↦ absurd (none (child_present r.0 h r.1 r.2 r.3 out))
    | inr r ↦ r.1
  ]
  only_new {i} (derived x f y e root) ds w none h out some =
      let before = rw e at (order.earlier i w) in
      elim (name_cases f h) [
        | inl same ↦
            let at_f : entry (value_of_variable whole i) f ≡ value_of_variable whole y = ap (λ v. entry v f) (is_by i w (Derived x f y) e) ∙ derived_same (value_of_variable whole x) (value_of_variable whole y) f (sound_at whole whole_sound x) in
            let there : value_of_variable whole y ≢ Absent = λ q. some (ap (entry (value_of_variable whole i)) (sym same.0) ∙ at_f ∙ q) in
            let kind_there : kind_at best y ≢ kind.Absent = λ q. there (absent_kind (value_of_variable whole y) (kind_is y (omega (arith, before.1)) ∙ q)) in
            absurd (none (here x f y e kind_there (λ l. out (subst (λ n. Listed n ds) same.0 l))))
        | inr other ↦
            let at_h : entry (value_of_variable whole i) h ≡ entry (value_of_variable whole x) h = ap (λ v. entry v h) (is_by i w (Derived x f y) e) ∙ derived_other (value_of_variable whole x) (value_of_variable whole y) f h (sound_at whole whole_sound x) other.0 in
            only_new root (f ∷ ds) (omega (arith, before.0)) (λ l. none (below x f y e l)) h (λ l. elim l [ inl q ↦ other.0 (sym q) | inr q ↦ out q ]) (λ q. some (at_h ∙ q))
      ]
  only_new {i} (ensured x e root) ds w none h out some =
      let before = rw e at (order.earlier i w) in
      let at_h : entry (value_of_variable whole i) h ≡ entry (value_of_variable whole x) h = ap (λ v. entry v h) (is_by i w (Ensured x) e) ∙ entry_is (value_of_variable whole x) h in
      only_new root ds (omega (arith, before)) (λ l. none (kept x e l)) h out (λ q. some (at_h ∙ q))

  target_is : (i : ℕ) (b : List ℕ) → i < length vars → IsTrue (has (var_at vars i).kinds (kind_at best i)) → (var_at vars i).target ≡ Some b → value_of_variable whole i ≡ Link b
  target_is i b w fits t =
      let zz : 0 + i ≡ i = omega arith in
      let place = order.aims i b w t in
      node_is i w place.0 ∙ values_target best open_at z 0 vars i b w (rw zz (place.1 (kind_at best i) fits)) t

  pub all_fit : IsSatisfied vars best open_at → AllFit vars whole
  all_fit satisfied i w = record {
    is = is_by i w (var_at vars i).definition refl;
    kind = rw (kind_is i w) ((satisfied i w).fits);
    fenced = λ h some. fence_is i h w some;
    filled = λ t. let r = has_entry_is ((satisfied i w).filled t) w (λ l. l) in (r.0, r.2);
    aimed = λ b t. target_is i b w (satisfied i w).fits t;
  }

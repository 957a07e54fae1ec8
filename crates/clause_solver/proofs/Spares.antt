-- Nothing at the start that need not be there: one place after another is left out.
use Rattle.std.proofs.Common.{◌≡◌, ◌≢◌, ◌⊎◌, ℕ, zero, suc, ◌+◌, ◌<◌, ◌≤◌, ◌↔◌, ◌&&◌, ◌∙◌, inl, inr, true, false, IsTrue, List, length, refl, sym, ap, subst, arith, set, length-set, get_or-set_other, get_or-set_same}
use Rattle.std.proofs.lemmas.Bool.{and_parts, and_from}
use Rattle.feature_trees.specs.declared.kind.Kind.{Kind}
use Rattle.feature_trees.specs.declared.kind.Kind.TheVariants.{Absent, Dir}
use Rattle.feature_trees.specs.declared.kind.Kinds.{Kinds}
use Rattle.feature_trees.specs.declared.value.Value.{Value}
use Rattle.feature_trees.specs.declared.value.Value.TheVariants as value
use Rattle.feature_trees.specs.Kinds.{has, both, of}
use Rattle.feature_trees.specs.Tree.{entry, kind_of}
use Rattle.tree_clauses.proofs.KindSets.{has_both, of_absent}
use Rattle.tree_clauses.proofs.Values.{absent_or_not, present_kind}
use Rattle.tree_clauses.specs.Literals.{Valuation, value_of_variable, IsSound}
use Rattle.clause_solver.specs.declared.lists.Lists.{Lists}
use Rattle.clause_solver.specs.declared.variable.TheConstants.{MOST_VARIABLES}
use Rattle.clause_solver.specs.declared.variable.Definition.{Definition}
use Rattle.clause_solver.specs.declared.variable.Definition.TheVariants.{Start, Child, Derived, Ensured, Made}
use Rattle.clause_solver.specs.declared.variable.Variable.{Variable}
use Rattle.clause_solver.specs.Variables.{var_at, allowed, narrowed, narrowed_kinds, Ordered, OnlyDir, AlwaysDir, AllFit, defined, made_value}
use Rattle.clause_solver.specs.Greatest.{IsBest, kind_at, is_dir, best_by, best_of, choose, name_in}
use Rattle.clause_solver.specs.Decided.{AreDecided, AreKindsFitting, HaveEntries, number_at}
use Rattle.clause_solver.specs.Plainest.{AreFitting, AreNeededFrom, ArePlainestFrom, IsLeftWithout, IsPlainer, IsPlainestTree, IsSpare, IsThereIn, OnlyAbsent, is_entry}
use Rattle.clause_solver.specs.Stands.{Stands}
use Rattle.clause_solver.proofs.Bare.{filled_literal}
use Rattle.clause_solver.proofs.Deciding.{left_iff, satisfied_by, satisfied_entries}
use Rattle.clause_solver.proofs.Falling.{absent_cases, best_parent, child_cases, parent_before}
use Rattle.clause_solver.proofs.GreatestKinds.{choose_in}
use Rattle.clause_solver.proofs.Least.{shown_some}
use Rattle.clause_solver.proofs.Links.{below_or, narrowed_linked}
use Rattle.clause_solver.proofs.Names.{nat_cases, bool_cases}
use Rattle.clause_solver.proofs.Narrowed.{fits_narrowed, narrowed_definition, narrowed_fits, narrowed_has, narrowed_order}
use Rattle.clause_solver.proofs.OneMore.{seen_of}
use Rattle.clause_solver.proofs.Pairs.{fits_from, fits_to}
use Rattle.clause_solver.proofs.Redecided.{narrowed_but, numbers_still}
use Rattle.clause_solver.proofs.Unique.{unique}

-- nothing but absent is left
pub chosen_absent : (s : Kinds) → IsTrue (has s Absent) → choose (both s (of Absent)) ≡ Absent
chosen_absent s may =
    let some : IsTrue (has (both s (of Absent)) Absent) = rw has_both (and_from (has s Absent) (has (of Absent) Absent) may refl) in
    let chosen = choose_in (both s (of Absent)) Absent some in
    of_absent (choose (both s (of Absent))) (and_parts (has s (choose (both s (of Absent)))) (has (of Absent) (choose (both s (of Absent)))) (rw has_both at chosen)).1

without_kind : (v : Value) → v ≡ value.Absent → IsTrue (has (of Absent) (kind_of v))
without_kind v e = subst (λ u. IsTrue (has (of Absent) (kind_of u))) (sym e) refl

no_kind : (v : Value) → kind_of v ≡ Absent → v ≡ value.Absent
no_kind v e = elim (absent_or_not v) [
  | inl a ↦ a
  | inr some ↦ absurd (present_kind v some e)
]

narrowed_length : (vars : List Variable) (x : ℕ) (k : Kinds) → length (narrowed vars x k) ≡ length vars
narrowed_length vars x k = length-set vars x _

pub less_others : (vars : List Variable) (x : ℕ) (k : Kinds) (i : ℕ) → i ≢ x → var_at (narrowed vars x k) i ≡ var_at vars i
less_others vars x k i ne = rw get_or-set_other refl

-- a valuation by which a place is absent
left_without : (vars : List Variable) (i : ℕ) → i < length vars → (g : Valuation) → length g ≡ length vars → IsSound g → AllFit vars g → value_of_variable g i ≡ value.Absent → IsLeftWithout vars i
left_without vars i w g long sound fits gone = (
  g,
  long ∙ sym (narrowed_length vars i (of Absent)),
  sound,
  fits_narrowed vars i (of Absent) w g fits (without_kind (value_of_variable g i) gone),
)

-- what is left without a place where more is said was left without it before
left_before : (old new : List Variable) → IsPlainer old new → (i : ℕ) → i < length old → IsLeftWithout new i → IsLeftWithout old i
left_before old new plainer i w left =
    let parts = narrowed_fits new i (of Absent) (rw plainer.same w) left.0 left.3 in
    let long : length left.0 ≡ length old = left.1 ∙ narrowed_length new i (of Absent) ∙ plainer.same in
    left_without old i w left.0 long left.2 (plainer.fits left.0 parts.0) (no_kind (value_of_variable left.0 i) (of_absent (kind_of (value_of_variable left.0 i)) parts.1))

-- ---- one place that is spare is left out

module _ (vars : List Variable) (best : List Kind) (x : ℕ) (inside : x < length vars) (long : length best ≡ length vars) (order : Ordered vars) (is : IsBest vars best) (fit : AreKindsFitting vars best) (spare : IsSpare vars best x) where
  abbrev less : List Variable
  less = narrowed vars x (of Absent)

  abbrev kinds : List Kind
  kinds = set best x Absent

  less_long : length less ≡ length vars
  less_long = length-set vars x _

  here : kind_at kinds x ≡ Absent
  here = get_or-set_same best x Absent Absent (rw long inside)

  other : (i : ℕ) → i ≢ x → kind_at kinds i ≡ kind_at best i
  other i ne = get_or-set_other best x i Absent Absent ne

  other_variable : (i : ℕ) → i ≢ x → var_at less i ≡ var_at vars i
  other_variable i ne = rw get_or-set_other refl

  -- its kinds are narrowed to one
  kinds_here : (d : Definition) (ks : Kinds) → IsTrue (is_entry d) → narrowed_kinds (record (var_at vars x) { definition = d; kinds = ks }) (of Absent) ≡ both ks (of Absent)
  kinds_here Start ks h = cc
  kinds_here (Child p f) ks h = refl
  kinds_here (Derived a f b) ks h = cc
  kinds_here (Ensured a) ks h = cc
  kinds_here (Made m) ks h = cc

  less_kinds : (var_at less x).kinds ≡ both (var_at vars x).kinds (of Absent)
  less_kinds = rw get_or-set_same (kinds_here (var_at vars x).definition (var_at vars x).kinds spare.place)

  best_here : (d : Definition) → IsTrue (is_entry d) → best_by less kinds (var_at less x).kinds d ≡ Absent
  best_here Start h = cc
  best_here (Child p f) h = elim (bool_cases (is_dir (kind_at kinds p) && allowed (var_at less p).fence f)) [
    | inl t ↦ rw (t, less_kinds) (chosen_absent (var_at vars x).kinds spare.may)
    | inr neither ↦ rw neither refl
  ]
  best_here (Derived a f b) h = cc
  best_here (Ensured a) h = cc
  best_here (Made m) h = cc

  -- an entry of it is missing
  below_absent : (i : ℕ) (f : List ℕ) → i < length vars → (var_at vars i).definition ≡ Child x f → kind_at best i ≡ Absent
  below_absent i f w e = elim (absent_cases (kind_at best i)) [
    | inl z ↦ z
    | inr some ↦
        let named : name_in (var_at vars i).definition ≡ f = ap name_in e in
        absurd (spare.alone i w (rw named e, some, λ l. l))
  ]

  best_other : (i : ℕ) → i < length vars → i ≢ x → kind_at kinds i ≡ best_of less kinds i
  best_other i w ne = elim (child_cases (var_at vars i).definition x) [
    | inl child ↦
        let d : (var_at less i).definition ≡ Child x child.0 = narrowed_definition vars x (of Absent) inside i ∙ child.1 in
        other i ne ∙ below_absent i child.0 w child.1 ∙ (rw (d, here) refl)
    | inr far ↦
        other i ne ∙ narrowed_but vars x (of Absent) inside best is i w ne
        ∙ sym (best_parent less best kinds (var_at less i).kinds (var_at less i).definition (λ p f e. other p (far p f (sym (narrowed_definition vars x (of Absent) inside i) ∙ e))))
  ]

  pub less_best : IsBest less kinds
  less_best i w' = elim (nat_cases i x) [
    | inl e ↦ rw e (here ∙ sym (best_here (var_at less x).definition (rw (narrowed_definition vars x (of Absent) inside x) spare.place)))
    | inr ne ↦ best_other i (rw less_long at w') ne
  ]

  pub less_fit : AreKindsFitting less kinds
  less_fit i w' = elim (nat_cases i x) [
    | inl e ↦ rw (e, here, less_kinds, has_both) (and_from (has (var_at vars x).kinds Absent) true spare.may refl)
    | inr ne ↦ rw (other i ne, other_variable i ne) (fit i (rw less_long at w'))
  ]

  -- it can be absent alone
  only_here : OnlyAbsent less x
  only_here k h = of_absent k (and_parts (has (var_at vars x).kinds k) (has (of Absent) k) (rw (less_kinds, has_both) at h)).1

  pub less_plainer : IsPlainer vars less
  less_plainer = record {
    same = less_long;
    definition = λ i. narrowed_definition vars x (of Absent) inside i;
    less = λ i k h. narrowed_has vars x (of Absent) inside i k h;
    may = λ i h. elim (nat_cases i x) [
      | inl e ↦ rw (e, less_kinds, has_both) (and_from (has (var_at vars x).kinds Absent) true (rw e at h) refl)
      | inr ne ↦ rw (other_variable i ne) h
    ];
    fits = λ g h. (narrowed_fits vars x (of Absent) inside g h).0;
    back = λ g h gone. fits_narrowed vars x (of Absent) inside g h (without_kind (value_of_variable g x) (gone x inside only_here));
  }

  -- what is spare behind it was so before
  was_spare : (i : ℕ) → x < i → IsSpare less kinds i → IsSpare vars best i
  was_spare i after s =
      let ne : i ≢ x = λ e. omega (arith, after, e) in record {
        place = rw (other_variable i ne) at s.place;
        may = rw (other_variable i ne) at s.may;
        there = rw (other i ne) at s.there;
        alone = λ m w p.
            let apart : m ≢ x = λ e.
            let before = parent_before vars m i (name_in (var_at vars m).definition) order w p.0 in
            omega (arith, before, after, e) in
            s.alone m (rw less_long w) (rw (other_variable m apart) p.0, rw (other m apart) p.1, λ l. l);
      }

  pub less_needed : AreNeededFrom (x + 1) vars best → AreNeededFrom x less kinds
  less_needed later i low w' s left = elim (nat_cases i x) [
    | inl e ↦ s.there (rw e here)
    | inr ne ↦
        let after : x < i = omega (arith, low, ne) in
        let w : i < length vars = rw less_long at w' in
        later i (omega (arith, after)) w (was_spare i after s) (left_before vars less less_plainer i w left)
  ]

-- ---- all of them

pub plainer_same : (vars : List Variable) → IsPlainer vars vars
plainer_same vars = record {
  same = refl;
  definition = λ i. refl;
  less = λ i k h. h;
  may = λ i h. h;
  fits = λ g h. h;
  back = λ g h gone. h;
}

pub plainer_twice : (a b c : List Variable) → IsPlainer a b → IsPlainer b c → IsPlainer a c
plainer_twice a b c first second = record {
  same = second.same ∙ first.same;
  definition = λ i. second.definition i ∙ first.definition i;
  less = λ i k h. first.less i k (second.less i k h);
  may = λ i h. second.may i (first.may i h);
  fits = λ g h. first.fits g (second.fits g h);
  back = λ g h gone. second.back g (first.back g h (λ i w only. gone i w (λ k t. only k (second.less i k t)))) (λ i w only. gone i (rw first.same at w) only);
}

pub fitting : (a : Lists) → AreDecided a → IsTrue a.alive → AreFitting a
fitting a d left = record {
  order = d.order;
  same = d.same;
  best = d.best;
  linked = d.linked;
  small = d.small;
  filled = d.filled;
  fit = λ i w. ((left_iff a.vars a.best d.small d.order d.best).1 (d.alive.0 left) i w).fits;
}

-- it is known whether a valuation is left, as soon as all that have to have an entry were looked at
pub fitting_decided : (a : Lists) → AreFitting a → (IsTrue a.alive ↔ HaveEntries a.vars a.best a.filled) → AreDecided a
fitting_decided a f have =
    let iff = left_iff a.vars a.best f.small f.order f.best in record {
      order = f.order;
      same = f.same;
      best = f.best;
      linked = f.linked;
      small = f.small;
      filled = f.filled;
      alive = (
        λ t. iff.0 (satisfied_by a.vars a.best a.filled f.filled f.fit (have.0 t)),
        λ g. have.1 (satisfied_entries a.vars a.best a.filled f.filled (iff.1 g)),
      );
    }

pub fitting_less : (a b : Lists) (x : ℕ) → AreFitting a → x < length a.vars → IsSpare a.vars a.best x → b.vars ≡ narrowed a.vars x (of Absent) → b.best ≡ set a.best x Absent → b.kin ≡ a.kin → b.filled ≡ a.filled → AreFitting b
fitting_less a b x f inside spare vars kinds kin numbers = record {
  order = rw vars (narrowed_order a.vars x (of Absent) inside f.order);
  same = rw (vars, kinds) (length-set a.best x Absent ∙ f.same ∙ sym (length-set a.vars x _));
  best = rw (vars, kinds) (less_best a.vars a.best x inside f.same f.order f.best f.fit spare);
  linked = rw (vars, kin) (narrowed_linked a.vars a.kin x (of Absent) inside f.linked);
  small = rw (vars, length-set) f.small;
  filled = rw (vars, numbers) (numbers_still a.vars x (of Absent) inside a.filled f.filled);
  fit = rw (vars, kinds) (less_fit a.vars a.best x inside f.same f.order f.best f.fit spare);
}

-- a place alone that was left out in vain is needed
pub needed_alone : (old new : Lists) (x : ℕ) → AreNeededFrom (x + 1) old.vars old.best → IsPlainer old.vars new.vars → ((i : ℕ) → (i < x) ⊎ (x + 1 ≤ i) → var_at new.vars i ≡ var_at old.vars i) → AreDecided new → new.alive ≡ false → AreNeededFrom x old.vars old.best
needed_alone old new x later plainer others decided dead i low w s left = elim (nat_cases i x) [
  | inr ne ↦ later i (omega (arith, low, ne)) w s left
  | inl e ↦
      let g = left.0 in
      let parts = narrowed_fits old.vars i (of Absent) w g left.3 in
      let gone : value_of_variable g i ≡ value.Absent = no_kind (value_of_variable g i) (of_absent (kind_of (value_of_variable g i)) parts.1) in
      let fits : AllFit new.vars g = plainer.back g parts.0 (λ m v only. elim (nat_cases m x) [
        | inl same ↦ rw (same, ← e) gone
        | inr ne ↦
            let side : (m < x) ⊎ (x + 1 ≤ m) = elim (below_or m x) [ inl b ↦ inl b | inr le ↦ inr (omega (arith, le, ne)) ] in
            let kind = (parts.0 m v).kind in
            no_kind (value_of_variable g m) (only (kind_of (value_of_variable g m)) (rw (others m side) kind))
      ]) in
      let long : length g ≡ length new.vars = left.1 ∙ narrowed_length old.vars i (of Absent) ∙ sym plainer.same in
      let alive = decided.alive.1 (g, long, left.2, fits) in
      let bad : true ≡ false = sym alive ∙ dead in cc
]

pub needed_last : (old new : Lists) (low high : ℕ) → low ≤ high → high ≤ low + 1 → AreNeededFrom high old.vars old.best → IsPlainer old.vars new.vars → ((i : ℕ) → (i < low) ⊎ (high ≤ i) → var_at new.vars i ≡ var_at old.vars i) → AreDecided new → new.alive ≡ false → AreNeededFrom low old.vars old.best
needed_last old new low high le few later plainer others decided dead = elim (nat_cases low high) [
  | inl e ↦ rw e later
  | inr ne ↦
      let next : high ≡ low + 1 = omega (arith, le, few, ne) in
      needed_alone old new low (rw next at later) plainer (rw next at others) decided dead
]

-- where nothing has to have an entry, what is spare can be absent
spare_left : (a : Lists) (i : ℕ) → AreFitting a → i < length a.vars → IsSpare a.vars a.best i → length a.filled ≡ 0 → IsLeftWithout a.vars i
spare_left a i f w spare none =
    let less = narrowed a.vars i (of Absent) in
    let kinds = set a.best i Absent in
    let small : length less ≤ MOST_VARIABLES = rw length-set f.small in
    let order = narrowed_order a.vars i (of Absent) w f.order in
    let filled = numbers_still a.vars i (of Absent) w a.filled f.filled in
    let fit = less_fit a.vars a.best i w f.same f.order f.best f.fit spare in
    let best = less_best a.vars a.best i w f.same f.order f.best f.fit spare in
    (left_iff less kinds small order best).0 (satisfied_by less kinds a.filled filled fit (λ k v. absurd (omega (arith, none, v))))

-- ---- what is there is there by another valuation

module _ (old new : List Variable) (best : List Kind) (order : Ordered new) (start : OnlyDir old 0) (is : IsBest new best) (plainer : IsPlainer old new) (h : Valuation) (fits : AllFit old h) (needed : (i : ℕ) → i < length new → IsSpare new best i → value_of_variable h i ≢ value.Absent) where
  old_inside : (i : ℕ) → i < length new → i < length old
  old_inside i w = rw (← plainer.same) w

  value_by : (i : ℕ) → i < length new → (d : Definition) → (var_at new i).definition ≡ d → value_of_variable h i ≡ defined h d
  value_by i w d e = (fits i (old_inside i w)).is ∙ ap (defined h) (sym (plainer.definition i) ∙ e)

  -- an entry of it, and so it itself, is there
  child_there : (i : ℕ) → i < length new → IsTrue (is_entry (var_at new i).definition) → kind_at best i ≢ Absent
      → ((m : ℕ) → i < m → m < length new → kind_at best m ≢ Absent → value_of_variable h m ≢ value.Absent)
      → value_of_variable h i ≢ value.Absent
  child_there i w place some later gone = elim (bool_cases (has (var_at new i).kinds Absent)) [
    | inl may ↦ needed i w (record {
      place = place;
      may = may;
      there = some;
      alone = λ m v p.
          let f = name_in (var_at new m).definition in
          let below : value_of_variable h m ≡ entry (value_of_variable h i) f = value_by m v (Child i f) p.0 in
          later m (parent_before new m i f order v p.0) v p.1 (below ∙ ap (λ t. entry t f) gone);
    }) gone
    | inr never ↦
        let here : IsTrue (has (var_at old i).kinds Absent) = rw gone at (fits i (old_inside i w)).kind in
        let bad : true ≡ false = sym (plainer.may i here) ∙ never in cc
  ]

  there_by : (i : ℕ) → i < length new → kind_at best i ≢ Absent
      → ((m : ℕ) → i < m → m < length new → kind_at best m ≢ Absent → value_of_variable h m ≢ value.Absent)
      → (d : Definition) → (var_at new i).definition ≡ d → value_of_variable h i ≢ value.Absent
  there_by i w some later Start e gone =
      let first : i ≡ 0 = rw e at (order.earlier i w) in
      let kind : IsTrue (has (var_at old 0).kinds Absent) = rw (gone, first) at (fits i (old_inside i w)).kind in
      let bad : Absent ≡ Dir = start Absent kind in cc
  there_by i w some later (Child p f) e gone = child_there i w (rw e refl) some later gone
  there_by i w some later (Derived x f y) e gone =
      let q = sym (value_by i w (Derived x f y) e) ∙ gone in cc
  there_by i w some later (Ensured x) e gone =
      let q = sym (value_by i w (Ensured x) e) ∙ gone in cc
  there_by i w some later (Made m) e gone =
      let q : made_value m ≡ value.Absent = sym (value_by i w (Made m) e) ∙ gone in
      some (is i w ∙ ap (best_by new best (var_at new i).kinds) e ∙ ap kind_of q)

  there_from : (left i : ℕ) → i < length new → length new ≤ left + i → kind_at best i ≢ Absent → value_of_variable h i ≢ value.Absent
  there_from zero i w room some = absurd (omega (arith, w, room))
  there_from (suc left) i w room some = there_by i w some (λ m after v. there_from left m v (omega (arith, after, room))) (var_at new i).definition refl

  pub all_there : (i : ℕ) → i < length new → kind_at best i ≢ Absent → value_of_variable h i ≢ value.Absent
  all_there i w some = there_from (length new) i w (omega arith) some

-- a valuation of the facts before, by which nothing is there but what has a kind
fits_new : (old new : List Variable) (best : List Kind) → IsPlainer old new → AreKindsFitting new best → (h : Valuation) → AllFit old h → ((i : ℕ) → i < length new → value_of_variable h i ≢ value.Absent → kind_at best i ≢ Absent) → AllFit new h
fits_new old new best plainer fit h fits within = plainer.back h fits (λ i w only. elim (absent_or_not (value_of_variable h i)) [
  | inl a ↦ a
  | inr some ↦
      let w' : i < length new = rw plainer.same w in
      absurd (within i w' some (only (kind_at best i) (fit i w')))
])

-- ---- pairs

pub plainer_stands : (old new : List Variable) (now : ℕ) → Ordered new → IsPlainer old new → (t : Value) (g : Valuation) → Stands (seen_of new now) t g → Stands (seen_of old now) t g
plainer_stands old new now order plainer t g s = record {
  counted = s.counted ∙ plainer.same;
  starts = s.starts;
  tree = s.tree;
  ends = s.ends;
  met = fits_to old g s.values (plainer.fits g (fits_from new g order s.values s.met));
  values = s.values;
}

pub plainer_start : (old new : List Variable) → IsPlainer old new → OnlyDir old 0 → OnlyDir new 0
plainer_start old new plainer start k h = start k (plainer.less 0 k h)

pub plainer_always : (old new : List Variable) (now : ℕ) → IsPlainer old new → AlwaysDir old now → AlwaysDir new now
plainer_always old new now plainer h g l s f = h g (l ∙ plainer.same) s (plainer.fits g f)

module _ (old new : Lists) (now : ℕ) (before : AreDecided old) (start : OnlyDir old.vars 0) (f : AreFitting new) (plainer : IsPlainer old.vars new.vars) (needed : AreNeededFrom 0 new.vars new.best) (t : Value) (pair : (g : Valuation) × Stands (seen_of new.vars now) t g) (g : Valuation) (s : Stands (seen_of old.vars now) t g) where
  -- what is there by it has a kind
  kind_there : (i : ℕ) → i < length new.vars → value_of_variable g i ≢ value.Absent → kind_at new.best i ≢ Absent
  kind_there i w some =
      let same : g ≡ pair.0 = unique old.vars now before.order t g pair.0 s (plainer_stands old.vars new.vars now f.order plainer t pair.0 pair.1) in
      let some' : value_of_variable pair.0 i ≢ value.Absent = rw same at some in
      shown_some new.vars new.best pair.0 f.order f.best pair.1.values (fits_from new.vars pair.0 f.order pair.1.values pair.1.met) i w some'

  module _ (u : Value) (h : Valuation) (sh : Stands (seen_of old.vars now) u h) where
    fits : AllFit old.vars h
    fits = fits_from old.vars h before.order sh.values sh.met

    there_in : ((i : ℕ) → i < length new.vars → IsSpare new.vars new.best i → value_of_variable h i ≢ value.Absent) → IsThereIn (seen_of old.vars now) g h
    there_in spare x w some =
        let inside : x < length new.vars = rw plainer.same w in
        all_there old.vars new.vars new.best f.order start f.best plainer h fits spare x inside (kind_there x inside some)

    pub there_in_less : IsThereIn (seen_of old.vars now) h g → IsThereIn (seen_of old.vars now) g h
    there_in_less within = there_in (λ i w spare gone.
        let now_fits : AllFit new.vars h = fits_new old.vars new.vars new.best plainer f.fit h fits (λ m v some. kind_there m v (within m (rw (← plainer.same) v) some)) in
        let long : length h ≡ length new.vars = sh.counted ∙ sym plainer.same in
        needed i (omega arith) w spare (left_without new.vars i w h long sh.values now_fits gone))

    pub there_in_each : length new.filled ≡ 0 → IsThereIn (seen_of old.vars now) g h
    there_in_each none = there_in (λ i w spare gone. needed i (omega arith) w spare (spare_left new i f w spare none))

zero_or : (n : ℕ) → (n ≡ 0) ⊎ (0 < n)
zero_or zero = inl refl
zero_or (suc n) = inr (omega arith)

pub plainest_after : (old mid new : Lists) (low : ℕ) → IsPlainer old.vars mid.vars → mid.filled ≡ old.filled → ArePlainestFrom low mid new → ArePlainestFrom low old new
plainest_after old mid new low plainer same after = record {
  decided = after.decided;
  left = after.left;
  plainer = plainer_twice old.vars mid.vars new.vars plainer after.plainer;
  needed = after.needed;
  filled = after.filled ∙ same;
}

pub plainest_itself : (a : Lists) (low : ℕ) → AreDecided a → IsTrue a.alive → AreNeededFrom low a.vars a.best → ArePlainestFrom low a a
plainest_itself a low decided left needed = record { decided = decided; left = left; plainer = plainer_same a.vars; needed = needed; filled = refl }

pub plainest_of : (old new : Lists) (now : ℕ) → AreDecided old → OnlyDir old.vars 0 → AreDecided new → IsTrue new.alive → new.filled ≡ old.filled → IsPlainer old.vars new.vars → AreNeededFrom 0 new.vars new.best → (t : Value) → (g : Valuation) × Stands (seen_of new.vars now) t g → IsPlainestTree (seen_of old.vars now) t
plainest_of old new now before start decided left same plainer needed t pair =
    let f = fitting new decided left in record {
      minimal = λ g s u h sh within. there_in_less old new now before start f plainer needed t pair g s u h sh within;
      least = elim (zero_or (length old.filled)) [
        | inl none ↦ inl (λ g s u h sh. there_in_each old new now before start f plainer needed t pair g s u h sh (ap length same ∙ none))
        | inr some ↦ let e = before.filled.each 0 some in inr (number_at old.filled 0, filled_literal old.vars (number_at old.filled 0) e.0 e.1)
      ];
    }

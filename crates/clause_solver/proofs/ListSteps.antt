-- What stands of the lists of a store still stands after one more variable, one more fact, or a fence.
use Rattle.std.proofs.Common.{◌≡◌, ◌≢◌, ◌⊎◌, ℕ, ◌+◌, ◌<◌, ◌≤◌, ◌↔◌, ◌&&◌, ◌∙◌, inl, inr, Bool, true, IsTrue, List, [], ◌∷◌, ◌++◌, length, take, refl, sym, ap, subst, arith, length-set, get_or-set_other, get_or-set_same}
use Rattle.std.proofs.lemmas.Bool.{and_parts, and_from}
use Rattle.std.proofs.lemmas.List.{length-append, length-take-le}
use Rattle.feature_trees.specs.declared.kind.Kind.{Kind}
use Rattle.feature_trees.specs.declared.kind.Kinds.{Kinds}
use Rattle.feature_trees.specs.Kinds.{has}
use Rattle.clause_solver.specs.declared.lists.Lists.{Lists}
use Rattle.clause_solver.specs.declared.variable.TheConstants.{MOST_VARIABLES}
use Rattle.clause_solver.specs.declared.variable.Definition.{Definition}
use Rattle.clause_solver.specs.declared.variable.Definition.TheVariants.{Start, Child, Derived, Ensured, Made}
use Rattle.clause_solver.specs.declared.variable.Variable.{Variable}
use Rattle.clause_solver.specs.Appends.{IsAppended, IsSingle}
use Rattle.clause_solver.specs.Decided.{AreKindsFitting, IsLeft, AreFilled, HaveEntries, AreDecided}
use Rattle.clause_solver.specs.Emptied.{HasItsVariable, fenced}
use Rattle.clause_solver.specs.Fresh.{fresh}
use Rattle.clause_solver.specs.Greatest.{IsBest, IsSatisfied, HasEntryOutside, unfenced, kind_at, is_dir, choose, best_by}
use Rattle.clause_solver.specs.Linked.{IsChildOf}
use Rattle.clause_solver.specs.Settled.{IsGreatest, IsShut, AreSettled}
use Rattle.clause_solver.specs.Variables.{var_at, allowed, Listed, Ordered, Earlier, filled, is_node, defined}
use Rattle.clause_solver.proofs.Deciding.{left_iff, decides, still_fit, may_fall, settled_best, has_entry_same, filled_same, filled_more, filled_by}
use Rattle.clause_solver.proofs.Falling.{child_cases}
use Rattle.clause_solver.proofs.Fenced.{fenced_definition, fenced_kinds, fenced_fits, let_in_both, fenced_order, fenced_linked}
use Rattle.clause_solver.proofs.Filled.{filled_definition, filled_fence, filled_kinds, filled_fits, filled_order, filled_best, filled_linked}
use Rattle.clause_solver.proofs.Links.{variable_linked}
use Rattle.clause_solver.proofs.Names.{nat_cases, bool_cases}
use Rattle.clause_solver.proofs.OneMore.{longer, append_order, append_best, append_down, append_up, sound_push, sound_take, defined_sound}

-- ---- one more variable

module _ (a b : Lists) (y : ℕ) (d : Definition) (all : AreDecided a) (before : Earlier a.vars (length a.vars) d) (single : IsSingle a.vars d) (is : IsAppended a d b y) where
  abbrev more : List Variable
  more = a.vars ++ fresh d ∷ []

  more_long : length more ≡ length a.vars + 1
  more_long = longer a.vars all.order d before

  more_left : IsLeft a.vars ↔ IsLeft more
  more_left = (
    λ g. (
      g.0 ++ defined g.0 d ∷ [],
      rw (more_long, length-append g.0 (defined g.0 d ∷ [])) (ap (λ n. n + 1) g.1),
      sound_push g.0 (defined g.0 d) g.2 (defined_sound a.vars (length a.vars) g.0 d before g.2),
      append_up a.vars all.order d before g.0 g.1 g.3,
    ),
    λ g.
        let long : length g.0 ≡ length a.vars + 1 = g.1 ∙ more_long in (
          take (length a.vars) g.0,
          length-take-le (length a.vars) g.0 (omega arith),
          sound_take (length a.vars) g.0 (omega arith) g.2,
          (append_down a.vars all.order d before g.0 g.3).0,
        ),
  )

  pub appended_decided : AreDecided b
  appended_decided = record {
    order = rw is.variable (append_order a.vars all.order d before single);
    same = rw (is.variable, is.kind, length-append, length-append) (ap (λ n. n + 1) all.same);
    best = rw (is.variable, is.kind) (append_best a.vars all.order d before a.best _ all.same all.best refl);
    linked = rw is.variable (variable_linked a.vars a.kin b.kin all.order all.linked d before is.links);
    small = rw (is.variable, more_long) (let r = is.room in omega arith);
    filled = rw (is.variable, is.filled) (filled_more a.vars (fresh d) a.filled refl all.filled);
    alive = rw (is.variable, is.alive) (λ t. more_left.0 (all.alive.0 t), λ g. all.alive.1 (more_left.1 g));
  }

-- ---- a variable that has an entry

module _ (a b : Lists) (x : ℕ) (d : AreDecided a) (inside : x < length a.vars) (vars : b.vars ≡ filled a.vars x) where
  abbrev full : List Variable
  full = filled a.vars x

  full_long : length full ≡ length a.vars
  full_long = length-set a.vars x _

  full_small : length full ≤ MOST_VARIABLES
  full_small = rw full_long d.small

  full_best : IsBest full a.best
  full_best = filled_best a.vars x inside a.best d.best

  other_filled : (i : ℕ) → i ≢ x → (var_at full i).not_empty ≡ (var_at a.vars i).not_empty
  other_filled i ne = rw get_or-set_other refl

  x_filled : (var_at full x).not_empty ≡ true
  x_filled = rw get_or-set_same refl

  full_satisfied : IsSatisfied a.vars a.best (unfenced a.vars) → HasEntryOutside full a.best (unfenced full) x [] → IsSatisfied full a.best (unfenced full)
  full_satisfied f entry i w = record {
    fits = ap (λ ks. has ks (kind_at a.best i)) (filled_kinds a.vars x inside i) ∙ (f i (rw full_long at w)).fits;
    filled = λ t. elim (nat_cases i x) [
      | inl e ↦ subst (λ n. HasEntryOutside full a.best (unfenced full) n []) (sym e) entry
      | inr ne ↦ has_entry_same a.vars full a.best full_long (filled_definition a.vars x inside) (filled_fence a.vars x inside) ((f i (rw full_long at w)).filled (sym (other_filled i ne) ∙ t))
    ];
  }

  full_left : (entry : Bool) → (IsTrue entry ↔ HasEntryOutside full a.best (unfenced full) x []) → IsTrue (a.alive && entry) ↔ IsLeft full
  full_left entry has_one =
      let old = left_iff a.vars a.best d.small d.order d.best in
      let new = left_iff full a.best full_small (filled_order a.vars x inside d.order) full_best in (
        λ t. let p = and_parts a.alive entry t in new.0 (full_satisfied (old.1 (d.alive.0 p.0)) (has_one.0 p.1)),
        λ g.
            let less : IsLeft a.vars = (g.0, g.1 ∙ full_long, g.2, (filled_fits a.vars x inside g.0 g.3).0) in
            and_from a.alive entry (d.alive.1 less) (has_one.1 ((new.1 g x (rw full_long inside)).filled x_filled)),
      )

  pub filled_decided : (entry : Bool) → (IsTrue entry ↔ HasEntryOutside full a.best (unfenced full) x []) → b.best ≡ a.best → b.kin ≡ a.kin → b.filled ≡ a.filled ++ x ∷ [] → b.alive ≡ (a.alive && entry) → AreDecided b
  filled_decided entry has_one kinds kin numbers live = record {
    order = rw vars (filled_order a.vars x inside d.order);
    same = rw (vars, kinds) (d.same ∙ sym full_long);
    best = rw (vars, kinds) full_best;
    linked = rw (vars, kin) (filled_linked a.vars x inside a.kin d.linked);
    small = rw vars full_small;
    filled = rw (vars, numbers) (filled_by a.vars x a.filled inside d.filled);
    alive = rw (vars, live) (full_left entry has_one);
  }

-- ---- a fence

pub fenced_numbers : (vars : List Variable) (n : ℕ) (names : List (List ℕ)) (numbers : List ℕ) → n < length vars → AreFilled vars numbers → AreFilled (fenced vars n names) numbers
fenced_numbers vars n names numbers inside listed = filled_same vars (fenced vars n names) numbers (length-set vars n _) (λ i. elim (nat_cases i n) [
  | inl e ↦ rw (e, get_or-set_same) refl
  | inr ne ↦ rw get_or-set_other refl
]) listed

module _ (a b : Lists) (n : ℕ) (names : List (List ℕ)) (d : AreDecided a) (inside : n < length a.vars) (node : IsTrue (is_node (var_at a.vars n).definition)) (known : (f : List ℕ) → Listed f names → HasItsVariable a.vars n f) (vars : b.vars ≡ fenced a.vars n names) where
  abbrev shut : List Variable
  shut = fenced a.vars n names

  shut_long : length shut ≡ length a.vars
  shut_long = length-set a.vars n _

  shut_order : Ordered shut
  shut_order = fenced_order a.vars n names inside node known d.order

  shut_small : length shut ≤ MOST_VARIABLES
  shut_small = rw shut_long d.small

  shut_filled : AreFilled shut a.filled
  shut_filled = fenced_numbers a.vars n names a.filled inside d.filled

  -- the greatest kind of what is no entry of n stays
  by_other : (ks : Kinds) (e : Definition) → ((p : ℕ) (f : List ℕ) → e ≡ Child p f → p ≢ n) → best_by a.vars a.best ks e ≡ best_by shut a.best ks e
  by_other ks Start other = refl
  by_other ks (Child p f) other =
      let ne = other p f refl in
      let fence : (var_at shut p).fence ≡ (var_at a.vars p).fence = rw get_or-set_other refl in
      rw fence refl
  by_other ks (Derived x f y) other = refl
  by_other ks (Ensured x) other = refl
  by_other ks (Made m) other = refl

  other_greatest : (i : ℕ) → i < length shut → ((p : ℕ) (f : List ℕ) → (var_at shut i).definition ≡ Child p f → p ≢ n) → IsGreatest shut a.best i
  other_greatest i w other =
      let same = fenced_definition a.vars n names inside i in
      rw (same, fenced_kinds a.vars n names inside i) (d.best i (rw shut_long at w) ∙ by_other (var_at a.vars i).kinds (var_at a.vars i).definition (λ p f e. other p f (same ∙ e)))

  -- an entry of n that the fence lets in was let in before
  entry_greatest : (i : ℕ) (f : List ℕ) → i < length shut → (var_at shut i).definition ≡ Child n f → (is_dir (kind_at a.best n) && allowed (var_at shut n).fence f) ≡ true → IsGreatest shut a.best i
  entry_greatest i f w e t =
      let was : (var_at a.vars i).definition ≡ Child n f = sym (fenced_definition a.vars n names inside i) ∙ e in
      let parts = and_parts (is_dir (kind_at a.best n)) (allowed (var_at shut n).fence f) t in
      let within : IsTrue (allowed (var_at a.vars n).fence f) = (let_in_both a.vars n names inside f (rw get_or-set_same at parts.1)).1 in
      let both : (is_dir (kind_at a.best n) && allowed (var_at a.vars n).fence f) ≡ true = and_from (is_dir (kind_at a.best n)) (allowed (var_at a.vars n).fence f) parts.0 within in
      let old : best_by a.vars a.best (var_at a.vars i).kinds (Child n f) ≡ choose (var_at a.vars i).kinds = rw both refl in
      let new : best_by shut a.best (var_at shut i).kinds (Child n f) ≡ choose (var_at shut i).kinds = rw t refl in
      d.best i (rw shut_long at w) ∙ ap (best_by a.vars a.best (var_at a.vars i).kinds) was ∙ old
      ∙ ap choose (sym (fenced_kinds a.vars n names inside i)) ∙ sym new ∙ ap (best_by shut a.best (var_at shut i).kinds) (sym e)

  ready : (i : ℕ) → i < length shut → IsGreatest shut a.best i ⊎ (IsChildOf shut n i × IsShut shut a.best i)
  ready i w = elim (child_cases (var_at shut i).definition n) [
    | inl child ↦ elim (bool_cases (is_dir (kind_at a.best n) && allowed (var_at shut n).fence child.0)) [
      | inl t ↦ inl (entry_greatest i child.0 w child.1 t)
      | inr neither ↦ inr (child, rw (child.1, neither) refl)
    ]
    | inr other ↦ inl (other_greatest i w other)
  ]

  shut_less : IsLeft shut → IsTrue a.alive
  shut_less g = d.alive.1 (g.0, g.1 ∙ shut_long, g.2, (fenced_fits a.vars n names inside g.0 g.3).0)

  fit_still : IsTrue a.alive → AreKindsFitting shut a.best
  fit_still t i w = ap (λ ks. has ks (kind_at a.best i)) (fenced_kinds a.vars n names inside i) ∙ ((left_iff a.vars a.best d.small d.order d.best).1 (d.alive.0 t) i (rw shut_long at w)).fits

  pub fenced_decided : (best : List Kind) (fits have : Bool) → AreSettled shut n a.best best fits → (IsTrue have ↔ HaveEntries shut best a.filled) → b.best ≡ best → b.kin ≡ a.kin → b.filled ≡ a.filled → b.alive ≡ ((a.alive && fits) && have) → AreDecided b
  fenced_decided best fits have s ih kinds kin numbers live =
      let is : IsBest shut best = settled_best shut n a.best best fits s ready in
      record {
        order = rw vars shut_order;
        same = rw (vars, kinds) (s.falls.same ∙ d.same ∙ sym shut_long);
        best = rw (vars, kinds) is;
        linked = rw (vars, kin) (fenced_linked a.vars n names inside a.kin d.linked);
        small = rw vars shut_small;
        filled = rw (vars, numbers) shut_filled;
        alive = rw (vars, live) (decides shut best a.filled shut_filled shut_small shut_order is a.alive fits shut_less (λ t u. still_fit shut (n + 1) a.best best fits s.falls (fit_still t) u) (λ all. may_fall shut (n + 1) a.best best fits s.falls all) have ih);
      }

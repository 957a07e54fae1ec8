-- One more variable: what was left stays, extended by the variable's one value.
use Rattle.std.proofs.Common.{◌≡◌, ℕ, ◌+◌, ◌<◌, ◌≤◌, inl, inr, IsTrue, Some, None, List, [], ◌∷◌, ◌++◌, length, take, refl, sym, ap, ◌∙◌, arith}
use Rattle.std.proofs.lemmas.List.{length-append, get_or_append_left, get_or-take, length-take-le}
use Rattle.std.proofs.Math.Seq.{get_or-append_seam, take-append_seam}
use Rattle.feature_trees.specs.declared.kind.Kind.{Kind}
use Rattle.feature_trees.specs.declared.kind.Kind.TheVariants as kind
use Rattle.feature_trees.specs.declared.value.Value.{Value}
use Rattle.feature_trees.specs.declared.value.Value.TheVariants as value
use Rattle.feature_trees.specs.Kinds.{all}
use Rattle.feature_trees.specs.Tree.{entry, update, entries_of}
use Rattle.feature_trees.specs.Sound.{sound}
use Rattle.feature_trees.proofs.Laws.{sound-entry}
use Rattle.clause_solver.specs.declared.variable.MadeValue.{MadeValue}
use Rattle.clause_solver.specs.declared.variable.MadeValue.TheVariants as made
use Rattle.clause_solver.specs.declared.variable.Definition.{Definition}
use Rattle.clause_solver.specs.declared.variable.Definition.TheVariants.{Start, Child, Derived, Ensured, Made}
use Rattle.clause_solver.specs.declared.variable.Variable.{Variable}
use Rattle.tree_clauses.specs.Literals.{Valuation, value_of_variable, IsSound}
use Rattle.clause_solver.specs.Stands.{Seen, Stands, Extends}
use Rattle.clause_solver.specs.Variables.{no_variable, var_at, defined, made_value, Fits, AllFit, Earlier, Ordered, AlwaysDir, OnlyDir, IsChild}
use Rattle.clause_solver.specs.Greatest.{kind_at, best_by, IsBest}
use Rattle.clause_solver.specs.Fresh.{fresh}
use Rattle.clause_solver.specs.Written.{literals_from}
use Rattle.clause_solver.proofs.Names.{last_cases}
use Rattle.clause_solver.proofs.GreatestKinds.{all_have}
use Rattle.tree_clauses.proofs.Values.{derived_sound}
use Rattle.feature_trees.proofs.Kept.{sound_entries}
use Rattle.clause_solver.proofs.Pairs.{sound_at, fits_from, fits_to}

abbrev pub seen_of : List Variable → ℕ → Seen
seen_of vars now = record { count = length vars; literals = literals_from 0 vars; current = now }

pub made_sound : (m : MadeValue) → IsTrue (sound (made_value m))
made_sound made.Absent = refl
made_sound made.Reg = refl
made_sound (made.Link b) = refl
made_sound made.Dir = refl

-- the value that a definition gives is sound
pub defined_sound : (vars : List Variable) (i : ℕ) (g : Valuation) (d : Definition) → Earlier vars i d → IsSound g → IsTrue (sound (defined g d))
defined_sound vars i g Start e s = sound_at g s 0
defined_sound vars i g (Child p f) e s = sound-entry (value_of_variable g p) f (sound_at g s p)
defined_sound vars i g (Derived x f y) e s = derived_sound (value_of_variable g x) (value_of_variable g y) f (sound_at g s x) (sound_at g s y) e.2
defined_sound vars i g (Ensured x) e s = sound_entries (value_of_variable g x) (sound_at g s x)
defined_sound vars i g (Made m) e s = made_sound m

-- what a definition says depends on the values before its variable
module _ (vars : List Variable) (g h : Valuation) (n : ℕ) (same : (i : ℕ) → i < n → value_of_variable g i ≡ value_of_variable h i) where
  pub defined_same : (i : ℕ) (d : Definition) → 0 < n → i ≤ n → Earlier vars i d → defined g d ≡ defined h d
  defined_same i Start some w e = same 0 some
  defined_same i (Child p f) some w e = ap (λ v. entry v f) (same p (omega (arith, e.0)))
  defined_same i (Derived x f y) some w e =
      ap (λ v. value.Dir (update (entries_of v) f (value_of_variable g y))) (same x (omega (arith, e.0)))
      ∙ ap (λ v. value.Dir (update (entries_of (value_of_variable h x)) f v)) (same y (omega (arith, e.1)))
  defined_same i (Ensured x) some w e = ap (λ v. value.Dir (entries_of v)) (same x (omega (arith, e)))
  defined_same i (Made m) some w e = refl

  pub fits_same : (i : ℕ) (v : Variable) → i < n → Earlier vars i v.definition → Fits g i v → Fits h i v
  fits_same i v w e q = record {
    is = sym (same i w) ∙ q.is ∙ defined_same i v.definition (omega arith) (omega arith) e;
    kind = rw (← same i w) q.kind;
    fenced = λ f some. q.fenced f (λ z. some (ap (λ u. entry u f) (sym (same i w)) ∙ z));
    filled = λ t. let r = q.filled t in (r.0, λ z. r.1 (ap (λ u. entry u r.0) (same i w) ∙ z));
    aimed = λ b t. sym (same i w) ∙ q.aimed b t;
  }

pub sound_take : (n : ℕ) (g : Valuation) → n ≤ length g → IsSound g → IsSound (take n g)
sound_take n g le s k d w =
    let w' : k < n = rw (length-take-le n g le) at w in
    rw (get_or-take n g k d w') (s k d (omega arith))

pub sound_push : (g : Valuation) (v : Value) → IsSound g → IsTrue (sound v) → IsSound (g ++ v ∷ [])
sound_push g v s t k d w =
    let w' : k < length g + 1 = rw (length-append g (v ∷ [])) at w in
    elim (last_cases k (length g) w') [
      | inl b ↦ rw (get_or_append_left g (v ∷ []) d k b) (s k d b)
      | inr e ↦ rw (e, get_or-append_seam g v [] d) t
    ]

module _ (vars : List Variable) (order : Ordered vars) (d : Definition) (before : Earlier vars (length vars) d) where
  pub longer : length (vars ++ fresh d ∷ []) ≡ length vars + 1
  longer = length-append vars (fresh d ∷ [])

  pub old_at : (i : ℕ) → i < length vars → var_at (vars ++ fresh d ∷ []) i ≡ var_at vars i
  old_at i w = get_or_append_left vars (fresh d ∷ []) no_variable i w

  pub new_at : var_at (vars ++ fresh d ∷ []) (length vars) ≡ fresh d
  new_at = get_or-append_seam vars (fresh d) [] no_variable

  earlier_by : (i : ℕ) (e : Definition) → i ≤ length vars → Earlier vars i e → Earlier (vars ++ fresh d ∷ []) i e
  earlier_by i Start w q = q
  earlier_by i (Child p f) w q = (q.0, rw (old_at p (omega (arith, q.0))) q.1, q.2)
  earlier_by i (Derived x f y) w q = q
  earlier_by i (Ensured x) w q = q
  earlier_by i (Made m) w q = q

  pub append_order : ((x : ℕ) (f : List ℕ) (i : ℕ) → d ≡ Child x f → ¬ (IsChild vars x f i)) → Ordered (vars ++ fresh d ∷ [])
  append_order none = record {
    some = rw longer (omega (arith, order.some));
    first = rw (old_at 0 order.some) order.first;
    earlier = λ i w'.
        let w : i < length vars + 1 = rw longer at w' in
        elim (last_cases i (length vars) w) [
          | inl b ↦ rw (old_at i b) (earlier_by i (var_at vars i).definition (omega arith) (order.earlier i b))
          | inr e ↦ rw (e, new_at) (earlier_by (length vars) d (omega arith) before)
        ];
    single = λ i j p f h w' at_i at_j.
        let w : j < length vars + 1 = rw longer at w' in
        let low : i < length vars = omega arith in
        elim (last_cases j (length vars) w) [
          | inl b ↦ order.single i j p f h b (rw (old_at i low) at at_i) (rw (old_at j b) at at_j)
          | inr e ↦ none p f i (rw (e, new_at) at at_j) (low, rw (old_at i low) at at_i)
        ];
    known = λ i names f w' fence inside.
        let w : i < length vars + 1 = rw longer at w' in
        elim (last_cases i (length vars) w) [
          | inl b ↦
              let m = order.known i names f b (rw (old_at i b) at fence) inside in
              (m.0, rw longer (omega (arith, m.1)), rw (old_at m.0 m.1) m.2)
          | inr e ↦ let bad : None ≡ Some names = rw (e, new_at) at fence in absurd (cc)
        ];
    nodes = λ i w' node.
        let w : i < length vars + 1 = rw longer at w' in
        elim (last_cases i (length vars) w) [
          | inl b ↦ rw (old_at i b) (order.nodes i b (rw (old_at i b) at node))
          | inr e ↦ rw (e, new_at) refl
        ];
    aims = λ i b w' target.
        let w : i < length vars + 1 = rw longer at w' in
        elim (last_cases i (length vars) w) [
          | inl low ↦ rw (old_at i low) (order.aims i b low (rw (old_at i low) at target))
          | inr e ↦ let bad : None ≡ Some b = rw (e, new_at) at target in absurd (cc)
        ];
  }

  pub append_only : (i : ℕ) → i < length vars → OnlyDir vars i → OnlyDir (vars ++ fresh d ∷ []) i
  append_only i w h = rw (old_at i w) h

  best_older : (best : List Kind) (b : Kind) → length best ≡ length vars → (i : ℕ) (ks : _) (e : Definition) → i ≤ length vars → Earlier vars i e → best_by (vars ++ fresh d ∷ []) (best ++ b ∷ []) ks e ≡ best_by vars best ks e
  best_older best b same i ks Start w q = refl
  best_older best b same i ks (Child p f) w q =
      let p' : p < length best = omega (arith, q.0) in
      rw (old_at p (omega (arith, q.0)), get_or_append_left best (b ∷ []) kind.Absent p p') refl
  best_older best b same i ks (Derived x f y) w q = refl
  best_older best b same i ks (Ensured x) w q = refl
  best_older best b same i ks (Made m) w q = refl

  pub append_best : (best : List Kind) (b : Kind) → length best ≡ length vars → IsBest vars best → b ≡ best_by vars best all d → IsBest (vars ++ fresh d ∷ []) (best ++ b ∷ [])
  append_best best b same is e i w' =
      let w : i < length vars + 1 = rw longer at w' in
      elim (last_cases i (length vars) w) [
        | inl low ↦
            let low' : i < length best = rw same low in
            get_or_append_left best (b ∷ []) kind.Absent i low' ∙ is i low
            ∙ sym (best_older best b same i (var_at vars i).kinds (var_at vars i).definition (omega arith) (order.earlier i low))
            ∙ ap (λ v. best_by (vars ++ fresh d ∷ []) (best ++ b ∷ []) v.kinds v.definition) (sym (old_at i low))
        | inr q ↦
            let last : i ≡ length best = q ∙ sym same in
            let here : kind_at (best ++ b ∷ []) i ≡ b = rw (last, get_or-append_seam best b [] kind.Absent) refl in
            let top : var_at (vars ++ fresh d ∷ []) i ≡ fresh d = rw q new_at in
            here ∙ e ∙ sym (best_older best b same (length vars) all d (omega arith) before)
            ∙ ap (λ v. best_by (vars ++ fresh d ∷ []) (best ++ b ∷ []) v.kinds v.definition) (sym top)
      ]

  pub append_down : (g : Valuation) → AllFit (vars ++ fresh d ∷ []) g → AllFit vars (take (length vars) g) × (value_of_variable g (length vars) ≡ defined g d)
  append_down g fits =
      let n = length vars in
      let last : n < length (vars ++ fresh d ∷ []) = rw longer (omega arith) in
      let new : Fits g n (fresh d) = rw new_at at (fits n last) in (
        λ i w.
            let w' : i < length (vars ++ fresh d ∷ []) = rw longer (omega arith) in
            let here : Fits g i (var_at vars i) = rw (old_at i w) at (fits i w') in
            fits_same vars g (take n g) n (λ m q. sym (get_or-take n g m value.Absent q)) i (var_at vars i) w (order.earlier i w) here,
        new.is,
      )

  pub append_up : (g : Valuation) → length g ≡ length vars → AllFit vars g → AllFit (vars ++ fresh d ∷ []) (g ++ defined g d ∷ [])
  append_up g l fits i w' =
      let v = defined g d in
      let w : i < length vars + 1 = rw longer at w' in
      let old : (m : ℕ) → m < length vars → value_of_variable g m ≡ value_of_variable (g ++ v ∷ []) m =
      λ m q. let q' : m < length g = rw l q in sym (get_or_append_left g (v ∷ []) value.Absent m q') in
      elim (last_cases i (length vars) w) [
        | inl b ↦ rw (old_at i b) (fits_same vars g (g ++ v ∷ []) (length vars) old i (var_at vars i) b (order.earlier i b) (fits i b))
        | inr e ↦
            let here : value_of_variable (g ++ v ∷ []) (length vars) ≡ v = rw (sym l, get_or-append_seam g v [] value.Absent) refl in
            rw (e, new_at) (record {
              is = here ∙ defined_same vars g (g ++ v ∷ []) (length vars) old (length vars) d order.some (omega arith) before;
              kind = all_have all _ refl;
              fenced = λ h some. refl;
              filled = λ t. cc;
              aimed = λ b t. cc;
            })
      ]

  pub append_always : (i : ℕ) → i < length vars → AlwaysDir vars i → AlwaysDir (vars ++ fresh d ∷ []) i
  append_always i w h g l s fits =
      let long : length g ≡ length vars + 1 = l ∙ longer in
      let parts = append_down g fits in
      rw (get_or-take (length vars) g i value.Absent w) at (h (take (length vars) g) (length-take-le (length vars) g (omega arith)) (sound_take (length vars) g (omega arith) s) parts.0)

  module _ (now : ℕ) (known : now < length vars) (new_order : Ordered (vars ++ fresh d ∷ [])) where
    pub append_extends : Extends (seen_of vars now) (seen_of (vars ++ fresh d ∷ []) now)
    append_extends = record {
      more = rw longer (omega arith);
      same = refl;
      down = λ t g h.
          let long : length g ≡ length vars + 1 = h.counted ∙ longer in
          let parts = append_down g (fits_from (vars ++ fresh d ∷ []) g new_order h.values h.met) in
          let s = sound_take (length vars) g (omega arith) h.values in
          record {
            counted = length-take-le (length vars) g (omega arith);
            starts = rw (get_or-take (length vars) g 0 value.Absent order.some) h.starts;
            tree = h.tree;
            ends = rw (get_or-take (length vars) g now value.Absent known) h.ends;
            met = fits_to vars (take (length vars) g) s parts.0;
            values = s;
          };
      up = λ t g h.
          let v = defined g d in
          let all = append_up g h.counted (fits_from vars g order h.values h.met) in
          let some : 0 < length g = rw h.counted order.some in
          let here : now < length g = rw h.counted known in
          let s = sound_push g v h.values (defined_sound vars (length vars) g d before h.values) in (
            g ++ v ∷ [],
            record {
              counted = rw (longer, length-append g (v ∷ [])) (ap (λ n. n + 1) h.counted);
              starts = rw (get_or_append_left g (v ∷ []) value.Absent 0 some) h.starts;
              tree = h.tree;
              ends = rw (get_or_append_left g (v ∷ []) value.Absent now here) h.ends;
              met = fits_to (vars ++ fresh d ∷ []) (g ++ v ∷ []) s all;
              values = s;
            },
            rw (sym h.counted) (take-append_seam g (v ∷ [])),
          );
    }

    -- the new variable has its defined value
    pub append_is : (t : Value) (g : Valuation) → Stands (seen_of (vars ++ fresh d ∷ []) now) t g → value_of_variable g (length vars) ≡ defined g d
    append_is t g h = (append_down g (fits_from (vars ++ fresh d ∷ []) g new_order h.values h.met)).1

-- What is left, by the greatest kinds; and how that is known after a step.
use Rattle.std.proofs.Common.{◌≡◌, ◌≢◌, ◌⊎◌, inl, inr, ℕ, ◌+◌, ◌<◌, ◌≤◌, ◌↔◌, ◌&&◌, Bool, true, false, IsTrue, List, [], ◌∷◌, ◌++◌, length, sym, ap, ◌∙◌, arith, subst, length-set, get_or-set_other, get_or-set_same}
use Rattle.std.proofs.lemmas.Bool.{and_parts, and_from}
use Rattle.std.proofs.lemmas.List.{length-append, get_or_append_left}
use Rattle.std.proofs.Math.Seq.{get_or-append_seam}
use Rattle.feature_trees.specs.declared.kind.Kind.{Kind}
use Rattle.tree_clauses.specs.Literals.{value_of_variable}
use Rattle.clause_solver.specs.declared.variable.TheConstants.{MOST_VARIABLES}
use Rattle.clause_solver.specs.declared.variable.Variable.{Variable}
use Rattle.clause_solver.specs.Stands.{Alive}
use Rattle.clause_solver.specs.Variables.{var_at, no_variable, Ordered, AlwaysDir, OnlyDir, filled}
use Rattle.clause_solver.specs.Greatest.{IsBest, IsSatisfied, HasEntryOutside, free, child_present, here, below, kept, unfenced, kind_at}
use Rattle.clause_solver.specs.Grown.{values}
use Rattle.clause_solver.specs.Decided.{AreKindsFitting, IsLeft, number_at, AreFilled, HaveEntries}
use Rattle.clause_solver.specs.Settled.{IsGreatest, IsShut, Falls, AreSettled}
use Rattle.clause_solver.specs.Linked.{IsChildOf}
use Rattle.clause_solver.proofs.Alive.{stands_of, unfenced_none}
use Rattle.clause_solver.proofs.Falling.{absent_cases}
use Rattle.clause_solver.proofs.Grown.{evals, evals_length, whole_sound, all_fit}
use Rattle.clause_solver.proofs.Least.{satisfied}
use Rattle.clause_solver.proofs.Names.{nat_cases, last_cases}
use Rattle.clause_solver.proofs.NewNames.{new_name}
use Rattle.clause_solver.proofs.OneMore.{seen_of}
use Rattle.clause_solver.proofs.Pairs.{fits_from}

-- some valuation is left exactly where the greatest kinds are satisfied
pub left_iff : (vars : List Variable) (best : List Kind) → length vars ≤ MOST_VARIABLES → Ordered vars → IsBest vars best → IsSatisfied vars best (unfenced vars) ↔ IsLeft vars
left_iff vars best small order is = (
  λ f.
      let z = new_name vars small in
      let open_at = unfenced vars in
      let vs = values best open_at z.0 0 vars in (
        evals vars vs (length vars),
        evals_length vars vs (length vars),
        whole_sound vars best open_at z.0 z.1.name order is (λ i w. unfenced_none vars i) z.1.child z.1.derived,
        all_fit vars best open_at z.0 z.1.name order is (λ i w. unfenced_none vars i) z.1.child z.1.derived f,
      ),
  λ g. satisfied vars best g.0 order is g.2 g.3,
)

-- where the start and the tree now are directories, what is left is a pair
pub left_alive : (vars : List Variable) (now : ℕ) → Ordered vars → AlwaysDir vars now → OnlyDir vars 0 → IsLeft vars ↔ Alive (seen_of vars now)
left_alive vars now order tree start = (
  λ g. (value_of_variable g.0 0, g.0, stands_of vars now order.some tree start g.0 g.1 g.2 g.3),
  λ a. let s = a.2 in (a.1, s.counted, s.values, fits_from vars a.1 order s.values s.met),
)

module _ (vars : List Variable) (best : List Kind) (numbers : List ℕ) (listed : AreFilled vars numbers) where
  pub satisfied_by : AreKindsFitting vars best → HaveEntries vars best numbers → IsSatisfied vars best (unfenced vars)
  satisfied_by fit have i w = record {
    fits = fit i w;
    filled = λ t. let k = listed.all i w t in subst (λ n. HasEntryOutside vars best (unfenced vars) n []) k.2 (have k.0 k.1);
  }

  pub satisfied_entries : IsSatisfied vars best (unfenced vars) → HaveEntries vars best numbers
  satisfied_entries f k w = let e = listed.each k w in (f (number_at numbers k) e.0).filled e.1

  module _ (small : length vars ≤ MOST_VARIABLES) (order : Ordered vars) (is : IsBest vars best) (alive fits : Bool) (less : IsLeft vars → IsTrue alive) (sure : IsTrue alive → IsTrue fits → AreKindsFitting vars best) (back : AreKindsFitting vars best → IsTrue fits) where
    -- a step that leaves fewer valuations, where all that have to have an entry are looked at again
    pub decides : (have : Bool) → (IsTrue have ↔ HaveEntries vars best numbers) → IsTrue ((alive && fits) && have) ↔ IsLeft vars
    decides have ih =
        let iff = left_iff vars best small order is in (
          λ t.
              let p = and_parts (alive && fits) have t in
              let q = and_parts alive fits p.0 in
              iff.0 (satisfied_by (sure q.0 q.1) (ih.0 p.1)),
          λ g.
              let s = iff.1 g in
              and_from (alive && fits) have (and_from alive fits (less g) (back (λ i w. (s i w).fits))) (ih.1 (satisfied_entries s)),
        )

    -- the same where they still have their entries
    pub decides_at_once : (IsTrue alive → HaveEntries vars best numbers) → IsTrue (alive && fits) ↔ IsLeft vars
    decides_at_once still =
        let iff = left_iff vars best small order is in (
          λ t. let q = and_parts alive fits t in iff.0 (satisfied_by (sure q.0 q.1) (still q.0)),
          λ g. let s = iff.1 g in and_from alive fits (less g) (back (λ i w. (s i w).fits)),
        )

-- ---- kinds that fell

module _ (vars : List Variable) (bound : ℕ) (old new : List Kind) (b : Bool) (falls : Falls vars bound old new b) where
  pub still_fit : AreKindsFitting vars old → IsTrue b → AreKindsFitting vars new
  still_fit fit t i w = elim (falls.absent i) [
    | inl e ↦ rw e (fit i w)
    | inr z ↦ elim (absent_cases (kind_at old i)) [
      | inl a ↦ rw (z ∙ sym a) (fit i w)
      | inr some ↦ rw z (falls.may.0 t i w (λ e. some (sym e ∙ z)))
    ]
  ]

  pub may_fall : AreKindsFitting vars new → IsTrue b
  may_fall fit = falls.may.1 (λ i w ne. elim (falls.absent i) [
    | inl e ↦ absurd (ne e)
    | inr z ↦ rw z at (fit i w)
  ])

pub settled_best : (vars : List Variable) (p : ℕ) (old new : List Kind) (b : Bool) → AreSettled vars p old new b → ((i : ℕ) → i < length vars → IsGreatest vars old i ⊎ (IsChildOf vars p i × IsShut vars old i)) → IsBest vars new
settled_best vars p old new b s ready i w = s.greatest i w (ready i w)

-- ---- entries among the greatest kinds, where the facts alone change

pub has_entry_same : (vars new : List Variable) (best : List Kind) → length new ≡ length vars → ((i : ℕ) → (var_at new i).definition ≡ (var_at vars i).definition) → ((i : ℕ) → (var_at new i).fence ≡ (var_at vars i).fence) → {n : ℕ} {ds : List (List ℕ)} → HasEntryOutside vars best (unfenced vars) n ds → HasEntryOutside new best (unfenced new) n ds
has_entry_same vars new best long same fence {n} {ds} (free node d o) = free (rw (same n) node) d (rw (fence n) o)
has_entry_same vars new best long same fence {n} {ds} (child_present m f w e some out) = child_present m f (rw long w) (same m ∙ e) some out
has_entry_same vars new best long same fence {n} {ds} (here x f y e some out) = here x f y (same n ∙ e) some out
has_entry_same vars new best long same fence {n} {ds} (below x f y e rest) = below x f y (same n ∙ e) (has_entry_same vars new best long same fence rest)
has_entry_same vars new best long same fence {n} {ds} (kept x e rest) = kept x (same n ∙ e) (has_entry_same vars new best long same fence rest)

-- ---- the variables that have an entry by a fact

pub filled_same : (vars new : List Variable) (numbers : List ℕ) → length new ≡ length vars → ((i : ℕ) → (var_at new i).not_empty ≡ (var_at vars i).not_empty) → AreFilled vars numbers → AreFilled new numbers
filled_same vars new numbers long same listed = record {
  each = λ k w. let e = listed.each k w in (rw long e.0, rw (same (number_at numbers k)) e.1);
  all = λ i w t. listed.all i (rw long at w) (rw (same i) at t);
}

pub filled_more : (vars : List Variable) (v : Variable) (numbers : List ℕ) → v.not_empty ≡ false → AreFilled vars numbers → AreFilled (vars ++ v ∷ []) numbers
filled_more vars v numbers none listed =
    let long : length (vars ++ v ∷ []) ≡ length vars + 1 = length-append vars (v ∷ []) in
    let old : (i : ℕ) → i < length vars → var_at (vars ++ v ∷ []) i ≡ var_at vars i = λ i w. get_or_append_left vars (v ∷ []) no_variable i w in
    let last : var_at (vars ++ v ∷ []) (length vars) ≡ v = get_or-append_seam vars v [] no_variable in
    record {
      each = λ k w. let e = listed.each k w in (rw long (let b = e.0 in omega (arith, b)), rw (old (number_at numbers k) e.0) e.1);
      all = λ i w' t.
          let w : i < length vars + 1 = rw long at w' in
          elim (last_cases i (length vars) w) [
            | inl b ↦ listed.all i b (rw (old i b) at t)
            | inr e ↦
                let yes : v.not_empty ≡ true = ap (λ (u : Variable). u.not_empty) (sym last ∙ ap (var_at (vars ++ v ∷ [])) (sym e)) ∙ t in
                let bad : true ≡ false = sym yes ∙ none in absurd (cc)
          ];
    }

pub filled_by : (vars : List Variable) (x : ℕ) (numbers : List ℕ) → x < length vars → AreFilled vars numbers → AreFilled (filled vars x) (numbers ++ x ∷ [])
filled_by vars x numbers inside listed =
    let new : List Variable = filled vars x in
    let long : length new ≡ length vars = length-set vars x _ in
    let here : (var_at new x).not_empty ≡ true = ap (λ (u : Variable). u.not_empty) (get_or-set_same vars x _ no_variable inside) in
    let other : (i : ℕ) → i ≢ x → (var_at new i).not_empty ≡ (var_at vars i).not_empty = λ i ne. ap (λ (u : Variable). u.not_empty) (get_or-set_other vars x i _ no_variable ne) in
    let more : length (numbers ++ x ∷ []) ≡ length numbers + 1 = length-append numbers (x ∷ []) in
    let old : (k : ℕ) → k < length numbers → number_at (numbers ++ x ∷ []) k ≡ number_at numbers k = λ k w. get_or_append_left numbers (x ∷ []) 0 k w in
    let last : number_at (numbers ++ x ∷ []) (length numbers) ≡ x = get_or-append_seam numbers x [] 0 in
    let still : (i : ℕ) → IsTrue (var_at vars i).not_empty → IsTrue (var_at new i).not_empty = λ i t. elim (nat_cases i x) [ inl e ↦ rw e here | inr ne ↦ other i ne ∙ t ] in
    record {
      each = λ k w'.
          let w : k < length numbers + 1 = rw more at w' in
          elim (last_cases k (length numbers) w) [
            | inl b ↦ let e = listed.each k b in rw (old k b) (rw long e.0, still (number_at numbers k) e.1)
            | inr e ↦ rw (e, last) (rw long inside, here)
          ];
      all = λ i w t. elim (nat_cases i x) [
        | inl e ↦ (length numbers, rw more (omega arith), last ∙ sym e)
        | inr ne ↦
            let k = listed.all i (rw long at w) (sym (other i ne) ∙ t) in
            (k.0, rw more (let b = k.1 in omega (arith, b)), old k.0 k.1 ∙ k.2)
      ];
    }

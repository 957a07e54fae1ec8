-- Entries that are taken away or replaced: what stands under each name then.
use Rattle.std.proofs.Common.{◌≡◌, ℕ, ◌⊎◌, inl, inr, Bool, true, false, List, [], ◌∷◌, Option, Some, None, refl, sym, ap, subst, ◌∙◌}
use Rattle.std.specs.List.{Contains}
use Rattle.std.specs.Prelude.{◌&&◌, ◌==◌, if◌then◌else◌}
use Rattle.std.specs.Option.{option_and_then}
use Rattle.std.specs.Str.{bytes_eq}
use Rattle.std.proofs.lemmas.Bool.{eqb-true}
use Rattle.std.proofs.lemmas.Slice.Eq.{bytes_eq-Decides}
use Rattle.feature_trees.specs.declared.shape.Entry.{Entry}
use Rattle.feature_trees.specs.declared.value.Value.{Value}
use Rattle.feature_trees.specs.Tree.{entry, find, update}
use Rattle.feature_trees.proofs.Laws.{Rises, find-update_same, find-update_other}
use Rattle.feature_trees.proofs.Kept.{rises_update}
use Rattle.tree_clauses.specs.declared.clause.Literal.{Literal}
use Rattle.tree_clauses.specs.declared.clause.Literal.TheVariants as L
use Rattle.tree_clauses.specs.Literals.{Valuation, value_of_variable, Meets, MeetsAll}
use Rattle.tree_clauses.specs.MadeValues.{entry_value, replaced}
use Rattle.tree_clauses.specs.Solved.{IsEntry, BeginWithEntries}
use Rattle.tree_clauses.specs.Steps.{Known, IsThere, AreKnown, Agrees}
use Rattle.tree_clauses.proofs.Names.{name_cases, same_yes}
use Rattle.tree_clauses.proofs.Orders.{contains_head, contains_tail, contains_cases, contains_nothing}

-- a name is one of these or not
pub has_or_not : (f : List ℕ) (names : List (List ℕ)) → Contains names f ⊎ ¬ (Contains names f)
has_or_not f [] = inr (contains_nothing f)
has_or_not f (n ∷ names) = elim (name_cases n f) [
  | inl e ↦ inl (subst (Contains (n ∷ names)) e.0 (contains_head n names))
  | inr ne ↦ elim (has_or_not f names) [
    | inl c ↦ inl (contains_tail n f names c)
    | inr out ↦ inr (λ c. elim (contains_cases n f names c) [ inl e ↦ ne.0 e | inr d ↦ out d ])
  ]
]

-- entries that are replaced

none_some : {X A : Type 0} (x : X) → None ≡ Some x → A
none_some x e = cc

-- the one literal of an entry

picked : (a b : Bool) (o : Option Value) (v : Value) → (if a && b then o else None) ≡ Some v → (a ≡ true) × (b ≡ true) × (o ≡ Some v)
picked true true o v e = (refl, refl, e)
picked true false o v e = none_some v e
picked false b o v e = none_some v e

missed : (a b : Bool) (o : Option Value) → (if a && b then o else None) ≡ None → a ≡ true → b ≡ true → o ≡ None
missed true true o e p q = e
missed true false o e p q = cc
missed false b o e p q = cc

pub entry_met : (known : Known) (g : Valuation) (y : ℕ) (f : List ℕ) (literal : Literal) (v : Value) → Agrees known g → entry_value known y f literal ≡ Some v → Meets g literal → v ≡ entry (value_of_variable g y) f
entry_met known g y f (L.Entry x n z) v agrees e met =
    let p = picked (x.0 == y) (bytes_eq n f) (known z.0) v e in
    sym (agrees z.0 v p.2) ∙ met ∙ ap (λ i. entry (value_of_variable g i) n) (eqb-true x.0 y p.0) ∙ ap (entry (value_of_variable g y)) ((bytes_eq-Decides n f).0 p.1)
entry_met known g y f (L.Kind x kinds) v agrees e met = none_some v e
entry_met known g y f (L.Fence x names) v agrees e met = none_some v e
entry_met known g y f (L.NotEmpty x) v agrees e met = none_some v e
entry_met known g y f (L.Similar x names z) v agrees e met = none_some v e
entry_met known g y f (L.Target x target) v agrees e met = none_some v e

there : (o : Option Value) (v : Value) → o ≡ Some v → IsThere o
there (Some w) v e = tt
there None v e = none_some v e

not_there : (o : Option Value) → o ≡ None → ¬ (IsThere o)
not_there (Some w) e = λ h. none_some w (sym e)
not_there None e = λ h. h

pub entry_named : (known : Known) (numbers : List ℕ) (y : ℕ) (f : List ℕ) (literal : Literal) (v : Value) → AreKnown numbers known → entry_value known y f literal ≡ Some v → IsEntry numbers y f literal
entry_named known numbers y f (L.Entry x n z) v are e =
    let p = picked (x.0 == y) (bytes_eq n f) (known z.0) v e in
    (eqb-true x.0 y p.0, (bytes_eq-Decides n f).0 p.1, (are z.0).1 (there (known z.0) v p.2))
entry_named known numbers y f (L.Kind x kinds) v are e = none_some v e
entry_named known numbers y f (L.Fence x names) v are e = none_some v e
entry_named known numbers y f (L.NotEmpty x) v are e = none_some v e
entry_named known numbers y f (L.Similar x names z) v are e = none_some v e
entry_named known numbers y f (L.Target x target) v are e = none_some v e

eq_itself : (x y : ℕ) → x ≡ y → (x == y) ≡ true
eq_itself x y e = same_yes x y e

pub entry_missing : (known : Known) (numbers : List ℕ) (y : ℕ) (f : List ℕ) (literal : Literal) → AreKnown numbers known → entry_value known y f literal ≡ None → ¬ (IsEntry numbers y f literal)
entry_missing known numbers y f (L.Entry x n z) are e = λ h.
    not_there (known z.0) (missed (x.0 == y) (bytes_eq n f) (known z.0) e (eq_itself x.0 y h.0) ((bytes_eq-Decides n f).1 h.1)) ((are z.0).0 h.2)
entry_missing known numbers y f (L.Kind x kinds) are e = λ h. h
entry_missing known numbers y f (L.Fence x names) are e = λ h. h
entry_missing known numbers y f (L.NotEmpty x) are e = λ h. h
entry_missing known numbers y f (L.Similar x names z) are e = λ h. h
entry_missing known numbers y f (L.Target x target) are e = λ h. h

some_cases : (o : Option Value) → (o ≡ None) ⊎ ((v : Value) × (o ≡ Some v))
some_cases None = inl refl
some_cases (Some v) = inr (v, refl)

-- an entry that was found, and what the others give
then_found : {X : Type 0} (k : Value → Option X) (o : Option Value) (x : X) → option_and_then k o ≡ Some x → (v : Value) × (o ≡ Some v) × (k v ≡ Some x)
then_found k (Some v) x e = (v, refl, e)
then_found k None x e = none_some x e

-- what stands under each name
pub record AreReplaced (g : Valuation) (y : ℕ) (names : List (List ℕ)) (literals : List Literal) (es new : List Entry) : Type 0 where
  pub rises : Rises new
  pub others : (f : List ℕ) → ¬ (Contains names f) → find new f ≡ find es f
  pub same : MeetsAll g literals → (f : List ℕ) → Contains names f → find new f ≡ entry (value_of_variable g y) f

pub are_replaced : (known : Known) (g : Valuation) (y : ℕ) (names : List (List ℕ)) (literals : List Literal) (es new : List Entry) → Agrees known g → Rises es → replaced known y names literals es ≡ Some new → AreReplaced g y names literals es new
are_replaced known g y [] literals es new agrees r e =
    let same : es ≡ new = cc in
    record { rises = subst Rises same r; others = λ f out. ap (λ x. find x f) (sym same); same = λ met f c. absurd (contains_nothing f c) }
are_replaced known g y (n ∷ names) [] es new agrees r e = none_some new e
are_replaced known g y (n ∷ names) (literal ∷ literals) es new agrees r e =
    let one = then_found (λ v. replaced known y names literals (update es n v)) (entry_value known y n literal) new e in
    let v = one.0 in
    let more = are_replaced known g y names literals (update es n v) new agrees (rises_update es n v r) one.2 in
    record {
      rises = more.rises;
      others = λ f out.
          more.others f (λ c. out (contains_tail n f names c))
          ∙ find-update_other es n f v r (λ q. out (subst (Contains (n ∷ names)) q (contains_head n names)));
      same = λ met f c. elim (has_or_not f names) [
        | inl d ↦ more.same met.1 f d
        | inr out ↦ more.others f out ∙ elim (contains_cases n f names c) [
          | inl q ↦ subst (λ x. find (update es n v) x ≡ entry (value_of_variable g y) x) q
              (find-update_same es n v r ∙ entry_met known g y n literal v agrees one.1 met.0)
          | inr d ↦ absurd (out d)
        ]
      ];
    }

pub replaced_begin : (known : Known) (numbers : List ℕ) (y : ℕ) (names : List (List ℕ)) (literals : List Literal) (es new : List Entry) → AreKnown numbers known → replaced known y names literals es ≡ Some new → BeginWithEntries numbers y names literals
replaced_begin known numbers y [] literals es new are e = tt
replaced_begin known numbers y (n ∷ names) [] es new are e = none_some new e
replaced_begin known numbers y (n ∷ names) (literal ∷ literals) es new are e =
    let one = then_found (λ v. replaced known y names literals (update es n v)) (entry_value known y n literal) new e in
    (entry_named known numbers y n literal one.0 are one.1, replaced_begin known numbers y names literals (update es n one.0) new are one.2)

then_missing : {X : Type 0} (k : Value → Option X) (o : Option Value) (v : Value) → o ≡ Some v → option_and_then k o ≡ None → k v ≡ None
then_missing k o v q e = sym (ap (option_and_then k) q) ∙ e

pub replaced_missing : (known : Known) (numbers : List ℕ) (y : ℕ) (names : List (List ℕ)) (literals : List Literal) (es : List Entry) → AreKnown numbers known → replaced known y names literals es ≡ None → ¬ (BeginWithEntries numbers y names literals)
replaced_missing known numbers y [] literals es are e = none_some es (sym e)
replaced_missing known numbers y (n ∷ names) [] es are e = λ h. h
replaced_missing known numbers y (n ∷ names) (literal ∷ literals) es are e = λ h. elim (some_cases (entry_value known y n literal)) [
  | inl none ↦ entry_missing known numbers y n literal are none h.0
  | inr some ↦ replaced_missing known numbers y names literals (update es n some.0) are
      (then_missing (λ v. replaced known y names literals (update es n v)) (entry_value known y n literal) some.0 some.1 e) h.1
]

-- one entry is replaced, or none can be
pub replaced_next : (known : Known) (y : ℕ) (n : List ℕ) (names : List (List ℕ)) (literal : Literal) (literals : List Literal) (es : List Entry) (v : Value) → entry_value known y n literal ≡ Some v → replaced known y (n ∷ names) (literal ∷ literals) es ≡ replaced known y names literals (update es n v)
replaced_next known y n names literal literals es v e = ap (option_and_then (λ w. replaced known y names literals (update es n w))) e

pub replaced_never : (known : Known) (y : ℕ) (n : List ℕ) (names : List (List ℕ)) (literal : Literal) (literals : List Literal) (es : List Entry) → entry_value known y n literal ≡ None → replaced known y (n ∷ names) (literal ∷ literals) es ≡ None
replaced_never known y n names literal literals es e = ap (option_and_then (λ w. replaced known y names literals (update es n w))) e

-- Entries that are put in one after another come to the same in any order, where no name has two values.
use Rattle.std.proofs.Common.{◌≡◌, ℕ, ◌⊎◌, inl, inr, List, [], ◌∷◌, ◌++◌, refl, sym, ap, ◌∙◌}
use Rattle.std.specs.List.{Contains}
use Rattle.std.specs.List.Sorted.{IsPermutation}
use Rattle.std.proofs.lemmas.List.Sorted.{Contains-permutation, IsPermutation-sym}
use Rattle.feature_trees.specs.declared.shape.Entry.{Entry}
use Rattle.feature_trees.specs.declared.value.Value.{Value}
use Rattle.feature_trees.specs.declared.value.Value.TheVariants as value
use Rattle.feature_trees.specs.Tree.{find, update}
use Rattle.feature_trees.proofs.Laws.{Rises, find-update_same, find-update_other}
use Rattle.feature_trees.proofs.Kept.{rises_update, same_finds}
use Rattle.tree_clauses.proofs.Names.{name_cases}
use Rattle.tree_clauses.proofs.Orders.{contains_head, contains_tail, contains_cases, contains_nothing}
use Rattle.clause_solver.specs.Gathered.{Pair, Gathered, with_pair, all_set, finished, AreOneEach}
use Rattle.clause_solver.specs.Builds.{with_entry}

pub all_set_push : (es : List Entry) (ps : List Pair) (p : Pair) → all_set es (ps ++ p ∷ []) ≡ update (all_set es ps) p.0 p.1
all_set_push es [] p = refl
all_set_push es (q ∷ ps) p = all_set_push (update es q.0 q.1) ps p

pub rises_all : (es : List Entry) (ps : List Pair) → Rises es → Rises (all_set es ps)
rises_all es [] r = r
rises_all es (p ∷ ps) r = rises_all (update es p.0 p.1) ps (rises_update es p.0 p.1 r)

-- the name has a value among the pairs
abbrev Named : List Pair → List ℕ → Type 0
Named ps f = (p : Pair) × Contains ps p × (p.0 ≡ f)

named_or_not : (ps : List Pair) (f : List ℕ) → Named ps f ⊎ (¬ (Named ps f))
named_or_not [] f = inr (λ n. contains_nothing n.0 n.1)
named_or_not (p ∷ ps) f = elim (name_cases p.0 f) [
  | inl e ↦ inl (p, contains_head p ps, e.0)
  | inr ne ↦ elim (named_or_not ps f) [
    | inl n ↦ inl (n.0, contains_tail p n.0 ps n.1, n.2)
    | inr none ↦ inr (λ n. elim (contains_cases p n.0 ps n.1) [
      | inl e ↦ ne.0 (ap (λ (q : Pair). q.0) e ∙ n.2)
      | inr more ↦ none (n.0, more, n.2)
    ])
  ]
]

find_unnamed : (es : List Entry) (ps : List Pair) (f : List ℕ) → Rises es → ¬ (Named ps f) → find (all_set es ps) f ≡ find es f
find_unnamed es [] f r none = refl
find_unnamed es (p ∷ ps) f r none =
    find_unnamed (update es p.0 p.1) ps f (rises_update es p.0 p.1 r) (λ n. none (n.0, contains_tail p n.0 ps n.1, n.2))
    ∙ find-update_other es p.0 f p.1 r (λ e. none (p, contains_head p ps, e))

find_named : (es : List Entry) (ps : List Pair) (f : List ℕ) (v : Value) → Rises es → Named ps f → ((p : Pair) → Contains ps p → p.0 ≡ f → p.1 ≡ v) → find (all_set es ps) f ≡ v
find_named es [] f v r n all = absurd (contains_nothing n.0 n.1)
find_named es (p ∷ ps) f v r n all = elim (named_or_not ps f) [
  | inl more ↦ find_named (update es p.0 p.1) ps f v (rises_update es p.0 p.1 r) more (λ q c e. all q (contains_tail p q ps c) e)
  | inr none ↦ elim (contains_cases p n.0 ps n.1) [
    | inr c ↦ absurd (none (n.0, c, n.2))
    | inl same ↦
        let here : p.0 ≡ f = ap (λ (q : Pair). q.0) same ∙ n.2 in
        find_unnamed (update es p.0 p.1) ps f (rises_update es p.0 p.1 r) none
        ∙ ap (find (update es p.0 p.1)) (sym here)
        ∙ find-update_same es p.0 p.1 r
        ∙ all p (contains_head p ps) here
  ]
]

-- one order is as good as another
pub all_set_permuted : (es : List Entry) (ps qs : List Pair) → Rises es → AreOneEach ps → IsPermutation ps qs → all_set es qs ≡ all_set es ps
all_set_permuted es ps qs r one perm = same_finds (all_set es qs) (all_set es ps) (rises_all es qs r) (rises_all es ps r)
    (λ f. elim (named_or_not ps f) [
      | inl n ↦
          let there : Contains qs n.0 = Contains-permutation ps qs n.0 perm n.1 in
          let back : (p : Pair) → Contains qs p → Contains ps p = λ p c. Contains-permutation qs ps p (IsPermutation-sym ps qs perm) c in
          find_named es qs f n.0.1 r (n.0, there, n.2) (λ p c e. one p n.0 (back p c) n.1 (e ∙ sym n.2))
          ∙ sym (find_named es ps f n.0.1 r n (λ p c e. one p n.0 c n.1 (e ∙ sym n.2)))
      | inr none ↦
          let none' : ¬ (Named qs f) = λ n. none (n.0, Contains-permutation qs ps n.0 (IsPermutation-sym ps qs perm) n.1, n.2) in
          find_unnamed es qs f r none' ∙ sym (find_unnamed es ps f r none)
    ])

-- a pair more is an entry more
pub finished_pair : (place : Gathered) (f : List ℕ) (v : Value) → finished (with_pair place f v) ≡ with_entry (finished place) f v
finished_pair (value.Absent, ps) f v = refl
finished_pair (value.Reg, ps) f v = refl
finished_pair (value.Link b, ps) f v = refl
finished_pair ((value.Special s), ps) f v = refl
finished_pair (value.Dir es, ps) f v = ap value.Dir (all_set_push es ps (f, v))

-- Which places are shown with one more entry: enough of them, and only places without a fence.
use Rattle.std.proofs.Common.{◌≡◌, ℕ, ◌+◌, ◌<◌, Bool, true, false, IsTrue, ◌⊎◌, inl, inr, List, [], length, set, get_or-set_same, get_or-set_other, refl, sym, subst, ◌∙◌}
use Rattle.feature_trees.specs.declared.kind.Kind.{Kind}
use Rattle.clause_solver.specs.declared.variable.MadeValue.{MadeValue}
use Rattle.clause_solver.specs.declared.variable.Definition.TheVariants.{Derived, Ensured, Made}
use Rattle.clause_solver.specs.declared.variable.Variable.{Variable}
use Rattle.clause_solver.specs.Variables.{var_at, is_node}
use Rattle.clause_solver.specs.Greatest.{IsSatisfied, unfenced, unfenced_if, HasEntryOutside, free, child_present, here, below, kept}
use Rattle.clause_solver.specs.Decided.{AreFilled, number_at}
use Rattle.clause_solver.specs.Opens.{mark_at, opened, IsRoot, itself, derived, ensured, IsOpenedFor, AreReasoned}
use Rattle.clause_solver.proofs.Names.{last_cases, nat_cases}
use Rattle.std.proofs.lemmas.Bool.{and_parts, and_from}

-- with more open places no entry is lost
pub has_entry_more : (vars : List Variable) (best : List Kind) (a b : ℕ → Bool) → ((n : ℕ) → IsTrue (a n) → IsTrue (b n)) → {n : ℕ} {ds : List (List ℕ)} → HasEntryOutside vars best a n ds → HasEntryOutside vars best b n ds
has_entry_more vars best a b more (free node d o) = free node d (more _ o)
has_entry_more vars best a b more (child_present m f w e some out) = child_present m f w e some out
has_entry_more vars best a b more (here x f y e some out) = here x f y e some out
has_entry_more vars best a b more (below x f y e rest) = below x f y e (has_entry_more vars best a b more rest)
has_entry_more vars best a b more (kept x e rest) = kept x e (has_entry_more vars best a b more rest)

-- where the place that a variable is made from is open, an entry stays
pub has_entry_opened : (vars : List Variable) (best : List Kind) (marks : List Bool) {x : ℕ} {ds : List (List ℕ)} → HasEntryOutside vars best (unfenced vars) x ds → ((r : ℕ) → IsRoot vars x r → IsTrue (mark_at marks r)) → HasEntryOutside vars best (opened vars marks) x ds
has_entry_opened vars best marks {x} (free node d o) root = free node d (and_from (mark_at marks x) (unfenced vars x) (root x (itself node)) o)
has_entry_opened vars best marks (child_present m f w e some out) root = child_present m f w e some out
has_entry_opened vars best marks (here x f y e some out) root = here x f y e some out
has_entry_opened vars best marks (below x f y e rest) root = below x f y e (has_entry_opened vars best marks rest (λ r q. root r (derived x f y e q)))
has_entry_opened vars best marks (kept x e rest) root = kept x e (has_entry_opened vars best marks rest (λ r q. root r (ensured x e q)))

-- the root of a place is itself, and a made variable's is its source's

pub root_node : (vars : List Variable) (n r : ℕ) → IsTrue (is_node (var_at vars n).definition) → IsRoot vars n r → r ≡ n
root_node vars n r node (itself t) = refl
root_node vars n r node (derived x f y e q) = let bad : false ≡ true = rw e at node in absurd (cc)
root_node vars n r node (ensured x e q) = let bad : false ≡ true = rw e at node in absurd (cc)

pub root_derived : (vars : List Variable) (n x : ℕ) (f : List ℕ) (y r : ℕ) → (var_at vars n).definition ≡ Derived x f y → IsRoot vars n r → IsRoot vars x r
root_derived vars n x f y r e (itself t) = let bad : false ≡ true = rw e at t in absurd (cc)
root_derived vars n x f y r e (derived x' f' y' e' q) =
    let same : Derived x' f' y' ≡ Derived x f y = sym e' ∙ e in
    let ex : x' ≡ x = cc in
    rw ex at q
root_derived vars n x f y r e (ensured x' e' q) = let bad : Derived x f y ≡ Ensured x' = sym e ∙ e' in absurd (cc)

pub root_ensured : (vars : List Variable) (n x r : ℕ) → (var_at vars n).definition ≡ Ensured x → IsRoot vars n r → IsRoot vars x r
root_ensured vars n x r e (itself t) = let bad : false ≡ true = rw e at t in absurd (cc)
root_ensured vars n x r e (derived x' f' y' e' q) = let bad : Ensured x ≡ Derived x' f' y' = sym e ∙ e' in absurd (cc)
root_ensured vars n x r e (ensured x' e' q) =
    let same : Ensured x' ≡ Ensured x = sym e' ∙ e in
    let ex : x' ≡ x = cc in
    rw ex at q

pub root_made : (vars : List Variable) (n r : ℕ) (m : MadeValue) → (var_at vars n).definition ≡ Made m → IsRoot vars n r → ⊥
root_made vars n r m e (itself t) = let bad : false ≡ true = rw e at t in cc
root_made vars n r m e (derived x f y e' q) = let bad : Made m ≡ Derived x f y = sym e ∙ e' in cc
root_made vars n r m e (ensured x e' q) = let bad : Made m ≡ Ensured x = sym e ∙ e' in cc

-- marks may be added
pub opened_more : (vars : List Variable) (old new : List Bool) → ((n : ℕ) → IsTrue (mark_at old n) → IsTrue (mark_at new n)) → (n : ℕ) → IsTrue (opened vars old n) → IsTrue (opened vars new n)
opened_more vars old new more n h = let q = and_parts (mark_at old n) (unfenced vars n) h in and_from (mark_at new n) (unfenced vars n) (more n q.0) q.1

-- an entry that is there with no place counted is there with any marks
pub has_entry_any : (vars : List Variable) (best : List Kind) (marks : List Bool) {n : ℕ} {ds : List (List ℕ)} → HasEntryOutside vars best (unfenced_if vars false) n ds → HasEntryOutside vars best (opened vars marks) n ds
has_entry_any vars best marks h = has_entry_more vars best (unfenced_if vars false) (opened vars marks) (λ n f. cc) h

-- where the numbers before one of these were looked at, the next one is
pub has_entry_next : (vars : List Variable) (best : List Kind) (numbers : List ℕ) (old new : List Bool) (i : ℕ) → ((n : ℕ) → IsTrue (mark_at old n) → IsTrue (mark_at new n)) → ((k : ℕ) → k < i → IsTrue (var_at vars (number_at numbers k)).not_empty → HasEntryOutside vars best (opened vars old) (number_at numbers k) []) → (IsTrue (var_at vars (number_at numbers i)).not_empty → HasEntryOutside vars best (opened vars new) (number_at numbers i) []) → (k : ℕ) → k < i + 1 → IsTrue (var_at vars (number_at numbers k)).not_empty → HasEntryOutside vars best (opened vars new) (number_at numbers k) []
has_entry_next vars best numbers old new i more before now k w t = elim (last_cases k i w) [
  | inl b ↦ has_entry_more vars best (opened vars old) (opened vars new) (opened_more vars old new more) (before k b t)
  | inr e ↦ rw e (now (rw e at t))
]

-- where all numbers of those that have an entry were looked at, every variable is satisfied
pub satisfied_opened : (vars : List Variable) (best : List Kind) (numbers : List ℕ) (marks : List Bool) → AreFilled vars numbers → IsSatisfied vars best (unfenced vars) → ((k : ℕ) → k < length numbers → IsTrue (var_at vars (number_at numbers k)).not_empty → HasEntryOutside vars best (opened vars marks) (number_at numbers k) []) → IsSatisfied vars best (opened vars marks)
satisfied_opened vars best numbers marks listed satisfied looked i w = record {
  fits = (satisfied i w).fits;
  filled = λ t.
      let k = listed.all i w t in
      subst (λ n. HasEntryOutside vars best (opened vars marks) n []) k.2 (looked k.0 k.1 (subst (λ n. IsTrue (var_at vars n).not_empty) (sym k.2) t));
}

pub mark_same : (marks : List Bool) (r : ℕ) → r < length marks → mark_at (set marks r true) r ≡ true
mark_same marks r w = get_or-set_same marks r true false w

-- a further mark has its reason
pub reasoned_more : (vars : List Variable) (best : List Kind) (old new : List Bool) (i : ℕ) → AreReasoned vars best old → ((n : ℕ) → IsTrue (mark_at new n) → IsTrue (mark_at old n) ⊎ IsOpenedFor vars best n i) → AreReasoned vars best new
reasoned_more vars best old new i before more n t = elim (more n t) [ inl b ↦ before n b | inr o ↦ (i, o) ]

-- one mark more is at its place alone
pub mark_set : (marks : List Bool) (r n : ℕ) → IsTrue (mark_at (set marks r true) n) → IsTrue (mark_at marks n) ⊎ (n ≡ r)
mark_set marks r n t = elim (nat_cases n r) [
  | inl e ↦ inr e
  | inr ne ↦ inl (rw get_or-set_other at t)
]

-- For each store, as it is seen, there is a clause with the same pairs. Its variables are those of the store and one
-- more, which stands for each that a literal may name beyond them: nothing is there.
use Rattle.std.proofs.Common.{◌≡◌, ◌↔◌, ℕ, zero, suc, ◌≤◌, IsTrue, List, [], ◌∷◌, map, length, refl, sym, ap, ◌∙◌, arith}
use Rattle.std.proofs.lemmas.List.{get_or_past}
use Rattle.feature_trees.specs.declared.kind.Kind.{Kind as KindOf}
use Rattle.feature_trees.specs.declared.kind.Kind.TheVariants as kind
use Rattle.feature_trees.specs.declared.kind.Special.TheVariants as special
use Rattle.feature_trees.specs.declared.value.Value.{Value}
use Rattle.feature_trees.specs.declared.value.Value.TheVariants as value
use Rattle.feature_trees.specs.Kinds.{has, of}
use Rattle.feature_trees.specs.Tree.{kind_of}
use Rattle.tree_clauses.specs.declared.clause.Var.{Var}
use Rattle.tree_clauses.specs.declared.clause.Clause.{Clause}
use Rattle.tree_clauses.specs.declared.clause.Literal.{Literal}
use Rattle.tree_clauses.specs.declared.clause.Literal.TheVariants.{Entry, Kind, Fence, NotEmpty, Similar, Target}
use Rattle.tree_clauses.specs.Literals.{Valuation, value_of_variable, IsSound, Meets, MeetsAll, Covers}
use Rattle.tree_clauses.proofs.Values.{absent_kind}
use Rattle.clause_solver.specs.Stands.{Seen}
use Rattle.clause_solver.specs.Pairs.{HasPair}

-- ---- valuations of so many variables

-- the number of a variable, which is the count for each beyond
abbrev capped : ℕ → ℕ → ℕ
capped zero i = zero
capped (suc count) zero = zero
capped (suc count) (suc i) = suc (capped count i)

-- the valuation of the first variables alone, as many as the count
abbrev fitted : ℕ → Valuation → Valuation
fitted zero g = []
fitted (suc count) [] = value.Absent ∷ fitted count []
fitted (suc count) (v ∷ g) = v ∷ fitted count g

past : (g : Valuation) (i : ℕ) → length g ≤ i → value_of_variable g i ≡ value.Absent
past g i beyond = get_or_past g i value.Absent beyond

fitted_count : (count : ℕ) (g : Valuation) → length (fitted count g) ≡ count
fitted_count zero g = refl
fitted_count (suc count) [] = ap suc (fitted_count count [])
fitted_count (suc count) (v ∷ g) = ap suc (fitted_count count g)

fitted_sound : (count : ℕ) (g : Valuation) → IsSound g → IsSound (fitted count g)
fitted_sound zero g sound k d within = absurd (omega (arith, within))
fitted_sound (suc count) [] sound zero d within = refl
fitted_sound (suc count) [] sound (suc k) d within = fitted_sound count [] sound k d (omega (arith, within))
fitted_sound (suc count) (v ∷ g) sound zero d within = sound zero d (omega arith)
fitted_sound (suc count) (v ∷ g) sound (suc k) d within =
    fitted_sound count g (λ j e less. sound (suc j) e (omega (arith, less))) k d (omega (arith, within))

fitted_same : (count : ℕ) (g : Valuation) → length g ≡ count → fitted count g ≡ g
fitted_same zero [] counted = refl
fitted_same zero (v ∷ g) counted = absurd (omega (arith, counted))
fitted_same (suc count) [] counted = absurd (omega (arith, counted))
fitted_same (suc count) (v ∷ g) counted = ap (λ (h : Valuation). v ∷ h) (fitted_same count g (omega (arith, counted)))

-- where nothing stands for the variable behind the others, each has its value
fitted_at : (count : ℕ) (g : Valuation) (i : ℕ) → value_of_variable g count ≡ value.Absent
    → value_of_variable (fitted count g) i ≡ value_of_variable g (capped count i)
fitted_at zero g i none = past [] i (omega arith) ∙ sym none
fitted_at (suc count) [] zero none = refl
fitted_at (suc count) [] (suc i) none =
    fitted_at count [] i (past [] count (omega arith)) ∙ past [] (capped count i) (omega arith)
    ∙ sym (past [] (suc (capped count i)) (omega arith))
fitted_at (suc count) (v ∷ g) zero none = refl
fitted_at (suc count) (v ∷ g) (suc i) none = fitted_at count g i none

-- ---- the literals of so many variables

module _ (count : ℕ) where
  abbrev variable : Var → Var
  variable x = record { 0 = capped count x.0 }

  -- the literal of the capped variables
  abbrev literal : Literal → Literal
  literal (Entry x f y) = Entry (variable x) f (variable y)
  literal (Kind x kinds) = Kind (variable x) kinds
  literal (Fence x names) = Fence (variable x) names
  literal (NotEmpty x) = NotEmpty (variable x)
  literal (Similar y names x) = Similar (variable y) names (variable x)
  literal (Target x target) = Target (variable x) target

  module _ (g h : Valuation) (same : (i : ℕ) → value_of_variable h i ≡ value_of_variable g (capped count i)) where
    meets : (l : Literal) → Meets g (literal l) ↔ Meets h l
    meets (Entry x f y) = ((λ m. rw (same x.0, same y.0) m), (λ m. rw (← same x.0, ← same y.0) m))
    meets (Kind x kinds) = ((λ m. rw (same x.0) m), (λ m. rw (← same x.0) m))
    meets (Fence x names) = ((λ m. rw (same x.0) m), (λ m. rw (← same x.0) m))
    meets (NotEmpty x) = ((λ m. rw (same x.0) m), (λ m. rw (← same x.0) m))
    meets (Similar y names x) = ((λ m. rw (same x.0, same y.0) m), (λ m. rw (← same x.0, ← same y.0) m))
    meets (Target x target) = ((λ m. rw (same x.0) m), (λ m. rw (← same x.0) m))

    meets_all : (ls : List Literal) → MeetsAll g (map literal ls) ↔ MeetsAll h ls
    meets_all [] = ((λ m. m), (λ m. m))
    meets_all (l ∷ ls) = (
      (λ m. ((meets l).0 m.0, (meets_all ls).0 m.1)),
      (λ m. ((meets l).1 m.0, (meets_all ls).1 m.1)),
    )

-- ---- the clause

-- the start and the tree now of the store, a directory at the start, nothing behind the variables, and its literals
abbrev pub clause_of : Seen → Clause
clause_of s = record {
  literals = Kind (variable s.count (record { 0 = 0 })) (of kind.Dir)
      ∷ (Kind (record { 0 = s.count }) (of kind.Absent) ∷ map (literal s.count) s.literals);
  start = variable s.count (record { 0 = 0 });
  now = variable s.count (record { 0 = s.current });
}

is_dir : (k : KindOf) → IsTrue (has (of kind.Dir) k) → k ≡ kind.Dir
is_dir kind.Absent h = cc
is_dir kind.Reg h = cc
is_dir kind.Link h = cc
is_dir (kind.Special special.Fifo) h = cc
is_dir (kind.Special special.Socket) h = cc
is_dir (kind.Special special.Block) h = cc
is_dir (kind.Special special.Char) h = cc
is_dir kind.Dir h = refl

is_absent : (k : KindOf) → IsTrue (has (of kind.Absent) k) → k ≡ kind.Absent
is_absent kind.Absent h = refl
is_absent kind.Reg h = cc
is_absent kind.Link h = cc
is_absent (kind.Special special.Fifo) h = cc
is_absent (kind.Special special.Socket) h = cc
is_absent (kind.Special special.Block) h = cc
is_absent (kind.Special special.Char) h = cc
is_absent kind.Dir h = cc

module _ (s : Seen) (t u : Value) where
  pair_covered : Covers (clause_of s) t u → HasPair s t u
  pair_covered covers =
      let g = covers.valuation in
      let none : value_of_variable g s.count ≡ value.Absent = absent_kind (value_of_variable g s.count) (is_absent _ covers.met.1.0) in
      let same : (i : ℕ) → value_of_variable (fitted s.count g) i ≡ value_of_variable g (capped s.count i) = λ i. fitted_at s.count g i none in (
        fitted s.count g,
        record {
          counted = fitted_count s.count g;
          starts = same 0 ∙ covers.starts;
          tree = ap kind_of (sym covers.starts) ∙ is_dir _ covers.met.0;
          ends = ap kind_of (same s.current ∙ covers.ends) ∙ covers.tree;
          met = (meets_all s.count g (fitted s.count g) same s.literals).0 covers.met.1.1;
          values = fitted_sound s.count g covers.values;
        },
        same s.current ∙ covers.ends,
      )

  covers_pair : HasPair s t u → Covers (clause_of s) t u
  covers_pair pair =
      let g = pair.0 in
      let is = pair.1 in
      let none : value_of_variable g s.count ≡ value.Absent = past g s.count (omega (arith, is.counted)) in
      let same : (i : ℕ) → value_of_variable g i ≡ value_of_variable g (capped s.count i) =
      λ i. ap (λ (h : Valuation). value_of_variable h i) (sym (fitted_same s.count g is.counted)) ∙ fitted_at s.count g i none in
      record {
        valuation = g;
        values = is.values;
        starts = sym (same 0) ∙ is.starts;
        ends = sym (same s.current) ∙ pair.2;
        tree = ap kind_of (sym pair.2) ∙ is.ends;
        met = (
          ap (λ (v : Value). has (of kind.Dir) (kind_of v)) (sym (same 0) ∙ is.starts) ∙ ap (has (of kind.Dir)) is.tree,
          (ap (λ (v : Value). has (of kind.Absent) (kind_of v)) none, (meets_all s.count g g same s.literals).1 is.met),
        );
      }

  pub covers_its_pairs : Covers (clause_of s) t u ↔ HasPair s t u
  covers_its_pairs = (pair_covered, covers_pair)

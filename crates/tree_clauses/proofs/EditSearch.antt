-- The edit of a name that is found by halving, among edits whose names rise.
use Rattle.std.proofs.Common.{◌≡◌, ◌≢◌, ℕ, zero, suc, ◌<◌, inl, inr, List, [], ◌∷◌, length, get_or, map, Option, Some, None, Result, Ok, Err, refl, sym, ap, ◌∙◌, arith, add-one}
use Rattle.std.specs.Prelude.{if◌then◌else◌}
use Rattle.std.specs.Result.{MatchResult}
use Rattle.std.specs.Str.{bytes_eq}
use Rattle.std.specs.List.Sorted.{IsSearchInRange, IsBinarySearchResult, IsNonDecreasingBy, IsSortedBy}
use Rattle.std.specs.Ordering.{is_lt, ordering_index, ordering_reverse}
use Rattle.std.specs.declared.cmp.Ordering.TheVariants.{Less, Equal, Greater}
use Rattle.std.proofs.lemmas.List.Sorted.{searchable_from_sorted}
use Rattle.std.proofs.lemmas.Slice.Eq.{bytes_eq-Decides}
use Rattle.std.proofs.lemmas.Cmp.{tied_itself}
use Rattle.std.proofs.lemmas.Bool.{cases_lt}
use Rattle.feature_trees.specs.Tree.{name_cmp}
use Rattle.feature_trees.proofs.Found.{same_name}
use Rattle.feature_trees.proofs.Laws.{ord}
use Rattle.tree_clauses.specs.declared.cell.Edit.{Edit}
use Rattle.tree_clauses.specs.Cells.{place_if, place_under}
use Rattle.tree_clauses.specs.Solved.{Rising}
use Rattle.tree_clauses.proofs.Names.{bool_cases}

-- the names of edits
abbrev pub names_of_edits : List Edit → List (List ℕ)
names_of_edits edits = map (λ (e : Edit). e.name) edits

-- each name comes after the one before it
adjacent : (es : List Edit) (k : ℕ) (d : Edit) → Rising (names_of_edits es) → suc k < length es → name_cmp (get_or es (suc k) d).name (get_or es k d).name ≡ Greater
adjacent [] k d r lt = absurd (omega arith)
adjacent (e ∷ []) k d r lt = absurd (omega arith)
adjacent (e ∷ g ∷ es) zero d r lt = ord.antisymm g.name e.name ∙ ap ordering_reverse r.0
adjacent (e ∷ g ∷ es) (suc k) d r lt = adjacent (g ∷ es) k d r.1 (omega arith)

sorted : (es : List Edit) → Rising (names_of_edits es) → IsSortedBy (λ (a : Edit) (b : Edit). is_lt (name_cmp a.name b.name)) es
sorted es r = λ k d low lt. rw add-one (ap is_lt (adjacent es k d r (omega arith)))

-- the comparisons with a name rise
compared : (es : List Edit) (f : List ℕ) → Rising (names_of_edits es) → IsNonDecreasingBy (λ (e : Edit). ordering_index (name_cmp e.name f)) es
compared es f r = searchable_from_sorted ord (λ (e : Edit). e.name) es f (sorted es r)

rising_rest : (e : Edit) (es : List Edit) → Rising (names_of_edits (e ∷ es)) → Rising (names_of_edits es)
rising_rest e [] r = tt
rising_rest e (g ∷ es) r = r.1

-- the first name comes before all others
first_less : (e : Edit) (es : List Edit) (k : ℕ) (d : Edit) → Rising (names_of_edits (e ∷ es)) → k < length es → name_cmp e.name (get_or es k d).name ≡ Less
first_less e [] k d r lt = absurd (omega arith)
first_less e (g ∷ es) zero d r lt = r.0
first_less e (g ∷ es) (suc k) d r lt = ord.trans e.name g.name (get_or es k d).name r.0 (first_less g es k d r.1 (omega arith))

less_other : (f g : List ℕ) → name_cmp f g ≡ Less → g ≢ f
less_other f g e q = let bad : Less ≡ Equal = sym e ∙ ap (name_cmp f) q ∙ tied_itself ord f in cc

-- an edit of another name, and one of the name
other_if : (e : Edit) (f : List ℕ) (found : Option ℕ) → e.name ≢ f → place_if e f found ≡ found
other_if e f found ne = elim (bool_cases (bytes_eq e.name f)) [
  | inl t ↦ absurd (ne ((bytes_eq-Decides e.name f).0 t))
  | inr n ↦ ap (λ b. if b then Some e.place else found) n
]

same_if : (e : Edit) (f : List ℕ) (found : Option ℕ) → e.name ≡ f → place_if e f found ≡ Some e.place
same_if e f found q = ap (λ b. if b then Some e.place else found) ((bytes_eq-Decides e.name f).1 q)

none_under : (es : List Edit) (f : List ℕ) (found : Option ℕ) → ((k : ℕ) (d : Edit) → k < length es → (get_or es k d).name ≢ f) → place_under found f es ≡ found
none_under [] f found none = refl
none_under (e ∷ es) f found none =
    ap (λ o. place_under o f es) (other_if e f found (none 0 e (omega arith)))
    ∙ none_under es f found (λ k d lt. none (suc k) d (omega arith))

some_under : (es : List Edit) (f : List ℕ) (found : Option ℕ) (i : ℕ) (d : Edit) → Rising (names_of_edits es) → i < length es → (get_or es i d).name ≡ f → place_under found f es ≡ Some (get_or es i d).place
some_under [] f found i d r lt q = absurd (omega arith)
some_under (e ∷ es) f found zero d r lt q =
    ap (λ o. place_under o f es) (same_if e f found q)
    ∙ none_under es f (Some e.place) (λ k c w p. less_other e.name (get_or es k c).name (first_less e es k c r w) (p ∙ sym q))
some_under (e ∷ es) f found (suc i) d r lt q = some_under es f (place_if e f found) i d (rising_rest e es r) (omega arith) q

-- what a search answers
abbrev pub IsFoundEdit : List Edit → List ℕ → Result ℕ ℕ → Type 0
IsFoundEdit es f r =
    MatchResult r
    (λ at. (at < length es) × ((d : Edit) → place_under None f es ≡ Some (get_or es at d).place))
    (λ at. place_under None f es ≡ None)

pub searched : (es : List Edit) (f : List ℕ) → Rising (names_of_edits es) → (r : Result ℕ ℕ) → IsSearchInRange r (length es)
    → IsBinarySearchResult (λ (e : Edit). name_cmp e.name f) es r → IsFoundEdit es f r
searched es f r (Ok i) range equal = (range, λ d. some_under es f None i d r range (same_name (get_or es i d).name f (equal d)))
searched es f r (Err i) range parted =
    let parts = parted (compared es f r) in
    none_under es f None (λ k d lt q.
    let same : name_cmp (get_or es k d).name f ≡ Equal = ap (λ n. name_cmp n f) q ∙ tied_itself ord f in
    elim (cases_lt k i) [
      | inl low ↦ let bad : Less ≡ Equal = sym (parts.0 k d (omega arith) low) ∙ same in cc
      | inr high ↦ let bad : Greater ≡ Equal = sym (parts.1 k d high lt) ∙ same in cc
    ])

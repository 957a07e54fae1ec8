-- A place that is found by halving, among names that rise.
use Rattle.std.proofs.Common.{◌≡◌, ℕ, zero, suc, ◌<◌, ◌≤◌, IsTrue, List, [], ◌∷◌, length, drop, get_or, Result, Ok, Err, ap, ◌∙◌, arith, add-one}
use Rattle.std.specs.Result.{MatchResult}
use Rattle.std.specs.List.Sorted.{IsSearchInRange, IsBinarySearchResult, IsNonDecreasingBy, IsSortedBy}
use Rattle.std.specs.Ordering.{is_lt, ordering_index, ordering_reverse}
use Rattle.std.specs.declared.cmp.Ordering.TheVariants.{Less, Equal, Greater}
use Rattle.std.proofs.lemmas.List.Sorted.{searchable_from_sorted}
use Rattle.feature_trees.specs.declared.value.NamedValue.{NamedValue}
use Rattle.feature_trees.specs.declared.value.Value.TheVariants.{Absent}
use Rattle.feature_trees.specs.Place.{Passed, BeginsAfter, IsAt, IsGap}
use Rattle.feature_trees.specs.Sound.{sound_all}
use Rattle.feature_trees.specs.Tree.{name_cmp}
use Rattle.feature_trees.specs.View.{seen}
use Rattle.feature_trees.proofs.Found.{same_name, begins_at}
use Rattle.feature_trees.proofs.Laws.{Above, Rises, rises_of, ord, flip_less, above_more}

flip_greater : (f g : List ℕ) → name_cmp f g ≡ Less → name_cmp g f ≡ Greater
flip_greater f g e = ord.antisymm g f ∙ ap ordering_reverse e

flip_equal : (f g : List ℕ) → name_cmp f g ≡ Equal → name_cmp g f ≡ Equal
flip_equal f g e = ord.antisymm g f ∙ ap ordering_reverse e

-- each name comes after the one before it
adjacent : (hs : List NamedValue) (k : ℕ) (d : NamedValue) → Rises (seen hs) → suc k < length hs → name_cmp (get_or hs (suc k) d).name (get_or hs k d).name ≡ Greater
adjacent [] k d r lt = absurd (omega arith)
adjacent (h ∷ []) k d r lt = absurd (omega arith)
adjacent (h ∷ g ∷ hs) zero d r lt = flip_greater h.name g.name r.0
adjacent (h ∷ g ∷ hs) (suc k) d r lt = adjacent (g ∷ hs) k d r.1 (omega arith)

sorted : (hs : List NamedValue) → Rises (seen hs) → IsSortedBy (λ (a : NamedValue) (b : NamedValue). is_lt (name_cmp a.name b.name)) hs
sorted hs r = λ k d low lt. rw add-one (ap is_lt (adjacent hs k d r (omega arith)))

-- the comparisons with a name rise
compared : (hs : List NamedValue) (f : List ℕ) → Rises (seen hs) → IsNonDecreasingBy (λ (h : NamedValue). ordering_index (name_cmp h.name f)) hs
compared hs f r = searchable_from_sorted ord (λ (h : NamedValue). h.name) hs f (sorted hs r)

-- a name that comes before the first comes before all
above_at : (f : List ℕ) (hs : List NamedValue) (i : ℕ) (d : NamedValue) → Above f (seen hs) → Rises (seen hs) → i < length hs → name_cmp f (get_or hs i d).name ≡ Less
above_at f [] i d a r lt = absurd (omega arith)
above_at f (h ∷ hs) zero d a r lt = a
above_at f (h ∷ hs) (suc i) d a r lt = above_at f hs i d (above_more f h.name (seen hs) a r.0) r.1 (omega arith)

-- the names before a place are passed by the name there
passed_at : (hs : List NamedValue) (f : List ℕ) (i : ℕ) (d : NamedValue) → Rises (seen hs) → i < length hs → f ≡ (get_or hs i d).name → Passed hs f i
passed_at hs f zero d r lt is = tt
passed_at [] f (suc i) d r lt is = absurd (omega arith)
passed_at (h ∷ hs) f (suc i) d r lt is =
    (ap (λ n. name_cmp n h.name) is ∙ flip_greater h.name (get_or hs i d).name (above_at h.name hs i d r.0 r.1 (omega arith)), passed_at hs f i d r.1 (omega arith) is)

-- the names before a gap are passed
passed_gap : (hs : List NamedValue) (f : List ℕ) (i : ℕ) → i ≤ length hs → ((k : ℕ) (d : NamedValue) → k < i → name_cmp (get_or hs k d).name f ≡ Less) → Passed hs f i
passed_gap hs f zero le low = tt
passed_gap [] f (suc i) le low = absurd (omega arith)
passed_gap (h ∷ hs) f (suc i) le low = (flip_greater h.name f (low 0 h (omega arith)), passed_gap hs f i (omega arith) (λ k d lt. low (suc k) d (omega arith)))

-- behind a gap the names come after
gap_begins : (hs : List NamedValue) (f : List ℕ) (i : ℕ) → i ≤ length hs → ((d : NamedValue) → i < length hs → name_cmp (get_or hs i d).name f ≡ Greater) → BeginsAfter (drop i hs) f
gap_begins [] f zero le high = tt
gap_begins [] f (suc i) le high = absurd (omega arith)
gap_begins (h ∷ hs) f zero le high = flip_less h.name f (high h (omega arith))
gap_begins (h ∷ hs) f (suc i) le high = gap_begins hs f i (omega arith) (λ d lt. high d (omega arith))

-- a search among sound entries ends at the name, or where it would go
pub searched : (hs : List NamedValue) (f : List ℕ) → IsTrue (sound_all (seen hs)) → (r : Result ℕ ℕ) → IsSearchInRange r (length hs)
    → IsBinarySearchResult (λ (h : NamedValue). name_cmp h.name f) hs r → MatchResult r (IsAt hs f) (IsGap hs f)
searched hs f s (Ok i) range equal =
    let d : NamedValue = record { name = []; value = Absent } in
    let here : name_cmp f (get_or hs i d).name ≡ Equal = flip_equal (get_or hs i d).name f (equal d) in
    record { in_range = range; passed = passed_at hs f i d (rises_of (seen hs) s) range (same_name f _ here); here = begins_at hs f i d range here }
searched hs f s (Err i) range parted =
    let parts = parted (compared hs f (rises_of (seen hs) s)) in
    record {
      in_range = range;
      passed = passed_gap hs f i range (λ k d lt. parts.0 k d (omega arith) lt);
      here = gap_begins hs f i range (λ d lt. parts.1 i d (omega arith) lt);
    }

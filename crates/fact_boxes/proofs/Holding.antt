-- What one fact leaves fits where the fact holds, and what cells have together fits where they do.
use Rattle.std.proofs.Common.{◌≡◌, ◌≢◌, ℕ, ◌⊎◌, inl, inr, Bool, true, false, IsTrue, List, [], ◌∷◌, ◌++◌}
use Rattle.std.proofs.Common.{Option, Some, None, refl, sym, ap, subst, arith, ◌∙◌}
use Rattle.std.specs.Prelude.{not, ◌||◌, ◌&&◌, if◌then◌else◌, Contains, All}
use Rattle.std.specs.Str.{bytes_eq}
use Rattle.std.proofs.lemmas.List.Elements.{All-nil, All-cons, All-head, All-tail, All-append}
use Rattle.std.proofs.lemmas.Slice.Eq.{bytes_eq-Decides}
use Rattle.feature_trees.specs.declared.kind.Kind.{Kind}
use Rattle.feature_trees.specs.declared.kind.Kind.TheVariants as kind
use Rattle.feature_trees.specs.declared.kind.Kinds.{Kinds}
use Rattle.feature_trees.specs.declared.kind.Special.TheVariants.{Fifo, Socket, Block, Char}
use Rattle.feature_trees.specs.declared.value.Value.{Value}
use Rattle.feature_trees.specs.declared.value.Value.TheVariants as value
use Rattle.feature_trees.specs.Kinds.{has as has_kind, all, both, either, of}
use Rattle.feature_trees.specs.Tree.{at, entry, kind_of}
use Rattle.feature_trees.proofs.Laws.{at-append}
use Rattle.tree_clauses.specs.NameSets.{is_among}
use Rattle.tree_clauses.proofs.AgreeingEntries.{among_iff}
use Rattle.tree_clauses.proofs.Orders.{contains_cases, contains_nothing}
use Rattle.start_facts.specs.declared.fact.Fact.{Fact}
use Rattle.start_facts.specs.declared.fact.Fact.TheVariants as fact
use Rattle.start_facts.specs.declared.fact.PlaceFact.{PlaceFact}
use Rattle.start_facts.specs.PlaceFacts.{Says, Holds}
use Rattle.fact_boxes.specs.declared.cells.Column.{Column}
use Rattle.fact_boxes.specs.declared.cells.Cell.{Cell}
use Rattle.fact_boxes.specs.Cells.{anything, nothing, are_among, left_here, shuts, left_below, behind, beside}
use Rattle.fact_boxes.specs.Cells.{leaves, meet, join, share, clash, are_all, is_anything, unless, told}
use Rattle.fact_boxes.specs.Holds.{Fits}

-- ---- tests

pub differ : true ≡ false → ⊥
differ e = cc

pub both_true : (a b : Bool) → (a && b) ≡ true → (a ≡ true) × (b ≡ true)
both_true true b e = (refl, e)
both_true false b e = cc

pub and_true : {a b : Bool} → IsTrue a → IsTrue b → IsTrue (a && b)
and_true {a} {b} p q = subst (λ c. IsTrue (c && b)) (sym p) q

pub or_left : {a : Bool} (b : Bool) → IsTrue a → IsTrue (a || b)
or_left {a} b p = subst (λ c. IsTrue (c || b)) (sym p) refl

pub or_right : (a : Bool) {b : Bool} → IsTrue b → IsTrue (a || b)
or_right true p = refl
or_right false p = p

pub or_true : (a b : Bool) → (a || b) ≡ true → (a ≡ true) ⊎ (b ≡ true)
or_true true b e = inl refl
or_true false b e = inr e

pub not_true : (a : Bool) → not a ≡ true → a ≡ false
not_true true e = cc
not_true false e = refl

pub not_false : (a : Bool) → not a ≡ false → a ≡ true
not_false true e = refl
not_false false e = cc

pub or_false : (a b : Bool) → (a || b) ≡ false → (a ≡ false) × (b ≡ false)
or_false true b e = cc
or_false false b e = (refl, e)

pub and_false : (a b : Bool) → (a && b) ≡ false → (a ≡ false) ⊎ (b ≡ false)
and_false true b e = inr e
and_false false b e = inl refl

pub either_true : {a b : Bool} → IsTrue a ⊎ IsTrue b → IsTrue (a || b)
either_true {a} {b} (inl p) = or_left b p
either_true {a} {b} (inr q) = or_right a q

pub all_left : {X : Type 0} (P : X → Type 0) (xs ys : List X) → All P (xs ++ ys) → All P xs
all_left P [] ys every = All-nil P
all_left P (x ∷ xs) ys every = All-cons P x xs (All-head P x (xs ++ ys) every) (all_left P xs ys (All-tail P x (xs ++ ys) every))

pub all_right : {X : Type 0} (P : X → Type 0) (xs ys : List X) → All P (xs ++ ys) → All P ys
all_right P [] ys every = every
all_right P (x ∷ xs) ys every = all_right P xs ys (All-tail P x (xs ++ ys) every)

-- ---- names

all_among : (others names : List (List ℕ)) → are_among others names ≡ true → (f : List ℕ) → Contains names f → Contains others f
all_among others [] e f c = absurd (contains_nothing f c)
all_among others (g ∷ names) e f c = elim (contains_cases g f names c) [
  | inl same ↦ subst (λ h. Contains others h) same ((among_iff others g).0 (both_true (is_among others g) (are_among others names) e).0)
  | inr more ↦ all_among others names (both_true (is_among others g) (are_among others names) e).1 f more
]

-- ---- kinds

has_all : (k : Kind) → IsTrue (has_kind all k)
has_all kind.Absent = refl
has_all kind.Reg = refl
has_all kind.Link = refl
has_all (kind.Special Fifo) = refl
has_all (kind.Special Socket) = refl
has_all (kind.Special Block) = refl
has_all (kind.Special Char) = refl
has_all kind.Dir = refl

no_entry : (v : Value) (kinds : Kinds) → kinds.dir ≡ false → IsTrue (has_kind kinds (kind_of v)) → (f : List ℕ) → entry v f ≡ value.Absent
no_entry value.Absent kinds e h f = refl
no_entry value.Reg kinds e h f = refl
no_entry (value.Link b) kinds e h f = refl
no_entry (value.Special s) kinds e h f = refl
no_entry (value.Dir es) kinds e h f = absurd (differ (sym h ∙ e))

is_directory : (v : Value) (f : List ℕ) → entry v f ≢ value.Absent → IsTrue (has_kind (of kind.Dir) (kind_of v))
is_directory value.Absent f there = absurd (there refl)
is_directory value.Reg f there = absurd (there refl)
is_directory (value.Link b) f there = absurd (there refl)
is_directory (value.Special s) f there = absurd (there refl)
is_directory (value.Dir es) f there = refl

-- ---- one fact

pub anything_fits : (v : Value) (but : List (List ℕ)) → Fits v but anything
anything_fits v but = record { kinds = has_all (kind_of v); some = λ (e : true ≡ false). absurd (differ e); none = λ (e : true ≡ false). absurd (differ e) }

here_fits : (said : Fact) (but : List (List ℕ)) (v : Value) → Says said v → Fits v but (left_here said but)
here_fits (fact.Kinds kinds) but v says = record {
  kinds = says;
  some = λ e f out. no_entry v kinds e says f;
  none = λ (e : true ≡ false). absurd (differ e);
}
here_fits (fact.Fence names) but v says = record {
  kinds = has_all (kind_of v);
  some = λ e f out. says f (λ c. out (all_among but names (not_false _ e) f c));
  none = λ (e : true ≡ false). absurd (differ e);
}
here_fits (fact.Beside names) but v says = record {
  kinds = is_directory v says.0 says.1.1;
  some = λ (e : true ≡ false). absurd (differ e);
  none = λ e. (says.0, ((λ c. says.1.0 (all_among names but (not_false _ e) says.0 c)), says.1.1));
}
here_fits (fact.Target target) but v says = record {
  kinds = subst (λ w. IsTrue (has_kind (of kind.Link) (kind_of w))) (sym says) refl;
  some = λ e f out. ap (λ (w : Value). entry w f) says;
  none = λ (e : true ≡ false). absurd (differ e);
}

shut_entry : (said : Fact) (f : List ℕ) (v : Value) → Says said v → shuts said f ≡ true → entry v f ≡ value.Absent
shut_entry (fact.Kinds kinds) f v says e = no_entry v kinds (not_true _ e) says f
shut_entry (fact.Fence names) f v says e = says f (λ c. differ (sym ((among_iff names f).1 c) ∙ not_true _ e))
shut_entry (fact.Beside names) f v says e = cc
shut_entry (fact.Target target) f v says e = ap (λ (w : Value). entry w f) says

at_nothing : (names : List (List ℕ)) → at value.Absent names ≡ value.Absent
at_nothing [] = refl
at_nothing (f ∷ names) = at_nothing names

nothing_fits : (v : Value) (but : List (List ℕ)) → v ≡ value.Absent → Fits v but nothing
nothing_fits v but e = subst (λ w. Fits w but nothing) (sym e) (record {
  kinds = refl;
  some = λ x f out. refl;
  none = λ (x : true ≡ false). absurd (differ x);
})

below_fits : (said : Fact) (but : List (List ℕ)) (above : Value) (below : Option (List (List ℕ))) (v : Value) → Says said above
    → ((names : List (List ℕ)) → below ≡ Some names → v ≡ at above names) → Fits v but (left_below said but below)
below_fits said but above None v says is = anything_fits v but
below_fits said but above (Some []) v says is = subst (λ w. Fits w but (left_here said but)) (sym (is [] refl)) (here_fits said but above says)
below_fits said but above (Some (f ∷ names)) v says is = step (shuts said f) refl
  where
    step : (b : Bool) → shuts said f ≡ b → Fits v but (if b then nothing else anything)
    step true e = nothing_fits v but (is (f ∷ names) refl ∙ ap (λ (w : Value). at w names) (shut_entry said f above says e) ∙ at_nothing names)
    step false e = anything_fits v but

behind_is : (above names rest : List (List ℕ)) → behind above names ≡ Some rest → names ≡ above ++ rest
behind_is [] names rest e = some_is e
  where
    some_is : Some names ≡ Some rest → names ≡ rest
    some_is e = cc
behind_is (f ∷ above) [] rest e = cc
behind_is (f ∷ above) (g ∷ names) rest e = step (bytes_eq f g) refl e (behind_is above names rest)
  where
    step : (b : Bool) → bytes_eq f g ≡ b → (if b then behind above names else None) ≡ Some rest
        → (behind above names ≡ Some rest → names ≡ above ++ rest) → g ∷ names ≡ f ∷ (above ++ rest)
    step true s t more = λ i. sym ((bytes_eq-Decides f g).0 s) i ∷ more t i
    step false s t more = cc

beside_fits : (v : Value) (but : List (List ℕ)) (cell : Cell) → Fits v but cell → Fits v but (beside but cell)
beside_fits v [] cell fits = fits
beside_fits v (f ∷ but) cell fits = record { kinds = has_all (kind_of v); some = fits.some; none = fits.none }

-- what a fact leaves to a column fits what stands there in each tree of which the fact holds
pub leaves_fit : (tree : Value) (said : PlaceFact) (column : Column) → Holds tree said → Fits (at tree column.place) column.but (leaves said column)
leaves_fit tree said column holds =
    beside_fits (at tree column.place) column.but (left_below said.fact column.but (behind said.place column.place))
    (below_fits said.fact column.but (at tree said.place) (behind said.place column.place) (at tree column.place) holds
    (λ names e. ap (at tree) (behind_is said.place column.place names e) ∙ at-append tree said.place names))

-- ---- cells together

has_both : (a b : Kinds) (k : Kind) → IsTrue (has_kind a k) → IsTrue (has_kind b k) → IsTrue (has_kind (both a b) k)
has_both a b kind.Absent p q = and_true p q
has_both a b kind.Reg p q = and_true p q
has_both a b kind.Link p q = and_true p q
has_both a b (kind.Special Fifo) p q = and_true p q
has_both a b (kind.Special Socket) p q = and_true p q
has_both a b (kind.Special Block) p q = and_true p q
has_both a b (kind.Special Char) p q = and_true p q
has_both a b kind.Dir p q = and_true p q

pub meet_fits : (v : Value) (but : List (List ℕ)) (a b : Cell) → Fits v but a → Fits v but b → Fits v but (meet a b)
meet_fits v but a b p q = record {
  kinds = has_both a.kinds b.kinds (kind_of v) p.kinds q.kinds;
  some = λ e. elim (and_false a.some b.some e) [ inl x ↦ p.some x | inr y ↦ q.some y ];
  none = λ e. elim (and_false a.none b.none e) [ inl x ↦ p.none x | inr y ↦ q.none y ];
}

has_either : (a b : Kinds) (k : Kind) → IsTrue (has_kind a k) ⊎ IsTrue (has_kind b k) → IsTrue (has_kind (either a b) k)
has_either a b kind.Absent p = either_true p
has_either a b kind.Reg p = either_true p
has_either a b kind.Link p = either_true p
has_either a b (kind.Special Fifo) p = either_true p
has_either a b (kind.Special Socket) p = either_true p
has_either a b (kind.Special Block) p = either_true p
has_either a b (kind.Special Char) p = either_true p
has_either a b kind.Dir p = either_true p

pub join_fits_left : (v : Value) (but : List (List ℕ)) (a b : Cell) → Fits v but a → Fits v but (join a b)
join_fits_left v but a b p = record {
  kinds = has_either a.kinds b.kinds (kind_of v) (inl p.kinds);
  some = λ e. p.some (or_false a.some b.some e).0;
  none = λ e. p.none (or_false a.none b.none e).0;
}

pub join_fits_right : (v : Value) (but : List (List ℕ)) (a b : Cell) → Fits v but b → Fits v but (join a b)
join_fits_right v but a b p = record {
  kinds = has_either a.kinds b.kinds (kind_of v) (inr p.kinds);
  some = λ e. p.some (or_false a.some b.some e).1;
  none = λ e. p.none (or_false a.none b.none e).1;
}

shared : (a b : Kinds) (k : Kind) → IsTrue (has_kind a k) → IsTrue (has_kind b k) → IsTrue (share a b)
shared a b kind.Absent p q = or_left _ (and_true p q)
shared a b kind.Reg p q = or_right (a.absent && b.absent) (or_left _ (and_true p q))
shared a b kind.Link p q = or_right (a.absent && b.absent) (or_right (a.reg && b.reg) (or_left _ (and_true p q)))
shared a b (kind.Special Fifo) p q =
    or_right (a.absent && b.absent) (or_right (a.reg && b.reg) (or_right (a.link && b.link) (or_left _ (and_true p q))))
shared a b (kind.Special Socket) p q =
    or_right (a.absent && b.absent) (or_right (a.reg && b.reg) (or_right (a.link && b.link) (or_right (a.fifo && b.fifo) (or_left _ (and_true p q)))))
shared a b (kind.Special Block) p q =
    or_right (a.absent && b.absent) (or_right (a.reg && b.reg) (or_right (a.link && b.link) (or_right (a.fifo && b.fifo)
    (or_right (a.socket && b.socket) (or_left _ (and_true p q))))))
shared a b (kind.Special Char) p q =
    or_right (a.absent && b.absent) (or_right (a.reg && b.reg) (or_right (a.link && b.link) (or_right (a.fifo && b.fifo)
    (or_right (a.socket && b.socket) (or_right (a.block && b.block) (or_left _ (and_true p q)))))))
shared a b kind.Dir p q =
    or_right (a.absent && b.absent) (or_right (a.reg && b.reg) (or_right (a.link && b.link) (or_right (a.fifo && b.fifo)
    (or_right (a.socket && b.socket) (or_right (a.block && b.block) (or_right (a.char && b.char) (and_true p q)))))))

no_more : (v : Value) (but : List (List ℕ)) → Says (fact.Fence but) v → Says (fact.Beside but) v → ⊥
no_more v but none some = some.1.1 (none some.0 some.1.0)

-- nothing fits two cells that clash
pub clash_apart : (v : Value) (but : List (List ℕ)) (a b : Cell) → Fits v but a → Fits v but b → clash a b ≡ true → ⊥
clash_apart v but a b p q e = elim (or_true (not (share a.kinds b.kinds)) _ e) [
  | inl kinds ↦ differ (sym (shared a.kinds b.kinds (kind_of v) p.kinds q.kinds) ∙ not_true _ kinds)
  | inr entries ↦ no_more v but (fenced entries) (filled entries)
]
  where
    fenced : not ((a.none && b.none) || (a.some && b.some)) ≡ true → Says (fact.Fence but) v
    fenced n = elim (and_false a.some b.some (or_false (a.none && b.none) (a.some && b.some) (not_true _ n)).1) [
      | inl x ↦ p.some x
      | inr y ↦ q.some y
    ]

    filled : not ((a.none && b.none) || (a.some && b.some)) ≡ true → Says (fact.Beside but) v
    filled n = elim (and_false a.none b.none (or_false (a.none && b.none) (a.some && b.some) (not_true _ n)).0) [
      | inl x ↦ p.none x
      | inr y ↦ q.none y
    ]

-- ---- what is told

all_has : (s : Kinds) (k : Kind) → are_all s ≡ true → IsTrue (has_kind s k)
all_has s kind.Absent e = (both_true s.absent _ e).0
all_has s kind.Reg e = (both_true s.reg _ (both_true s.absent _ e).1).0
all_has s kind.Link e = (both_true s.link _ (both_true s.reg _ (both_true s.absent _ e).1).1).0
all_has s (kind.Special Fifo) e = (both_true s.fifo _ (both_true s.link _ (both_true s.reg _ (both_true s.absent _ e).1).1).1).0
all_has s (kind.Special Socket) e =
    (both_true s.socket _ (both_true s.fifo _ (both_true s.link _ (both_true s.reg _ (both_true s.absent _ e).1).1).1).1).0
all_has s (kind.Special Block) e =
    (both_true s.block _ (both_true s.socket _ (both_true s.fifo _ (both_true s.link _ (both_true s.reg _ (both_true s.absent _ e).1).1).1).1).1).0
all_has s (kind.Special Char) e =
    (both_true s.char _ (both_true s.block _ (both_true s.socket _ (both_true s.fifo _ (both_true s.link _ (both_true s.reg _ (both_true s.absent _ e).1).1).1).1).1).1).0
all_has s kind.Dir e =
    (both_true s.char _ (both_true s.block _ (both_true s.socket _ (both_true s.fifo _ (both_true s.link _ (both_true s.reg _ (both_true s.absent _ e).1).1).1).1).1).1).1

no_fact : (tree : Value) → All (Holds tree) []
no_fact tree k d lt = absurd (omega arith)

unless_holds : (tree : Value) (b : Bool) (column : Column) (said : Fact) → (b ≡ false → Says said (at tree column.place))
    → All (Holds tree) (unless b column said)
unless_holds tree true column said says = no_fact tree
unless_holds tree false column said says = All-cons (Holds tree) (record { place = column.place; fact = said }) [] (says refl) (no_fact tree)

unless_says : (tree : Value) (b : Bool) (column : Column) (said : Fact) → All (Holds tree) (unless b column said) → b ≡ false
    → Says said (at tree column.place)
unless_says tree true column said every e = absurd (differ e)
unless_says tree false column said every e = All-head (Holds tree) (record { place = column.place; fact = said }) [] every

-- what is told of a cell holds where the cell fits
pub told_holds : (tree : Value) (column : Column) (cell : Cell) → Fits (at tree column.place) column.but cell → All (Holds tree) (told column cell)
told_holds tree column cell fits =
    All-append (Holds tree) (unless (are_all cell.kinds) column (fact.Kinds cell.kinds)) _
    (unless_holds tree (are_all cell.kinds) column (fact.Kinds cell.kinds) (λ e. fits.kinds))
    (All-append (Holds tree) (unless cell.some column (fact.Fence column.but)) _
    (unless_holds tree cell.some column (fact.Fence column.but) fits.some)
    (unless_holds tree cell.none column (fact.Beside column.but) fits.none))

-- and only there
pub told_fits : (tree : Value) (column : Column) (cell : Cell) → All (Holds tree) (told column cell) → Fits (at tree column.place) column.but cell
told_fits tree column cell every = record {
  kinds = kinds (are_all cell.kinds) refl;
  some = unless_says tree cell.some column (fact.Fence column.but) (all_left (Holds tree) _ _ rest);
  none = unless_says tree cell.none column (fact.Beside column.but) (all_right (Holds tree) (unless cell.some column (fact.Fence column.but)) _ rest);
}
  where
    rest : All (Holds tree) (unless cell.some column (fact.Fence column.but) ++ unless cell.none column (fact.Beside column.but))
    rest = all_right (Holds tree) (unless (are_all cell.kinds) column (fact.Kinds cell.kinds)) _ every

    kinds : (b : Bool) → are_all cell.kinds ≡ b → IsTrue (has_kind cell.kinds (kind_of (at tree column.place)))
    kinds true e = all_has cell.kinds (kind_of (at tree column.place)) e
    kinds false e = unless_says tree (are_all cell.kinds) column (fact.Kinds cell.kinds) (all_left (Holds tree) _ _ every) e

-- everything fits a cell where everything is left
pub everything_fits : (v : Value) (but : List (List ℕ)) (cell : Cell) → is_anything cell ≡ true → Fits v but cell
everything_fits v but cell e =
    let kinds = both_true (are_all cell.kinds) _ e in
    let rest = both_true cell.none cell.some kinds.1 in
    record {
      kinds = all_has cell.kinds (kind_of v) kinds.0;
      some = λ lacks. absurd (differ (sym rest.1 ∙ lacks));
      none = λ lacks. absurd (differ (sym rest.0 ∙ lacks));
    }

-- Trees lie in rows and boxes.
use Rattle.std.proofs.Common.{◌≡◌, ℕ, zero, suc, ◌⊎◌, inl, inr, Bool, true, false, List, [], ◌∷◌, length}
use Rattle.std.proofs.Common.{refl, sym, subst, arith}
use Rattle.std.specs.Prelude.{not, ◌&&◌, if◌then◌else◌, nat_lt, nat_le, Contains, All}
use Rattle.std.specs.List.{list_all, filter}
use Rattle.std.proofs.lemmas.Bool.{ltb-true, leb-true}
use Rattle.std.proofs.lemmas.List.Elements.{All-head, All-tail}
use Rattle.feature_trees.specs.declared.value.Value.{Value}
use Rattle.feature_trees.specs.Tree.{at}
use Rattle.tree_clauses.proofs.Orders.{contains_cases, contains_nothing}
use Rattle.start_facts.specs.declared.fact.PlaceFact.{PlaceFact}
use Rattle.start_facts.specs.PlaceFacts.{Holds}
use Rattle.fact_boxes.specs.declared.boxes.TheConstants.{MOST_BOXES, MOST_MEMBERS}
use Rattle.fact_boxes.specs.declared.cells.Column.{Column}
use Rattle.fact_boxes.specs.declared.cells.Cell.{Cell}
use Rattle.fact_boxes.specs.Cells.{anything, leaves, meet, clash}
use Rattle.fact_boxes.specs.Rows.{Row, joined, clashes, narrowed, row_of, row_at}
use Rattle.fact_boxes.specs.Boxes.{tells, hull_of, with_row, boxes_onto, without, is_needed, differs, needed, numbers_to}
use Rattle.fact_boxes.specs.Boxes.{numbers_below, shortened, all_shortened, boxes_else, boxes_beside, boxes_of}
use Rattle.fact_boxes.specs.Holds.{Fits, IsRow, LiesIn, LiesInSome}
use Rattle.fact_boxes.specs.Laws.{FactsAreRows, FactsLie, BoxesAreMet, BoxesAreApart, ToldIsFit}
use Rattle.fact_boxes.proofs.Holding.{anything_fits, leaves_fit, meet_fits, join_fits_left, join_fits_right, clash_apart}
use Rattle.fact_boxes.proofs.Holding.{told_holds, told_fits, differ, both_true, or_true}

module _ (tree : Value) where
  -- ---- rows

  narrowed_fits : (column : Column) (cell : Cell) (facts : List PlaceFact) → Fits (at tree column.place) column.but cell
      → All (Holds tree) facts → Fits (at tree column.place) column.but (narrowed column cell facts)
  narrowed_fits column cell [] fits all = fits
  narrowed_fits column cell (said ∷ facts) fits all =
      narrowed_fits column (meet cell (leaves said column)) facts
      (meet_fits (at tree column.place) column.but cell (leaves said column) fits
      (leaves_fit tree said column (All-head (Holds tree) said facts all)))
      (All-tail (Holds tree) said facts all)

  row_lies : (columns : List Column) (facts : List PlaceFact) → All (Holds tree) facts → LiesIn tree columns (row_of columns facts)
  row_lies [] facts all = tt
  row_lies (column ∷ columns) facts all = (
    narrowed_fits column anything facts (anything_fits (at tree column.place) column.but) all,
    row_lies columns facts all,
  )

  joined_left : (columns : List Column) (a b : Row) → LiesIn tree columns a → LiesIn tree columns (joined a b)
  joined_left [] a b p = tt
  joined_left (column ∷ columns) [] b p = tt
  joined_left (column ∷ columns) (x ∷ a) [] p = tt
  joined_left (column ∷ columns) (x ∷ a) (y ∷ b) p = (join_fits_left (at tree column.place) column.but x y p.0, joined_left columns a b p.1)

  joined_right : (columns : List Column) (a b : Row) → LiesIn tree columns b → LiesIn tree columns (joined a b)
  joined_right [] a b p = tt
  joined_right (column ∷ columns) [] b p = tt
  joined_right (column ∷ columns) (x ∷ a) [] p = tt
  joined_right (column ∷ columns) (x ∷ a) (y ∷ b) p = (join_fits_right (at tree column.place) column.but x y p.0, joined_right columns a b p.1)

  apart : (columns : List Column) (a b : Row) → IsRow columns b → LiesIn tree columns a → LiesIn tree columns b → clashes a b ≡ true → ⊥
  apart columns [] b few p q e = differ (sym e)
  apart columns (x ∷ a) [] few p q e = differ (sym e)
  apart [] (x ∷ a) (y ∷ b) few p q e = absurd few
  apart (column ∷ columns) (x ∷ a) (y ∷ b) few p q e = elim (or_true (clash x y) (clashes a b) e) [
    | inl here ↦ clash_apart (at tree column.place) column.but x y p.0 q.0 here
    | inr more ↦ apart columns a b few p.1 q.1 more
  ]

  without_lies : (columns : List Column) (row : Row) (k : ℕ) → LiesIn tree columns row → LiesIn tree columns (without row k)
  without_lies [] row k p = tt
  without_lies (column ∷ columns) [] k p = tt
  without_lies (column ∷ columns) (x ∷ row) zero p = (anything_fits (at tree column.place) column.but, p.1)
  without_lies (column ∷ columns) (x ∷ row) (suc k) p = (p.0, without_lies columns row k p.1)

  module _ (columns : List Column) (rows : List Row) where
    needed_lies : (outs ks : List ℕ) (row : Row) → LiesIn tree columns row → LiesIn tree columns (needed rows outs ks row)
    needed_lies outs [] row p = p
    needed_lies outs (k ∷ ks) row p =
        step (is_needed rows outs row k) (needed_lies (filter (λ o. not (differs rows row k o)) outs) ks row p)
        (needed_lies outs ks (without row k) (without_lies columns row k p))
      where
        step : (b : Bool) → LiesIn tree columns (needed rows (filter (λ o. not (differs rows row k o)) outs) ks row)
            → LiesIn tree columns (needed rows outs ks (without row k))
            → LiesIn tree columns (if b then needed rows (filter (λ o. not (differs rows row k o)) outs) ks row else needed rows outs ks (without row k))
        step true a b = a
        step false a b = b

    shortened_lies : (outs : List ℕ) (row : Row) → LiesIn tree columns row → LiesIn tree columns (shortened rows outs row)
    shortened_lies outs row p =
        needed_lies outs (numbers_below (length row)) (needed rows outs (numbers_to (length row)) row)
        (needed_lies outs (numbers_to (length row)) row p)

    all_shortened_lie : (outs : List ℕ) (boxes : List Row) → LiesInSome tree columns boxes → LiesInSome tree columns (all_shortened rows outs boxes)
    all_shortened_lie outs [] some = absurd some
    all_shortened_lie outs (box ∷ boxes) (inl here) = inl (shortened_lies outs box here)
    all_shortened_lie outs (box ∷ boxes) (inr more) = inr (all_shortened_lie outs boxes more)

    -- ---- the hull

    hull_keeps : (row : Row) (members : List ℕ) → LiesIn tree columns row → LiesIn tree columns (hull_of rows row members)
    hull_keeps row [] p = p
    hull_keeps row (m ∷ members) p = hull_keeps (joined row (row_at rows m)) members (joined_left columns row (row_at rows m) p)

    hull_has : (row : Row) (members : List ℕ) (m : ℕ) → Contains members m → LiesIn tree columns (row_at rows m)
        → LiesIn tree columns (hull_of rows row members)
    hull_has row [] m c p = absurd (contains_nothing m c)
    hull_has row (n ∷ members) m c p = step (contains_cases n m members c) (hull_has (joined row (row_at rows n)) members m)
      where
        step : (n ≡ m) ⊎ Contains members m
            → (Contains members m → LiesIn tree columns (row_at rows m) → LiesIn tree columns (hull_of rows (joined row (row_at rows n)) members))
            → LiesIn tree columns (hull_of rows (joined row (row_at rows n)) members)
        step (inl same) more =
            hull_keeps (joined row (row_at rows n)) members
            (joined_right columns row (row_at rows n) (subst (λ k. LiesIn tree columns (row_at rows k)) (sym same) p))
        step (inr there) more = more there p

    -- ---- boxes

    with_keeps : (outs : List ℕ) (row : Row) (boxes : List Row) → LiesInSome tree columns boxes → LiesInSome tree columns (with_row rows outs row boxes)
    with_keeps outs row [] some = absurd some
    with_keeps outs row (box ∷ boxes) some = step (tells rows outs (joined box row)) some (with_keeps outs row boxes)
      where
        step : (b : Bool) → LiesInSome tree columns (box ∷ boxes)
            → (LiesInSome tree columns boxes → LiesInSome tree columns (with_row rows outs row boxes))
            → LiesInSome tree columns (if b then joined box row ∷ boxes else box ∷ with_row rows outs row boxes)
        step true (inl here) more = inl (joined_left columns box row here)
        step true (inr there) more = inr there
        step false (inl here) more = inl here
        step false (inr there) more = inr (more there)

    with_has : (outs : List ℕ) (row : Row) (boxes : List Row) → LiesIn tree columns row → LiesInSome tree columns (with_row rows outs row boxes)
    with_has outs row [] p = inl p
    with_has outs row (box ∷ boxes) p = step (tells rows outs (joined box row)) (with_has outs row boxes p)
      where
        step : (b : Bool) → LiesInSome tree columns (with_row rows outs row boxes)
            → LiesInSome tree columns (if b then joined box row ∷ boxes else box ∷ with_row rows outs row boxes)
        step true more = inl (joined_right columns box row p)
        step false more = inr more

    Few : List Row → Type 0
    Few boxes = nat_le (length boxes) MOST_BOXES ≡ true

    not_few : (boxes : List Row) → nat_lt MOST_BOXES (length boxes) ≡ true → nat_le (length boxes) MOST_BOXES ≡ true → ⊥
    not_few boxes many few = let a = ltb-true MOST_BOXES (length boxes) many in let b = leb-true (length boxes) MOST_BOXES few in absurd (omega (arith, a, b))

    onto_keeps : (outs : List ℕ) (boxes : List Row) (members : List ℕ) → LiesInSome tree columns boxes
        → LiesInSome tree columns (boxes_onto rows outs boxes members)
    onto_keeps outs boxes [] some = some
    onto_keeps outs boxes (m ∷ members) some =
        step (nat_lt MOST_BOXES (length boxes)) (onto_keeps outs (with_row rows outs (row_at rows m) boxes) members (with_keeps outs (row_at rows m) boxes some))
      where
        step : (b : Bool) → LiesInSome tree columns (boxes_onto rows outs (with_row rows outs (row_at rows m) boxes) members)
            → LiesInSome tree columns (if b then boxes else boxes_onto rows outs (with_row rows outs (row_at rows m) boxes) members)
        step true more = some
        step false more = more

    onto_has : (outs : List ℕ) (boxes : List Row) (members : List ℕ) (m : ℕ) → Contains members m → LiesIn tree columns (row_at rows m)
        → nat_le (length (boxes_onto rows outs boxes members)) MOST_BOXES ≡ true
        → LiesInSome tree columns (boxes_onto rows outs boxes members)
    onto_has outs boxes [] m c p few = absurd (contains_nothing m c)
    onto_has outs boxes (n ∷ members) m c p few =
        step (nat_lt MOST_BOXES (length boxes)) refl few (onto_has outs (with_row rows outs (row_at rows n) boxes) members m)
        (onto_keeps outs (with_row rows outs (row_at rows n) boxes) members) (contains_cases n m members c)
      where
        step : (b : Bool) → nat_lt MOST_BOXES (length boxes) ≡ b
            → nat_le (length (if b then boxes else boxes_onto rows outs (with_row rows outs (row_at rows n) boxes) members)) MOST_BOXES ≡ true
            → (Contains members m → LiesIn tree columns (row_at rows m)
            → nat_le (length (boxes_onto rows outs (with_row rows outs (row_at rows n) boxes) members)) MOST_BOXES ≡ true
            → LiesInSome tree columns (boxes_onto rows outs (with_row rows outs (row_at rows n) boxes) members))
            → (LiesInSome tree columns (with_row rows outs (row_at rows n) boxes)
            → LiesInSome tree columns (boxes_onto rows outs (with_row rows outs (row_at rows n) boxes) members))
            → (n ≡ m) ⊎ Contains members m
            → LiesInSome tree columns (if b then boxes else boxes_onto rows outs (with_row rows outs (row_at rows n) boxes) members)
        step true e f more keeps which = absurd (not_few boxes e f)
        step false e f more keeps (inl same) = keeps (with_has outs (row_at rows n) boxes (subst (λ k. LiesIn tree columns (row_at rows k)) (sym same) p))
        step false e f more keeps (inr there) = more there p f

    else_has : (outs : List ℕ) (hull : Row) (boxes : List Row) → LiesIn tree columns hull
        → (nat_le (length boxes) MOST_BOXES ≡ true → LiesInSome tree columns boxes)
        → LiesInSome tree columns (boxes_else rows outs hull boxes)
    else_has outs hull boxes p some = step (nat_le (length boxes) MOST_BOXES && list_all (tells rows outs) boxes) refl
      where
        step : (b : Bool) → (nat_le (length boxes) MOST_BOXES && list_all (tells rows outs) boxes) ≡ b
            → LiesInSome tree columns (if b then boxes else hull ∷ [])
        step true e = some (both_true (nat_le (length boxes) MOST_BOXES) _ e).0
        step false e = inl p

    beside_has : (members outs : List ℕ) (hull : Row) (m : ℕ) → Contains members m → LiesIn tree columns (row_at rows m) → LiesIn tree columns hull
        → LiesInSome tree columns (boxes_beside rows members outs hull)
    beside_has members outs hull m c p h = step (tells rows outs hull) (nat_lt MOST_MEMBERS (length members))
      where
        step : (b d : Bool) → LiesInSome tree columns (if b then hull ∷ [] else (if d then hull ∷ [] else boxes_else rows outs hull (boxes_onto rows outs [] members)))
        step true d = inl h
        step false true = inl h
        step false false = else_has outs hull (boxes_onto rows outs [] members) h (onto_has outs [] members m c p)

    of_has : (members outs : List ℕ) (m : ℕ) → Contains members m → LiesIn tree columns (row_at rows m)
        → LiesInSome tree columns (boxes_of rows members outs)
    of_has [] outs m c p = absurd (contains_nothing m c)
    of_has (n ∷ members) outs m c p =
        all_shortened_lie outs (boxes_beside rows (n ∷ members) outs (hull_of rows (row_at rows n) members))
        (beside_has (n ∷ members) outs (hull_of rows (row_at rows n) members) m c p (hull (contains_cases n m members c)))
      where
        hull : (n ≡ m) ⊎ Contains members m → LiesIn tree columns (hull_of rows (row_at rows n) members)
        hull (inl same) = hull_keeps (row_at rows n) members (subst (λ k. LiesIn tree columns (row_at rows k)) (sym same) p)
        hull (inr there) = hull_has (row_at rows n) members m there p

    -- ---- outsiders

    tells_one : (outs : List ℕ) (box : Row) (o : ℕ) → tells rows outs box ≡ true → Contains outs o → clashes box (row_at rows o) ≡ true
    tells_one [] box o e c = absurd (contains_nothing o c)
    tells_one (n ∷ outs) box o e c = elim (contains_cases n o outs c) [
      | inl same ↦ subst (λ k. clashes box (row_at rows k) ≡ true) same (both_true (clashes box (row_at rows n)) _ e).0
      | inr more ↦ tells_one outs box o (both_true (clashes box (row_at rows n)) _ e).1 more
    ]

    none_lies : (outs : List ℕ) (boxes : List Row) (o : ℕ) → list_all (tells rows outs) boxes ≡ true → Contains outs o
        → IsRow columns (row_at rows o) → LiesIn tree columns (row_at rows o) → ¬ (LiesInSome tree columns boxes)
    none_lies outs [] o e c few p some = absurd some
    none_lies outs (box ∷ boxes) o e c few p (inl here) =
        apart columns box (row_at rows o) few here p (tells_one outs box o (both_true (tells rows outs box) _ e).0 c)
    none_lies outs (box ∷ boxes) o e c few p (inr more) = none_lies outs boxes o (both_true (tells rows outs box) _ e).1 c few p more

pub facts_are_rows : FactsAreRows
facts_are_rows [] facts = tt
facts_are_rows (column ∷ columns) facts = facts_are_rows columns facts

pub facts_lie : FactsLie
facts_lie tree columns facts all = row_lies tree columns facts all

pub boxes_met : BoxesAreMet
boxes_met tree columns rows members outs m c p = of_has tree columns rows members outs m c p

pub boxes_apart : BoxesAreApart
boxes_apart tree columns rows outs boxes o e c few p = none_lies tree columns rows outs boxes o e c few p

pub told_fit : ToldIsFit
told_fit tree column cell = (told_fits tree column cell, told_holds tree column cell)

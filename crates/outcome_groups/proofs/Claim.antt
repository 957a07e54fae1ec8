-- The groups of a part that is exact are told. It is a lemma as well as a law, for the crates above, since it speaks of
-- all runs and start trees.
use Rattle.std.proofs.Common.{◌≡◌, ℕ, zero, suc, ◌+◌, ◌<◌, ◌⊎◌, inl, inr, Bool, true, false, IsTrue, List, [], ◌∷◌, length, map}
use Rattle.std.proofs.Common.{Option, Some, refl, sym, ap, subst, arith, ◌∙◌}
use Rattle.std.specs.Prelude.{Contains, All, slice_get, option_map}
use Rattle.std.proofs.lemmas.Option.{slice_get_within, slice_get-map}
use Rattle.std.proofs.lemmas.List.Elements.{All-nil, All-cons, All-append}
use Rattle.feature_trees.specs.declared.value.Value.{Value}
use Rattle.feature_trees.specs.Tree.{at}
use Rattle.tree_clauses.specs.Literals.{CoversTree}
use Rattle.dpkg_scenarios.specs.declared.scenario.Scenario.{Scenario}
use Rattle.scenario_runs.specs.declared.replayed.Replayed.{Replayed}
use Rattle.scenario_outcomes.specs.declared.outcome.Outcome.{Outcome}
use Rattle.scenario_outcomes.specs.Outcomes.{CoversAt, CoversOnce, IsExact}
use Rattle.outcome_report.specs.declared.outcome_report.ReportEntry.{ReportEntry}
use Rattle.outcome_report.specs.OutcomeReport.{outcomes_of}
use Rattle.start_facts.specs.PlaceFacts.{Holds}
use Rattle.start_facts.specs.ClauseFacts.{facts_of}
use Rattle.start_facts.proofs.Sound.{facts_hold}
use Rattle.fact_boxes.specs.declared.cells.Column.{Column}
use Rattle.fact_boxes.specs.declared.cells.Cell.{Cell}
use Rattle.fact_boxes.specs.Cells.{is_anything}
use Rattle.fact_boxes.specs.Rows.{Row, row_at}
use Rattle.fact_boxes.specs.Boxes.{boxes_of}
use Rattle.fact_boxes.specs.Holds.{Fits, IsRow, LiesIn, LiesInSome}
use Rattle.fact_boxes.proofs.Holding.{told_holds, told_fits, everything_fits, all_left, all_right}
use Rattle.fact_boxes.proofs.Lying.{facts_are_rows, facts_lie, boxes_met, boxes_apart}
use Rattle.outcome_groups.specs.declared.ends.GroupEnd.{GroupEnd}
use Rattle.outcome_groups.specs.declared.pairs.Pair.{Pair}
use Rattle.outcome_groups.specs.declared.group.FactBox.{FactBox}
use Rattle.outcome_groups.specs.declared.group.Group.{Group}
use Rattle.outcome_groups.specs.Ends.{end_of}
use Rattle.outcome_groups.specs.Groups.{ends_of, different, members_from, others_from, pairs_from, decides, is_as}
use Rattle.outcome_groups.specs.Groups.{facts_unless, told_where, box_of, part_columns, rows_in, group_of}
use Rattle.outcome_groups.specs.Told.{Meets, MeetsSome, IsIn, IsTold, IsInOne}
use Rattle.outcome_groups.specs.Laws.{GroupsAreTold}
use Rattle.outcome_groups.proofs.Places.{in_or_out, member_in, member_out, all_differ, different_has, Stands, stands, alone}

nothing_more : (p : ℕ) → 0 + p ≡ p
nothing_more p = omega arith

some_end : (a b : GroupEnd) → Some a ≡ Some b → a ≡ b
some_end a b s = cc

-- ---- what is told of a row

module _ (tree : Value) (decide : ℕ → Bool) where
  cell_told : (b w : Bool) (column : Column) (cell : Cell) → Fits (at tree column.place) column.but cell
      → All (Holds tree) (facts_unless b w column cell)
  cell_told true w column cell fits = All-nil (Holds tree)
  cell_told false true column cell fits = told_holds tree column cell fits
  cell_told false false column cell fits = All-nil (Holds tree)

  row_told : (wanted : Bool) (k : ℕ) (columns : List Column) (row : Row) → LiesIn tree columns row
      → All (Holds tree) (told_where wanted decide k row columns)
  row_told wanted k columns [] lies = All-nil (Holds tree)
  row_told wanted k [] (cell ∷ row) lies = All-nil (Holds tree)
  row_told wanted k (column ∷ columns) (cell ∷ row) lies =
      All-append (Holds tree) (facts_unless (is_anything cell) (is_as wanted (decide k)) column cell) _
      (cell_told (is_anything cell) (is_as wanted (decide k)) column cell lies.0)
      (row_told wanted (suc k) columns row lies.1)

  told_fit : (b d : Bool) (column : Column) (cell : Cell) → is_anything cell ≡ b
      → All (Holds tree) (facts_unless b (is_as true d) column cell) → All (Holds tree) (facts_unless b (is_as false d) column cell)
      → Fits (at tree column.place) column.but cell
  told_fit true d column cell e first second = everything_fits (at tree column.place) column.but cell e
  told_fit false true column cell e first second = told_fits tree column cell first
  told_fit false false column cell e first second = told_fits tree column cell second

  told_lies : (k : ℕ) (columns : List Column) (row : Row) → All (Holds tree) (told_where true decide k row columns)
      → All (Holds tree) (told_where false decide k row columns) → LiesIn tree columns row
  told_lies k [] row first second = tt
  told_lies k (column ∷ columns) [] first second = tt
  told_lies k (column ∷ columns) (cell ∷ row) first second = (
    told_fit (is_anything cell) (decide k) column cell refl
        (all_left (Holds tree) (facts_unless (is_anything cell) (is_as true (decide k)) column cell) _ first)
        (all_left (Holds tree) (facts_unless (is_anything cell) (is_as false (decide k)) column cell) _ second),
    told_lies (suc k) columns row
        (all_right (Holds tree) (facts_unless (is_anything cell) (is_as true (decide k)) column cell) _ first)
        (all_right (Holds tree) (facts_unless (is_anything cell) (is_as false (decide k)) column cell) _ second),
  )

  -- ---- what is told of boxes

  record MeetsOne (boxes : List FactBox) : Type 0 where
    place : ℕ
    box : FactBox
    there : slice_get boxes place ≡ Some box
    meets : Meets tree box

  some_met : (columns : List Column) (boxes : List Row) → LiesInSome tree columns boxes → MeetsOne (map (box_of columns decide) boxes)
  some_met columns [] some = absurd some
  some_met columns (row ∷ boxes) (inl here) = record {
    place = 0;
    box = box_of columns decide row;
    there = refl;
    meets = record { deciding = row_told true 0 columns row here; others = row_told false 0 columns row here };
  }
  some_met columns (row ∷ boxes) (inr more) =
      let it = some_met columns boxes more in
      record { place = suc it.place; box = it.box; there = it.there; meets = it.meets }

  met_lies : (columns : List Column) (boxes : List Row) (place : ℕ) (box : FactBox)
      → slice_get (map (box_of columns decide) boxes) place ≡ Some box → Meets tree box → LiesInSome tree columns boxes
  met_lies columns [] place box e meets = cc
  met_lies columns (row ∷ boxes) zero box e meets = inl (told_lies 0 columns row mine.deciding mine.others)
    where
      some_is : (a b : FactBox) → Some a ≡ Some b → a ≡ b
      some_is a b s = cc

      mine : Meets tree (box_of columns decide row)
      mine = subst (Meets tree) (sym (some_is (box_of columns decide row) box e)) meets
  met_lies columns (row ∷ boxes) (suc place) box e meets = inr (met_lies columns boxes place box e meets)

-- ---- rows of outcomes

outcome_lies : (tree : Value) (columns : List Column) (entries : List ReportEntry) (place : ℕ) (o : Outcome)
    → slice_get (map (λ entry. entry.outcome) entries) place ≡ Some o → CoversTree o.clause tree
    → LiesIn tree columns (row_at (rows_in columns entries) place)
outcome_lies tree columns [] place o e covers = cc
outcome_lies tree columns (entry ∷ entries) zero o e covers =
    facts_lie tree columns (facts_of entry.outcome.clause)
    (facts_hold entry.outcome.clause tree (subst (λ (p : Outcome). CoversTree p.clause tree) (sym (some_is entry.outcome o e)) covers))
  where
    some_is : (a b : Outcome) → Some a ≡ Some b → a ≡ b
    some_is a b s = cc
outcome_lies tree columns (entry ∷ entries) (suc place) o e covers = outcome_lies tree columns entries place o e covers

none_is_row : (columns : List Column) → IsRow columns []
none_is_row [] = tt
none_is_row (column ∷ columns) = tt

are_rows : (columns : List Column) (entries : List ReportEntry) (place : ℕ) → IsRow columns (row_at (rows_in columns entries) place)
are_rows columns [] place = none_is_row columns
are_rows columns (entry ∷ entries) zero = facts_are_rows columns (facts_of entry.outcome.clause)
are_rows columns (entry ∷ entries) (suc place) = are_rows columns entries place

as_many : (scenario : Scenario) (entries : List ReportEntry) → length (ends_of scenario entries) ≡ length (map (λ (entry : ReportEntry). entry.outcome) entries)
as_many scenario [] = refl
as_many scenario (entry ∷ entries) = ap suc (as_many scenario entries)

-- ---- a group

module _ (run : Value → Option Replayed) (start : Value → Type 0) (scenario : Scenario) (entries : List ReportEntry)
    (columns : List Column) (pairs : List Pair) (end : GroupEnd)
    (exact : IsExact run start (map (λ (entry : ReportEntry). entry.outcome) entries)) where
  abbrev outcomes : List Outcome
  outcomes = map (λ (entry : ReportEntry). entry.outcome) entries

  abbrev ends : List GroupEnd
  ends = ends_of scenario entries

  abbrev rows : List Row
  rows = rows_in columns entries

  abbrev group : Group
  group = group_of ends pairs columns rows end

  lies : (tree : Value) (place : ℕ) → CoversAt outcomes place tree → LiesIn tree columns (row_at rows place)
  lies tree place it = outcome_lies tree columns entries place it.outcome it.at it.covers

  is_met : (tree : Value) → start tree → IsIn outcomes group tree → MeetsSome tree group
  is_met tree starts it =
      let one = some_met tree (decides rows pairs end) columns (boxes_of rows (members_from 0 end ends) (others_from 0 end ends))
      (boxes_met tree columns rows (members_from 0 end ends) (others_from 0 end ends) it.place it.member (lies tree it.place it.covers)) in
      record { place = one.place; box = one.box; at = one.there; meets = one.meets }

  covered : (tree : Value) → IsTrue group.exactly → MeetsSome tree group → CoversOnce outcomes tree → IsIn outcomes group tree
  covered tree e met it = step (in_or_out 0 end ends it.place (subst (λ (n : ℕ). it.place < n) (sym (as_many scenario entries)) within))
    where
      within : it.place < length outcomes
      within = slice_get_within outcomes it.place it.covers.outcome it.covers.at

      some : LiesInSome tree columns (boxes_of rows (members_from 0 end ends) (others_from 0 end ends))
      some = met_lies tree (decides rows pairs end) columns (boxes_of rows (members_from 0 end ends) (others_from 0 end ends)) met.place met.box met.at met.meets

      step : Contains (members_from 0 end ends) (0 + it.place) ⊎ Contains (others_from 0 end ends) (0 + it.place) → IsIn outcomes group tree
      step (inl c) = record {
        place = it.place;
        covers = it.covers;
        member = subst (λ (n : ℕ). Contains (members_from 0 end ends) n) (nothing_more it.place) c;
      }
      step (inr c) =
          absurd (boxes_apart tree columns rows (others_from 0 end ends) (boxes_of rows (members_from 0 end ends) (others_from 0 end ends)) it.place
          e (subst (λ (n : ℕ). Contains (others_from 0 end ends) n) (nothing_more it.place) c) (are_rows columns entries it.place) (lies tree it.place it.covers) some)

  group_told : IsTold start outcomes group
  group_told = record {
    met = is_met;
    exact = λ e tree starts. ((λ met. covered tree e met (exact.once tree starts)), is_met tree starts);
  }

-- ---- all groups

all_told : (start : Value → Type 0) (outcomes : List Outcome) (make : GroupEnd → Group) → ((end : GroupEnd) → IsTold start outcomes (make end))
    → (found : List GroupEnd) → All (IsTold start outcomes) (map make found)
all_told start outcomes make each [] = All-nil (IsTold start outcomes)
all_told start outcomes make each (end ∷ found) =
    All-cons (IsTold start outcomes) (make end) (map make found) (each end) (all_told start outcomes make each found)

record Ends (scenario : Scenario) (entries : List ReportEntry) (place : ℕ) : Type 0 where
  end : GroupEnd
  there : slice_get (ends_of scenario entries) place ≡ Some end

ends_at : (scenario : Scenario) (entries : List ReportEntry) (place : ℕ)
    → place < length (map (λ (entry : ReportEntry). entry.outcome) entries) → Ends scenario entries place
ends_at scenario [] place lt = absurd (omega (arith, lt))
ends_at scenario (entry ∷ entries) zero lt = record { end = end_of scenario entry; there = refl }
ends_at scenario (entry ∷ entries) (suc place) lt =
    let it = ends_at scenario entries place (omega (arith, lt)) in record { end = it.end; there = it.there }

record MadeAt (make : GroupEnd → Group) (found : List GroupEnd) (place : ℕ) (group : Group) : Type 0 where
  end : GroupEnd
  there : slice_get found place ≡ Some end
  is : group ≡ make end

made_at : (make : GroupEnd → Group) (found : List GroupEnd) (place : ℕ) (group : Group) → slice_get (map make found) place ≡ Some group
    → MadeAt make found place group
made_at make [] place group e = cc
made_at make (end ∷ found) zero group e = record { end = end; there = refl; is = sym (some_is (make end) group e) }
  where
    some_is : (a b : Group) → Some a ≡ Some b → a ≡ b
    some_is a b s = cc
made_at make (end ∷ found) (suc place) group e = let it = made_at make found place group e in record { end = it.end; there = it.there; is = it.is }

module _ (scenario : Scenario) (entries : List ReportEntry) (columns : List Column) (rows : List Row) (pairs : List Pair) where
  abbrev all_ends : List GroupEnd
  all_ends = ends_of scenario entries

  abbrev make : GroupEnd → Group
  make = group_of all_ends pairs columns rows

  in_one : (place : ℕ) → place < length (map (λ (entry : ReportEntry). entry.outcome) entries) → IsInOne (map make (different [] all_ends)) place
  in_one place lt = record {
    at = where_it_is.place;
    group = make mine.end;
    is = slice_get-map make (different [] all_ends) where_it_is.place ∙ ap (option_map make) where_it_is.there;
    member = subst (λ (n : ℕ). Contains (members_from 0 mine.end all_ends) n) (nothing_more place) (member_in 0 mine.end all_ends place mine.there);
    alone = λ other another e c. same other another (made_at make (different [] all_ends) other another e) c;
  }
    where
      mine : Ends scenario entries place
      mine = ends_at scenario entries place lt

      where_it_is : Stands mine.end (different [] all_ends)
      where_it_is = stands mine.end (different [] all_ends) (different_has [] all_ends place mine.end mine.there)

      same : (other : ℕ) (another : Group) → MadeAt make (different [] all_ends) other another → Contains another.members place → other ≡ where_it_is.place
      same other another it c =
          let out = member_out 0 it.end all_ends place (subst (λ (g : Group). Contains g.members place) it.is c) in
          let here : slice_get all_ends place ≡ Some it.end = ap (slice_get all_ends) (out.is ∙ nothing_more out.place) ∙ out.there in
          let ends_same : it.end ≡ mine.end = some_end it.end mine.end (sym here ∙ mine.there) in
          alone mine.end (different [] all_ends) other where_it_is.place (all_differ all_ends)
          (subst (λ (e : GroupEnd). slice_get (different [] all_ends) other ≡ Some e) ends_same it.there) where_it_is.there

pub groups_are_told : (run : Value → Option Replayed) (start : Value → Type 0) → GroupsAreTold run start
groups_are_told run start part exact =
    let columns = part_columns part.entries in
    let pairs = pairs_from 0 part.scenario part.entries in
    record {
      told = all_told start (outcomes_of part) (group_of (ends_of part.scenario part.entries) pairs columns (rows_in columns part.entries))
          (λ end. group_told run start part.scenario part.entries columns pairs end exact) (different [] (ends_of part.scenario part.entries));
      once = in_one part.scenario part.entries columns (rows_in columns part.entries) pairs;
    }

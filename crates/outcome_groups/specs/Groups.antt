-- The groups of a part's outcomes, and what is told of each.
use Rattle.std.specs.Prelude.{ℕ, suc, Bool, true, false, not, ◌&&◌, ◌==◌, ◌-◌, List, [], ◌∷◌, ◌++◌, map, take}
use Rattle.std.specs.Prelude.{if◌then◌else◌}
use Rattle.std.specs.List.{list_any, list_all}
use Rattle.script_names.specs.declared.mark.Mark.{Mark}
use Rattle.dpkg_scenarios.specs.declared.scenario.Scenario.{Scenario}
use Rattle.outcome_report.specs.declared.outcome_report.ReportEntry.{ReportEntry}
use Rattle.outcome_report.specs.declared.outcome_report.ReportPart.{ReportPart}
use Rattle.start_facts.specs.declared.fact.PlaceFact.{PlaceFact}
use Rattle.start_facts.specs.ClauseFacts.{facts_of}
use Rattle.fact_boxes.specs.declared.cells.Column.{Column}
use Rattle.fact_boxes.specs.declared.cells.Cell.{Cell}
use Rattle.outcome_groups.specs.declared.pairs.Pair.{Pair}
use Rattle.outcome_groups.specs.declared.ends.GroupEnd.{GroupEnd}
use Rattle.outcome_groups.specs.declared.group.FactBox.{FactBox}
use Rattle.outcome_groups.specs.declared.group.Group.{Group}
use Rattle.outcome_groups.specs.Ends.{end_of, up_to_end, same_end, same_site}
use Rattle.fact_boxes.specs.Cells.{is_anything, told, within}
use Rattle.fact_boxes.specs.Rows.{Row, columns_of, row_of, row_at, cell_at}
use Rattle.fact_boxes.specs.Boxes.{boxes_of, tells}

-- ---- which outcomes end alike

-- how the outcomes of entries end
abbrev pub ends_of : Scenario → List ReportEntry → List GroupEnd
ends_of scenario entries = map (end_of scenario) entries

-- one end more, unless it is there
abbrev pub with_end : List GroupEnd → GroupEnd → List GroupEnd
with_end found end = if list_any (same_end end) found then found else found ++ end ∷ []

-- the different ends, in the order in which they first come
abbrev pub different : List GroupEnd → List GroupEnd → List GroupEnd
different found [] = found
different found (end ∷ ends) = different (with_end found end) ends

-- a place, where that is so, before others
abbrev pub place_if : Bool → ℕ → List ℕ → List ℕ
place_if true k places = k ∷ places
place_if false k places = places

-- the places of the outcomes that end so; the first stands at k
abbrev pub members_from : ℕ → GroupEnd → List GroupEnd → List ℕ
members_from k end [] = []
members_from k end (other ∷ ends) = place_if (same_end end other) k (members_from (suc k) end ends)

-- the places of those that do not
abbrev pub others_from : ℕ → GroupEnd → List GroupEnd → List ℕ
others_from k end [] = []
others_from k end (other ∷ ends) = place_if (not (same_end end other)) k (others_from (suc k) end ends)

-- ---- which facts decide

-- the same mark
abbrev pub same_mark : Mark → Mark → Bool
same_mark a b = same_site a.site b.site && (a.row == b.row)

-- a trace begins with these marks
abbrev pub begins_with : List Mark → List Mark → Bool
begins_with [] trace = true
begins_with (mark ∷ marks) [] = false
begins_with (mark ∷ marks) (other ∷ trace) = same_mark mark other && begins_with marks trace

-- the marks before the one at which an entry's outcome came to its end
abbrev pub marks_before : Scenario → ReportEntry → List Mark
marks_before scenario entry =
    let o = entry.outcome in take (up_to_end scenario o.ending entry.replayed.calls o.trace - 1) o.trace

-- another outcome ends otherwise, but did the same before
abbrev pub parts : Scenario → ReportEntry → ReportEntry → Bool
parts scenario entry other =
    not (same_end (end_of scenario entry) (end_of scenario other))
    && begins_with (marks_before scenario entry) other.outcome.trace

-- the pair of an outcome and another one, by their places, where that is so
abbrev pub pair_if : Bool → GroupEnd → ℕ → ℕ → List Pair
pair_if true end a b = record { end = end; member = a; other = b } ∷ []
pair_if false end a b = []

-- the two pairs of an entry at k and the one behind it
abbrev pub pairs_with : Scenario → ℕ → ReportEntry → List ReportEntry → List Pair
pairs_with scenario k entry [] = []
pairs_with scenario k entry (next ∷ entries) =
    pair_if (parts scenario entry next) (end_of scenario entry) k (suc k)
    ++ pair_if (parts scenario next entry) (end_of scenario next) (suc k) k

-- neighbours of which the other ends otherwise, but did the same before; the first stands at k
abbrev pub pairs_from : ℕ → Scenario → List ReportEntry → List Pair
pairs_from k scenario [] = []
pairs_from k scenario (entry ∷ entries) = pairs_with scenario k entry entries ++ pairs_from (suc k) scenario entries

-- the row of the other outcome has more in a column
abbrev pub has_more : List Row → ℕ → Pair → Bool
has_more rows k p = not (within (cell_at (row_at rows p.other) k) (cell_at (row_at rows p.member) k))

-- the first outcome of a pair ends so
unfoldable pub ends_so : GroupEnd → Pair → Bool
ends_so end p = same_end end p.end

-- a column decides for the outcomes that end so: by it one of them is told from a neighbour that did the same before
abbrev pub decides : List Row → List Pair → GroupEnd → ℕ → Bool
decides rows pairs end k = list_any (λ p. same_end end p.end && has_more rows k p) pairs

-- ---- what is told

-- the same as wanted
abbrev pub is_as : Bool → Bool → Bool
is_as true b = b
is_as false b = not b

-- facts, where that is so
abbrev pub facts_if : Bool → List PlaceFact → List PlaceFact
facts_if true facts = facts
facts_if false facts = []

-- the facts of a cell in a column that decides, or in one that does not, unless everything is left
abbrev pub facts_unless : Bool → Bool → Column → Cell → List PlaceFact
facts_unless true wanted column cell = []
facts_unless false wanted column cell = facts_if wanted (told column cell)

-- the facts of a row in the columns, the first of which is column k, that decide, or in those that do not
abbrev pub told_where : Bool → (ℕ → Bool) → ℕ → Row → List Column → List PlaceFact
told_where wanted decide k [] columns = []
told_where wanted decide k (cell ∷ row) [] = []
told_where wanted decide k (cell ∷ row) (column ∷ columns) =
    facts_unless (is_anything cell) (is_as wanted (decide k)) column cell
    ++ told_where wanted decide (suc k) row columns

-- the facts of a row
abbrev pub box_of : List Column → (ℕ → Bool) → Row → FactBox
box_of columns decide row = record {
  deciding = told_where true decide 0 row columns;
  others = told_where false decide 0 row columns;
}

-- ---- groups

-- the columns of a part
abbrev pub part_columns : List ReportEntry → List Column
part_columns entries = columns_of [] (map (λ entry. facts_of entry.outcome.clause) entries)

-- a row for each of its outcomes
abbrev pub rows_in : List Column → List ReportEntry → List Row
rows_in columns entries = map (λ entry. row_of columns (facts_of entry.outcome.clause)) entries

-- the group of the outcomes that end so
abbrev pub group_of : List GroupEnd → List Pair → List Column → List Row → GroupEnd → Group
group_of ends pairs columns rows end =
    let outs : List ℕ = others_from 0 end ends in
    let boxes : List Row = boxes_of rows (members_from 0 end ends) outs in
    record {
      end = end;
      members = members_from 0 end ends;
      boxes = map (box_of columns (decides rows pairs end)) boxes;
      exactly = list_all (tells rows outs) boxes;
    }

-- the groups of a part's outcomes, in the order of their first ones
abbrev pub groups_of : ReportPart → List Group
groups_of part =
    let ends : List GroupEnd = ends_of part.scenario part.entries in
    let pairs : List Pair = pairs_from 0 part.scenario part.entries in
    let columns : List Column = part_columns part.entries in
    map (group_of ends pairs columns (rows_in columns part.entries)) (different [] ends)

-- What is told of a row where no column is left, and the groups from what they are made of.
use Rattle.std.proofs.Common.{◌≡◌, ℕ, ◌≤◌, Bool, List, [], ◌∷◌, ◌++◌, length, drop, map, refl, sym, ap, ◌∙◌}
use Rattle.std.proofs.Math.ListN.{drop_of_length-le}
use Rattle.std.proofs.lemmas.List.{append-nil}
use Rattle.start_facts.specs.declared.fact.PlaceFact.{PlaceFact}
use Rattle.fact_boxes.specs.declared.cells.Column.{Column}
use Rattle.fact_boxes.specs.Rows.{Row}
use Rattle.outcome_report.specs.declared.outcome_report.ReportEntry.{ReportEntry}
use Rattle.outcome_report.specs.declared.outcome_report.ReportPart.{ReportPart}
use Rattle.outcome_groups.specs.declared.ends.GroupEnd.{GroupEnd}
use Rattle.outcome_groups.specs.declared.pairs.Pair.{Pair}
use Rattle.outcome_groups.specs.declared.group.Group.{Group}
use Rattle.outcome_groups.specs.Groups.{told_where, ends_of, different, pairs_from, part_columns, rows_in, group_of}
use Rattle.outcome_groups.specs.Groups.{groups_of}

nothing_told : (wanted : Bool) (decide : ℕ → Bool) (k : ℕ) (row : Row) → told_where wanted decide k row [] ≡ []
nothing_told wanted decide k [] = refl
nothing_told wanted decide k (cell ∷ row) = refl

pub all_told : (wanted : Bool) (decide : ℕ → Bool) (k : ℕ) (facts : List PlaceFact) (left row : Row) (columns : List Column)
    → length columns ≤ k → facts ++ told_where wanted decide k left (drop k columns) ≡ told_where wanted decide 0 row columns
    → facts ≡ told_where wanted decide 0 row columns
all_told wanted decide k facts left row columns le e =
    sym (append-nil facts)
    ∙ ap (λ rest. facts ++ rest) (sym (nothing_told wanted decide k left) ∙ ap (told_where wanted decide k left) (sym (drop_of_length-le columns le)))
    ∙ e

-- the groups, from what they are made of
pub groups_made : (part : ReportPart) (entries : List ReportEntry) (ends one two : List GroupEnd) (pairs lent : List Pair)
    (columns first second : List Column) (rows seen : List Row) (found shown : List GroupEnd) (groups : List Group)
    → entries ≡ part.entries → ends ≡ ends_of part.scenario entries → pairs ≡ pairs_from 0 part.scenario entries
    → columns ≡ part_columns entries → first ≡ columns → rows ≡ rows_in first entries → one ≡ ends → found ≡ different [] one
    → two ≡ ends → lent ≡ pairs → second ≡ columns → seen ≡ rows → shown ≡ found
    → groups ≡ map (group_of two lent second seen) shown → groups ≡ groups_of part
groups_made part entries ends one two pairs lent columns first second rows seen found shown groups a b c d e f g h i j k l m n =
    n ∙ (λ z. map (group_of (is_two z) (is_lent z) (is_second z) (is_seen z)) (is_shown z))
  where
    is_ends : ends ≡ ends_of part.scenario part.entries
    is_ends = b ∙ ap (ends_of part.scenario) a

    is_two : two ≡ ends_of part.scenario part.entries
    is_two = i ∙ is_ends

    is_lent : lent ≡ pairs_from 0 part.scenario part.entries
    is_lent = j ∙ c ∙ ap (pairs_from 0 part.scenario) a

    is_columns : columns ≡ part_columns part.entries
    is_columns = d ∙ ap part_columns a

    is_second : second ≡ part_columns part.entries
    is_second = k ∙ is_columns

    is_seen : seen ≡ rows_in (part_columns part.entries) part.entries
    is_seen = l ∙ f ∙ ap (rows_in first) a ∙ ap (λ (cs : List Column). rows_in cs part.entries) (e ∙ is_columns)

    is_shown : shown ≡ different [] (ends_of part.scenario part.entries)
    is_shown = m ∙ h ∙ ap (different []) (g ∙ is_ends)

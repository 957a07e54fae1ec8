-- Whether a column decides for outcomes that end so is seen of the pairs alone of which the first ends so.
use Rattle.std.proofs.Common.{◌≡◌, ℕ, Bool, true, false, List, [], ◌∷◌, map, refl, sym, ap, ◌∙◌}
use Rattle.std.specs.Prelude.{◌&&◌, ◌||◌, if◌then◌else◌}
use Rattle.std.specs.List.{filter}
use Rattle.fact_boxes.specs.declared.cells.Column.{Column}
use Rattle.fact_boxes.specs.Rows.{Row}
use Rattle.outcome_groups.specs.declared.ends.GroupEnd.{GroupEnd}
use Rattle.outcome_groups.specs.declared.pairs.Pair.{Pair}
use Rattle.outcome_groups.specs.declared.group.FactBox.{FactBox}
use Rattle.outcome_groups.specs.Ends.{same_end}
use Rattle.outcome_groups.specs.Groups.{box_of, decides, ends_so, has_more}

ends_are : (end : GroupEnd) (p : Pair) → ends_so end p ≡ same_end end p.end
unfolding ends_so
ends_are end p = refl

module _ (rows : List Row) (end : GroupEnd) where
  own_step : (k : ℕ) (p : Pair) (own pairs : List Pair) → decides rows own end k ≡ decides rows pairs end k
      → (b : Bool) → ends_so end p ≡ b → decides rows (if b then p ∷ own else own) end k ≡ decides rows (p ∷ pairs) end k
  own_step k p own pairs same true e = ap (λ (r : Bool). (same_end end p.end && has_more rows k p) || r) same
  own_step k p own pairs same false e =
      same ∙ ap (λ (c : Bool). (c && has_more rows k p) || decides rows pairs end k) (sym e ∙ ends_are end p)

  own_decides : (k : ℕ) (pairs : List Pair) → decides rows (filter (ends_so end) pairs) end k ≡ decides rows pairs end k
  own_decides k [] = refl
  own_decides k (p ∷ pairs) =
      own_step k p (filter (ends_so end) pairs) pairs (own_decides k pairs) (ends_so end p) refl

  own_decide : (pairs : List Pair) → decides rows (filter (ends_so end) pairs) end ≡ decides rows pairs end
  own_decide pairs = λ z k. own_decides k pairs z

  pub boxes_own : (columns : List Column) (pairs own lent : List Pair) (boxes : List Row) (told : List FactBox)
      → own ≡ filter (ends_so end) pairs → lent ≡ own → told ≡ map (box_of columns (decides rows lent end)) boxes
      → told ≡ map (box_of columns (decides rows pairs end)) boxes
  boxes_own columns pairs own lent boxes told is same e =
      e ∙ ap (λ (ps : List Pair). map (box_of columns (decides rows ps end)) boxes) (same ∙ is)
      ∙ ap (λ (d : ℕ → Bool). map (box_of columns d) boxes) (own_decide pairs)

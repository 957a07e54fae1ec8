use Rattle.std.proofs.Common.{◌++◌, ◌∷◌, length, sym, ap, ◌∙◌, arith}
use Rattle.case_paths.specs.Items.{path_items, ended_count}
use Rattle.case_paths.proofs.Orders.{nil_right}
use Rattle.case_paths.proofs.ItemStates.{paths_push, ended_within}
use Rattle.case_paths.proofs.items.paths_of.Goals as goal

pub items-preserved : goal.items-preserved
items-preserved g c = record {
  ended = (
      let is = c.in-Some-Ended.ensures ∙ ap (λ y. y ∷ c.pop.new.self) c.in-Some-Ended.field-0-is in
      let e = ap ended_count is in let k = ap length is in
      let h = c.items.invariant.ended in omega (arith, e, k, h));
  same =
      ap (λ l. path_items l ++ c.pop.new.self) c.in_ok-add-in-Some-Ended.ensures.ok
      ∙ sym (paths_push c.items.paths c.in-Some-Ended.path c.pop.new.self)
      ∙ ap (λ l. path_items c.items.paths ++ l) (sym (c.in-Some-Ended.ensures ∙ ap (λ y. y ∷ c.pop.new.self) c.in-Some-Ended.field-0-is)) ∙ c.items.invariant.same;
}

pub unreachable-requires : goal.unreachable-requires
unreachable-requires g c =
    let is = c.in-Some-Waiting.ensures ∙ ap (λ y. y ∷ c.pop.new.self) c.in-Some-Waiting.field-0-is in
    let e = ap ended_count is in let k = ap length is in
    let h = c.items.invariant.ended in let w = ended_within c.pop.new.self in omega (arith, e, k, h, w)

pub returns-in-None : goal.returns-in-None
returns-in-None g c =
    sym (sym (nil_right (path_items c.items.paths)) ∙ ap (λ l. path_items c.items.paths ++ l) (sym c.in-None.ensures) ∙ c.items.invariant.same)

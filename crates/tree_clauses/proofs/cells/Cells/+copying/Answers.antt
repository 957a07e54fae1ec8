use Rattle.std.proofs.Common.{List, map, subst, sym, ap, ◌∙◌, arith, Bor}
use Rattle.std.proofs.lemmas.List.{map_push}
use Rattle.tree_clauses.specs.declared.cell.Edit.{Edit}
use Rattle.tree_clauses.specs.Cells.{edited_along, AreAllBelow}
use Rattle.tree_clauses.proofs.CellEntries.{along_push, all_below_pop}
use Rattle.tree_clauses.proofs.cells.Cells.+copying.Goals as goal

pub copy_entries-with_edits-requires : goal.copy_entries-with_edits-requires
copy_entries-with_edits-requires t c =
    let old = ap (map (λ (e : Bor (List Edit)). e.now)) c.in-Some.ensures.items ∙ map_push (λ (e : Bor (List Edit)). e.now) c.pop.new.self.items c.in-Some.edits in
    let below = subst (AreAllBelow c.args.at) old c.loop-edits.invariant.below in
    (omega (arith, c.decreases), (all_below_pop c.args.at (map (λ (e : Bor (List Edit)). e.now) c.pop.new.self.items) c.in-Some.edits.now below).1)

pub copy_entries-loop-edits-preserved : goal.copy_entries-loop-edits-preserved
copy_entries-loop-edits-preserved t c =
    let values = c.args.self.now in
    let left = map (λ (e : Bor (List Edit)). e.now) c.pop.new.self.items in
    let edits = c.in-Some.edits.now in
    let old = ap (map (λ (e : Bor (List Edit)). e.now)) c.in-Some.ensures.items ∙ map_push (λ (e : Bor (List Edit)). e.now) c.pop.new.self.items c.in-Some.edits in
    let below = subst (AreAllBelow c.args.at) old c.loop-edits.invariant.below in
    record {
      below = (all_below_pop c.args.at left edits below).0;
      leads =
          ap (edited_along values left) c.in_ok-entries-2.ensures
          ∙ sym (along_push values left edits c.loop-edits.entries)
          ∙ ap (λ chain. edited_along values chain c.loop-edits.entries) (sym old)
          ∙ c.loop-edits.invariant.leads;
    }

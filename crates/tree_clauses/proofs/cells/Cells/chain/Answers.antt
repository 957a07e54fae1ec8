use Rattle.std.proofs.Common.{List, map, subst, sym, ap, ◌∙◌, arith, Bor}
use Rattle.std.proofs.lemmas.List.{map_push}
use Rattle.feature_trees.specs.Tree.{entries_of}
use Rattle.tree_clauses.specs.declared.cell.Edit.{Edit}
use Rattle.tree_clauses.specs.declared.cell.Source.TheVariants as source
use Rattle.tree_clauses.specs.Cells.{value_at, edited_along, AreAllBelow, IsSource}
use Rattle.tree_clauses.proofs.CellEntries.{along_push, below_up, all_below_push}
use Rattle.tree_clauses.proofs.cells.Cells.chain.Goals as goal

pub loop-edits-preserved : goal.loop-edits-preserved
loop-edits-preserved c =
    let values = c.args.self.now in
    let at = c.args.at in
    let here = c.loop-edits.here in
    let from = c.in-Edits.from in
    let more = c.in-Edits.more in
    let inv = c.loop-edits.invariant in
    let made = c.in_ok-entries.ensures in
    let edits : IsSource values here (source.Edits from more) = subst (IsSource values here) c.in-Edits.is made in
    let now_of : Bor (List Edit) → List Edit = λ e. e.now in
    let grown = ap (map now_of) c.in_ok-push-in-Edits.ensures.items ∙ map_push now_of c.loop-edits.edits.items more in
    record {
      down = (let lt = edits.0 in let le = inv.down in omega arith);
      below = subst (AreAllBelow at) (sym grown) (all_below_push at (map now_of c.loop-edits.edits.items) more.now inv.below (below_up here at more.now inv.down edits.1));
      leads =
          ap (λ chain. edited_along values chain (entries_of (value_at values from))) grown
          ∙ along_push values (map now_of c.loop-edits.edits.items) more.now (entries_of (value_at values from))
          ∙ ap (edited_along values (map now_of c.loop-edits.edits.items)) (sym edits.2)
          ∙ inv.leads;
    }

use Rattle.std.proofs.Common.{length, map, subst, sym, refl, ◌∙◌}
use Rattle.tree_clauses.specs.Cells.{edited, AreBelow, IsEdit}
use Rattle.tree_clauses.specs.KnownValues.{known_in}
use Rattle.tree_clauses.specs.MadeValues.{entry_value, replaced}
use Rattle.tree_clauses.proofs.CellEntries.{below_push}
use Rattle.tree_clauses.proofs.Decided.{none_left}
use Rattle.tree_clauses.proofs.MadeEdits.{edits_go, names_go}
use Rattle.tree_clauses.proofs.making.edits.Goals as goal

pub returns-in-empty-clause-edits : goal.returns-in-empty-clause-edits
returns-in-empty-clause-edits c = λ es.
    none_left (known_in c.args.values.now) c.args.y.0 c.args.names.now c.loop-f.f-index c.loop-f.left.now (edited c.args.values.now.cells es c.loop-f.edits) c.loop-f-test.true c.in-empty.len_below
    ∙ c.loop-f.invariant.same es

pub loop-f-preserved : goal.loop-f-preserved
loop-f-preserved c =
    let cells = c.args.values.now.cells in
    let known = known_in c.args.values.now in
    let more = c.in-Some.edit in
    let made = subst (IsEdit cells _ (entry_value known c.args.y.0 _ c.literal-item.result)) c.in-Some.is c.in_ok-edit-in-len1-up.ensures in
    record {
      below = subst (AreBelow (length cells)) (sym c.in_ok-add-in-Some.ensures.ok) (below_push (length cells) c.loop-f.edits more c.loop-f.invariant.below made.2);
      named = names_go c.args.names.now c.loop-f.f-index _ c.loop-f.edits c.add.new.self more c.loop-f-test.true made.1 c.in_ok-add-in-Some.ensures.ok c.loop-f.invariant.named;
      same = λ es. edits_go cells known c.args.y.0 c.args.names.now c.loop-f.f-index _ c.loop-f.left.now _ c.literal-item.result c.loop-f.edits more c.add.new.self
          (λ all. replaced known c.args.y.0 (map (λ f. f.now) c.args.names.now) c.args.literals.now all)
          c.loop-f-test.true refl c.in-len1-up.len_at_least c.literal-item.is made c.in_ok-add-in-Some.ensures.ok c.loop-f.invariant.same es;
    }

use Rattle.std.proofs.Common.{Err, sym, subst, arith}
use Rattle.tree_predictions.specs.NamedTrees.{trees_of, IsAnswer}
use Rattle.tree_predictions.proofs.Fronts.{shorter}
use Rattle.tree_predictions.proofs.Reading.{goes_on, fails, no_start}
use Rattle.tree_predictions.proofs.TextLines.{some_left}
use Rattle.tree_predictions.proofs.read.read_trees.Goals as goal

pub returns-then-before-gt0-clause-reads : goal.returns-then-before-gt0-clause-reads
returns-then-before-gt0-clause-reads c =
    subst (λ fault. IsAnswer (trees_of c.args.text.now) (Err fault)) (sym c.fault.ensures)
    (no_start c.args.text.now c.cut_block-before.result c.cut_block-before.ensures c.if-before-gt0.true)

pub returns-in-Err-clause-reads : goal.returns-in-Err-clause-reads
returns-in-Err-clause-reads c =
    let l = c.loop-left in
    fails l.left.now c.cut_line.result.0.now c.cut_line.result.1.now c.cut_block-block.result l.number l.trees (trees_of c.args.text.now)
    (some_left l.left.now _ c.is_empty.ensures c.loop-left-test.true) c.cut_line.ensures c.cut_block-block.ensures l.invariant.1 l.invariant.2
    c.in-Err.fault c.in-Err.ensures.adds

pub loop-left-smaller : goal.loop-left-smaller
loop-left-smaller c =
    let l = c.loop-left in
    let short = shorter l.left.now c.cut_line.result.0.now c.cut_line.result.1.now (some_left l.left.now _ c.is_empty.ensures c.loop-left-test.true) c.cut_line.ensures in
    let few = c.cut_block-block.ensures.few in
    omega (arith, short, few)

pub loop-left-preserved : goal.loop-left-preserved
loop-left-preserved c =
    let l = c.loop-left in
    let some = some_left l.left.now _ c.is_empty.ensures c.loop-left-test.true in
    let short = shorter l.left.now c.cut_line.result.0.now c.cut_line.result.1.now some c.cut_line.ensures in
    let few = c.cut_block-block.ensures.few in
    let so_far = l.invariant.0 in (
      omega (arith, short, few, so_far),
      c.cut_block-block.ensures.next,
      goes_on l.left.now c.cut_line.result.0.now c.cut_line.result.1.now c.cut_block-block.result l.number l.trees (trees_of c.args.text.now)
          some c.cut_line.ensures c.cut_block-block.ensures l.invariant.1 l.invariant.2
          c.in-Ok.trees c.in-Ok.ensures.adds,
      c.in-Ok.ensures.trees,
    )

use Rattle.std.proofs.Common.{ap, ◌+◌}
use Rattle.tree_clauses.specs.Solved.{IsSolved}
use Rattle.tree_predictions.proofs.Firsts.{lent, lent_at, lent_within, one_more}
use Rattle.tree_predictions.proofs.predictions.first_unsolved.Goals as goal

pub loop-clause-preserved : goal.loop-clause-preserved
loop-clause-preserved c =
    let i = c.loop-clause.clause-index in
    let clauses = c.args.clauses.now in
    let lt = c.loop-clause-test.true in (
      ap (λ n. n + 1) c.loop-clause.invariant.0,
      one_more IsSolved (lent clauses) i c.clause-item.result.now (lent_within clauses i lt) (lent_at clauses i c.clause-item.result lt c.clause-item.is)
          (c.in_ok-solved.ensures.0 c.if-not-solved.false)
          c.loop-clause.invariant.1,
    )

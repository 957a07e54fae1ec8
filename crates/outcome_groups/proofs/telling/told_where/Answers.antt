use Rattle.std.proofs.Common.{arith}
use Rattle.outcome_groups.specs.Groups.{decides}
use Rattle.outcome_groups.proofs.Made.{all_told}
use Rattle.outcome_groups.proofs.telling.told_where.Goals as goal

pub returns : goal.returns
returns c =
    all_told c.args.wanted (decides c.args.rows.now c.args.pairs.now c.args.end.now) c.loop-k.k c.loop-k.facts c.loop-k.left.now c.args.row.now
    c.args.columns.now (omega (arith, c.loop-k-test.false)) c.loop-k.invariant

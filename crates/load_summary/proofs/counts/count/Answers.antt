use Rattle.std.proofs.Common.{arith}
use Rattle.load_summary.specs.Counts.{ends_in}
use Rattle.load_summary.proofs.Counting.{counted_below}
use Rattle.load_summary.proofs.counts.count.Goals as goal

pub one_more-found-requires : goal.one_more-found-requires
one_more-found-requires c =
    let below =
    counted_below (ends_in c.args.way) c.args.endings.now c.loop-ending.ending-index c.loop-ending.found c.loop-ending.invariant in
    omega (arith, below)

use Rattle.std.proofs.Common.{arith}
use Rattle.explanation.specs.Counting.{ends_so}
use Rattle.explanation.proofs.Counted.{counted_below}
use Rattle.explanation.proofs.counting.count_so.Goals as goal

pub one_more-found-requires : goal.one_more-found-requires
one_more-found-requires c =
    let below =
    counted_below (ends_so c.args.verdict) c.args.entries.now c.loop-entry.entry-index c.loop-entry.found c.loop-entry.invariant in
    omega (arith, below)

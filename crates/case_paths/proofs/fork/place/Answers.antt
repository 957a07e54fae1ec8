use Rattle.std.proofs.Common.{arith}
use Rattle.case_paths.proofs.Forking.{none_more, not_reached}
use Rattle.case_paths.proofs.fork.place.Goals as goal

pub loop-at-init : goal.loop-at-init
loop-at-init c = λ k lt o e. omega (arith, lt)

pub loop-at-preserved : goal.loop-at-preserved
loop-at-preserved c = none_more c.args.cases.now c.args.row c.loop-at.at c.index-cases-at.result c.loop-at-test.true c.index-cases-at.is c.if-case-row.false c.loop-at.invariant

pub unreachable-requires : goal.unreachable-requires
unreachable-requires c = not_reached c.args.cases.now c.args.row c.loop-at.at c.requires c.loop-at.invariant c.loop-at-test.false

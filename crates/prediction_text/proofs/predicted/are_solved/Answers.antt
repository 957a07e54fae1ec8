use Rattle.std.proofs.Common.{◌≤◌, arith}
use Rattle.prediction_text.proofs.Solved.{one_more, not_here, all_solved}
use Rattle.prediction_text.proofs.predicted.are_solved.Goals as goal

pub returns-then-not-solved : goal.returns-then-not-solved
returns-then-not-solved c =
    not_here c.args.parts.now c.loop-part.part-index c.part-item.result c.in_ok-solved.solved c.loop-part-test.true c.part-item.is
    c.in_ok-solved.ensures.1 c.if-not-solved.true

pub loop-part-preserved : goal.loop-part-preserved
loop-part-preserved c =
    one_more c.args.parts.now c.loop-part.part-index c.part-item.result c.part-item.is c.loop-part-test.true
    (c.in_ok-solved.ensures.0 c.if-not-solved.false) c.loop-part.invariant

pub returns : goal.returns
returns c =
    let out = c.loop-part-test.false in
    all_solved c.args.parts.now c.loop-part.part-index (omega (arith, out)) c.loop-part.invariant

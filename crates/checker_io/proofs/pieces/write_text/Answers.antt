use Rattle.std.proofs.Common.{◌∙◌}
use Rattle.checker_io.proofs.Sinks.{goes_on, stops, smaller, within}
use Rattle.checker_io.proofs.pieces.write_text.Goals as goal

pub returns-in-Err-clause-takes : goal.returns-in-Err-clause-takes
returns-in-Err-clause-takes g c =
    stops _ _ _ c.loop-done.done 65536 c.args.text.now c.next_piece-piece.result.now c.in-Err.fault c.next_piece-piece.ensures c.loop-done.invariant.1 c.in-Err.ensures.takes

pub loop-done-smaller : goal.loop-done-smaller
loop-done-smaller g c = smaller c.loop-done.done c.args.text.now c.next_piece-piece.result.now c.next_piece-piece.ensures c.loop-done-test.true

pub loop-done-preserved : goal.loop-done-preserved
loop-done-preserved g c = (
  within c.loop-done.done 65536 c.args.text.now c.next_piece-piece.result.now c.next_piece-piece.ensures c.loop-done.invariant.0,
  goes_on _ _ _ c.loop-done.done 65536 c.args.text.now c.next_piece-piece.result.now c.next_piece-piece.ensures c.loop-done.invariant.1 c.in-Ok.ensures.takes,
  c.in-Ok.ensures.cause ∙ c.loop-done.invariant.2,
)

use Rattle.checker_io.proofs.Sinks.{grows_within, grows}
use Rattle.checker_io.proofs.out_sink.write_piece.Goals as goal

pub loop-done-preserved : goal.loop-done-preserved
loop-done-preserved g c = (
  grows_within c.loop-done.done c.in-Ok.count c.args.piece.now c.loop-done.invariant.0 c.in-Ok.ensures.bound,
  grows _ _ _ c.loop-done.done c.in-Ok.count c.args.piece.now c.loop-done.invariant.1 c.in-Ok.ensures.bytes,
)

use Rattle.std.proofs.Common.{◌≤◌, ◌-◌, length, take}
use Rattle.checker_io.specs.Sink.{Took}
use Rattle.checker_io.proofs.out_sink.write_piece.Given as goal

abbrev pub invariant-loop-done : goal.invariant-loop-done
invariant-loop-done g l = (l.done ≤ length l.piece) × Took (g.W.Write.contents l.initial.inner) (g.W.Write.contents l.inner) (take l.done l.piece)

abbrev pub decreases-loop-done : goal.decreases-loop-done
decreases-loop-done g l = length l.piece - l.done

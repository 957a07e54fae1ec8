use Rattle.std.proofs.Common.{◌≡◌, ◌≤◌, ◌-◌, length, take}
use Rattle.checker_io.specs.Sink.{Took}
use Rattle.checker_io.proofs.pieces.write_text.Given as goal

abbrev pub invariant-loop-done : goal.invariant-loop-done
invariant-loop-done g l = (l.done ≤ length l.text)
    × Took (g.K.Sink.state l.initial.sink).taken (g.K.Sink.state l.sink).taken (take l.done l.text)
    × ((g.K.Sink.state l.sink).faults ≡ (g.K.Sink.state l.initial.sink).faults)

abbrev pub decreases-loop-done : goal.decreases-loop-done
decreases-loop-done g l = length l.text - l.done

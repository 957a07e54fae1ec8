use Rattle.std.proofs.Common.{◌≡◌, ◌++◌, take}
use Rattle.std.specs.List.{flat_map}
use Rattle.explanation.specs.LinesLeft.{call_left}
use Rattle.explanation.proofs.lines_left.add_entry.Given as goal

abbrev pub invariant-loop-call : goal.invariant-loop-call
invariant-loop-call l =
    l.calls
    ≡ l.initial.calls
    ++ flat_map (call_left l.sources l.side l.script l.entry.outcome.ending) (take l.call-index l.entry.replayed.calls)

use Rattle.std.proofs.Common.{◌≡◌, ◌++◌, take}
use Rattle.std.specs.List.{flat_map}
use Rattle.explanation.specs.Courses.{call_line}
use Rattle.explanation.proofs.courses.put_calls.Given as goal

abbrev pub invariant-loop-call : goal.invariant-loop-call
invariant-loop-call l = l.text ≡ l.initial.text ++ flat_map call_line (take l.call-index l.calls)

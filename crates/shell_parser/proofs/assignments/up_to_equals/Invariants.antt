use Rattle.std.proofs.Common.{◌≡◌, ◌≤◌, ◌-◌, ◌++◌, length, drop, take}
use Rattle.shell_grammar.specs.Look.{up_to_equals}
use Rattle.shell_parser.proofs.assignments.up_to_equals.Given as goal

abbrev pub invariant-loop-i : goal.invariant-loop-i
invariant-loop-i l = (l.i ≤ length l.text) × (take l.i l.text ++ up_to_equals (drop l.i l.text) ≡ up_to_equals l.text)

abbrev pub decreases-loop-i : goal.decreases-loop-i
decreases-loop-i l = length l.text - l.i

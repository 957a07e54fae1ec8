use Rattle.std.proofs.Common.{◌≡◌, ◌+◌, ◌≤◌, ◌++◌, length}
use Rattle.act_cases.specs.Looks.{way_literals, look_literals}
use Rattle.act_cases.proofs.looks.add_look.Given as goal

abbrev pub invariant-loop-left : goal.invariant-loop-left
invariant-loop-left l = record {
  done : l.literals ++ way_literals l.ways l.from l.next l.left ≡ l.fn.literals ++ look_literals l.ways l.x l.y l.names;
  room : l.next + length l.left ≤ 4294967295;
}

abbrev pub decreases-loop-left : goal.decreases-loop-left
decreases-loop-left l = length l.left

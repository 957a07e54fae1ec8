use Rattle.std.proofs.Common.{◌≡◌, ◌+◌, ◌≤◌, ◌++◌, length, drop}
use Rattle.act_cases.specs.Puts.{variable_at, root_of, put_literals}
use Rattle.act_cases.proofs.puts.add_put.Given as goal

abbrev pub invariant-loop-i : goal.invariant-loop-i
invariant-loop-i l = record {
  done : l.literals ≡ l.fn.literals ++ put_literals (variable_at l.x l.y l.i) (l.y + l.i) (drop l.i l.names) l.z l.r;
  inner : l.inner ≡ root_of (drop l.i l.names) l.z l.r;
  next : l.next + l.i ≡ l.r + length l.names;
  within : l.i ≤ length l.names;
}

abbrev pub decreases-loop-i : goal.decreases-loop-i
decreases-loop-i l = l.i

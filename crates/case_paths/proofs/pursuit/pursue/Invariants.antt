use Rattle.std.proofs.Common.{◌≡◌, ◌+◌, ◌≤◌, length}
use Rattle.case_paths.proofs.Going.{Follows}
use Rattle.case_paths.proofs.pursuit.pursue.Given as goal

abbrev pub invariant-loop-at : goal.invariant-loop-at
invariant-loop-at g l = record {
  place : l.at ≡ l.state.done;
  room : length l.lower + 1 + length l.higher ≤ l.fn.room;
  follows : Follows (g.M.Machine.decision l.machine) l.fn.stage l.value l.marks l.deeds l.lower l.state l.higher;
}

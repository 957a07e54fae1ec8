use Rattle.std.proofs.Common.{◌≡◌, ◌≤◌, ◌++◌, length, reverse, take}
use Rattle.scenario_runs.specs.Runs.{restored}
use Rattle.scenario_runs.proofs.restoring.restored.Given as goal

abbrev pub invariant-loop-left : goal.invariant-loop-left
invariant-loop-left l = record {
  rest : restored l.backs l.unpacked ≡ l.put ++ reverse (take l.left l.backs);
  within : l.left ≤ length l.backs;
}

abbrev pub decreases-loop-left : goal.decreases-loop-left
decreases-loop-left l = l.left

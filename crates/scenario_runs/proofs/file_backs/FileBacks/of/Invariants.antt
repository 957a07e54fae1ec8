use Rattle.std.proofs.Common.{◌≡◌, ◌++◌, drop}
use Rattle.scenario_runs.specs.Acts.{backs_of}
use Rattle.scenario_runs.proofs.file_backs.FileBacks.of.Given as goal

abbrev pub invariant-loop-i : goal.invariant-loop-i
invariant-loop-i l = backs_of l.listed l.done ≡ l.backs ++ backs_of (drop l.i l.listed) (drop l.i l.done)

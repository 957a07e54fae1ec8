use Rattle.std.proofs.Common.{◌≡◌, ◌++◌, drop}
use Rattle.case_paths.proofs.trace.Trace.listed.Given as goal

abbrev pub invariant-loop-at : goal.invariant-loop-at
invariant-loop-at l = l.marks ++ drop l.at l.self ≡ l.self

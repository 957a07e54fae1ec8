use Rattle.case_paths.proofs.Forking.{NoneBefore}
use Rattle.case_paths.proofs.fork.place.Given as goal

abbrev pub invariant-loop-at : goal.invariant-loop-at
invariant-loop-at l = NoneBefore l.cases l.row l.at

use Rattle.std.proofs.Common.{◌≡◌}
use Rattle.clause_solver.specs.Gathered.{all_set, pairs}
use Rattle.clause_solver.proofs.growing.put_all.Given as goal

abbrev pub invariant-loop-child : goal.invariant-loop-child
invariant-loop-child l = l.entries ≡ all_set l.initial.entries (pairs l.yielded)

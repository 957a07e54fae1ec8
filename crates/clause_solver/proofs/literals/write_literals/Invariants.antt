use Rattle.std.proofs.Common.{◌≡◌, ◌++◌, drop}
use Rattle.clause_solver.specs.Written.{literals_from}
use Rattle.clause_solver.proofs.literals.write_literals.Given as goal

abbrev pub invariant-loop-i : goal.invariant-loop-i
invariant-loop-i l = l.literals ++ literals_from l.i (drop l.i l.vars) ≡ literals_from 0 l.vars

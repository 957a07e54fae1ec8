use Rattle.std.proofs.Common.{◌≡◌, ◌+◌, ◌≤◌, [], ◌∷◌, ◌++◌, drop}
use Rattle.clause_solver.specs.NewNames.{beginning}
use Rattle.clause_solver.proofs.new_name.count_going_on.Given as goal

abbrev pub invariant-loop-i : goal.invariant-loop-i
invariant-loop-i l = record {
  low : l.count ≤ l.i;
  done : l.count + beginning (l.p ++ l.x ∷ []) (drop l.i l.vars) ≡ beginning (l.p ++ l.x ∷ []) l.vars;
}

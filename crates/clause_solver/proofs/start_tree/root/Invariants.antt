use Rattle.std.proofs.Common.{ℕ, ◌<◌, length}
use Rattle.clause_solver.specs.Opens.{IsRoot}
use Rattle.clause_solver.proofs.start_tree.root.Given as goal

abbrev pub invariant-loop-of : goal.invariant-loop-of
invariant-loop-of l = record {
  inside : l.here < length l.vars;
  same : (r : ℕ) → IsRoot l.vars l.x r → IsRoot l.vars l.here r;
  back : (r : ℕ) → IsRoot l.vars l.here r → IsRoot l.vars l.x r;
}

abbrev pub decreases-loop-of : goal.decreases-loop-of
decreases-loop-of l = l.here

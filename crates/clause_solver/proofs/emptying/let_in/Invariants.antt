use Rattle.std.proofs.Common.{◌≡◌, ◌++◌, ℕ, List, drop, filter}
use Rattle.clause_solver.specs.NameSets.{lets_in}
use Rattle.clause_solver.specs.Variables.{allowed}
use Rattle.clause_solver.proofs.emptying.let_in.Given as goal

abbrev pub invariant-loop-i : goal.invariant-loop-i
invariant-loop-i l = record {
  kept : l.kept ++ filter (allowed l.fence) (drop l.i l.names) ≡ filter (allowed l.fence) l.names;
  known : (f : List ℕ) → lets_in l.known f ≡ allowed l.fence f;
}

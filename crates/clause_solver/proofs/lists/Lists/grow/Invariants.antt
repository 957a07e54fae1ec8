use Rattle.std.proofs.Common.{◌<◌, ◌≤◌, length, map}
use Rattle.clause_solver.specs.Builds.{AreGathered}
use Rattle.clause_solver.specs.Gathered.{gathered}
use Rattle.clause_solver.proofs.lists.Lists.grow.Given as goal

abbrev pub invariant-loop-last : goal.invariant-loop-last
invariant-loop-last l = record {
  some : 0 < length l.places.items;
  low : length l.places.items ≤ length l.self.vars;
  gathered : AreGathered l.self.vars l.self.best l.marks l.z (length (map gathered l.places.items)) (map gathered l.places.items);
}

abbrev pub decreases-loop-last : goal.decreases-loop-last
decreases-loop-last l = length l.places.items

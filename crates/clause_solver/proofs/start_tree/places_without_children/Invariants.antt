use Rattle.std.proofs.Common.{◌≡◌, ℕ, ◌<◌, [], length, map}
use Rattle.clause_solver.specs.Builds.{place_at}
use Rattle.clause_solver.specs.Gathered.{gathered}
use Rattle.clause_solver.specs.Opens.{without_children}
use Rattle.clause_solver.proofs.start_tree.places_without_children.Given as goal

abbrev pub invariant-loop-i : goal.invariant-loop-i
invariant-loop-i l = record {
  counted : length (map gathered l.places.items) ≡ l.i;
  each : (k : ℕ) → k < l.i → place_at (map gathered l.places.items) k ≡ (without_children l.vars l.best l.marks l.z k, []);
}

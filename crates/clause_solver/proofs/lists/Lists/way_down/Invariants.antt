use Rattle.std.proofs.Common.{◌≡◌, ℕ, List}
use Rattle.clause_solver.specs.NameSets.{has}
use Rattle.clause_solver.specs.Variables.{member}
use Rattle.clause_solver.specs.Decided.{AreDecided}
use Rattle.clause_solver.specs.Emptied.{ComesTo}
use Rattle.clause_solver.proofs.lists.Lists.way_down.Given as goal

abbrev pub invariant-down : goal.invariant-down
invariant-down l = record {
  decided : AreDecided l.new;
  known : (g : List ℕ) → has l.known g ≡ member g l.names;
  to : ComesTo l.self.vars l.x l.fence l.new.vars l.here l.names;
}

abbrev pub decreases-down : goal.decreases-down
decreases-down l = l.here

use Rattle.std.proofs.Common.{ℕ, ◌<◌, [], get_or}
use Rattle.clause_solver.specs.Decided.{AreDecided}
use Rattle.clause_solver.specs.Emptied.{HasMore, HasItsVariable}
use Rattle.clause_solver.proofs.lists.Lists.with_entries.Given as goal

abbrev pub invariant-loop-i : goal.invariant-loop-i
invariant-loop-i l = record {
  decided : AreDecided l.new;
  more : HasMore l.self.vars l.new.vars;
  known : (k : ℕ) → k < l.i → HasItsVariable l.new.vars l.n (get_or l.names k []);
}

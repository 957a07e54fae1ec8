use Rattle.std.proofs.Common.{◌≡◌, ℕ, ◌<◌, [], length, IsTrue}
use Rattle.clause_solver.specs.Variables.{var_at}
use Rattle.clause_solver.specs.Decided.{number_at}
use Rattle.clause_solver.specs.Greatest.{HasEntryOutside}
use Rattle.clause_solver.specs.Opens.{opened, AreReasoned}
use Rattle.clause_solver.proofs.lists.Lists.open_places.Given as goal

abbrev pub invariant-loop-k : goal.invariant-loop-k
invariant-loop-k l = record {
  same : length l.marks.items ≡ length l.self.vars;
  looked : (j : ℕ) → j < l.k → IsTrue (var_at l.self.vars (number_at l.self.filled j)).not_empty → HasEntryOutside l.self.vars l.self.best (opened l.self.vars l.marks.items) (number_at l.self.filled j) [];
  reasoned : AreReasoned l.self.vars l.self.best l.marks.items;
}

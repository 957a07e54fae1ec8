use Rattle.std.proofs.Common.{◌≡◌, ◌⊎◌, ℕ, ◌<◌, ◌≤◌, length}
use Rattle.clause_solver.specs.Plainest.{AreFitting, AreNeededFrom, IsPlainer}
use Rattle.clause_solver.specs.Variables.{var_at}
use Rattle.clause_solver.proofs.lists.Lists.without_spares.Given as goal

abbrev pub invariant-loop-x : goal.invariant-loop-x
invariant-loop-x l = record {
  fitting : AreFitting l.new;
  low : l.low ≤ l.x;
  inside : l.x ≤ length l.new.vars;
  high : l.x ≤ l.high;
  plainer : IsPlainer l.self.vars l.new.vars;
  needed : AreNeededFrom l.x l.new.vars l.new.best;
  others : (i : ℕ) → (i < l.x) ⊎ (l.high ≤ i) → var_at l.new.vars i ≡ var_at l.self.vars i;
  filled : l.new.filled ≡ l.self.filled;
}

abbrev pub decreases-loop-x : goal.decreases-loop-x
decreases-loop-x l = l.x

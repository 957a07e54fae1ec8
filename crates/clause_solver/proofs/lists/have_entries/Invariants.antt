use Rattle.std.proofs.Common.{ℕ, ◌<◌, []}
use Rattle.clause_solver.specs.Greatest.{HasEntryOutside, unfenced}
use Rattle.clause_solver.specs.Decided.{number_at}
use Rattle.clause_solver.proofs.lists.have_entries.Given as goal

abbrev pub invariant-loop-k : goal.invariant-loop-k
invariant-loop-k l = (i : ℕ) → i < l.k → HasEntryOutside l.vars l.best (unfenced l.vars) (number_at l.filled i) []

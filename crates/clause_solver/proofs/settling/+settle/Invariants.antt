use Rattle.std.proofs.Common.{◌≡◌, ◌+◌, ◌-◌, ◌*◌, ℕ, List, length}
use Rattle.clause_solver.specs.NameSets.{lets_in}
use Rattle.clause_solver.specs.Variables.{allowed, var_at}
use Rattle.clause_solver.proofs.Falling.{AreGoneOver}
use Rattle.clause_solver.proofs.Links.{left_of}
use Rattle.clause_solver.proofs.settling.+settle.Given as goal

abbrev pub decreases-settle_entries : goal.decreases-settle_entries
decreases-settle_entries l = 2 * (length l.vars.now - l.p)

abbrev pub decreases-settle_entry : goal.decreases-settle_entry
decreases-settle_entry l = 2 * (length l.vars.now - l.m) + 1

abbrev pub invariant-settle_entries-entries : goal.invariant-settle_entries-entries
invariant-settle_entries-entries l = record {
  gone : AreGoneOver l.vars l.p l.initial.new l.new l.fits l.here;
  fence : (f : List ℕ) → lets_in l.fence f ≡ allowed (var_at l.vars l.p).fence f;
}

abbrev pub decreases-settle_entries-entries : goal.decreases-settle_entries-entries
decreases-settle_entries-entries l = left_of l.here

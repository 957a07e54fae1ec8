use Rattle.std.proofs.Common.{◌-◌, length}
use Rattle.case_paths.proofs.Whole.{Exploring}
use Rattle.case_paths.proofs.exploration.explore.Given as goal

abbrev pub invariant-rounds : goal.invariant-rounds
invariant-rounds g l = Exploring (g.M.Machine.decision l.machine) l.fn.store l.room l.items

abbrev pub decreases-rounds : goal.decreases-rounds
decreases-rounds g l = l.room - length l.items

use Rattle.std.proofs.Common.{length}
use Rattle.case_paths.proofs.Rounds.{Going}
use Rattle.case_paths.proofs.exploration.round.Given as goal

abbrev pub invariant-items : goal.invariant-items
invariant-items g l = Going (g.M.Machine.decision l.machine) l.fn.items l.room l.seen l.items

abbrev pub decreases-items : goal.decreases-items
decreases-items g l = length l.items

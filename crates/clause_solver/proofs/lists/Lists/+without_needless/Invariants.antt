use Rattle.std.proofs.Common.{◌-◌}
use Rattle.clause_solver.proofs.lists.Lists.+without_needless.Given as goal

abbrev pub decreases-without_needless : goal.decreases-without_needless
decreases-without_needless l = l.high - l.low

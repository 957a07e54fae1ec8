use Rattle.std.proofs.Common.{◌≡◌, ◌≤◌, length, take, []}
use Rattle.shell_rules.specs.Calls.{found}
use Rattle.colis_meaning.specs.Meaning.{funs_of}
use Rattle.colis_interp.proofs.execution.find.Given as goal

abbrev pub invariant-loop-end : goal.invariant-loop-end
invariant-loop-end l = (l.end ≤ length l.defs) × (found l.name (funs_of l.defs []) ≡ found l.name (funs_of (take l.end l.defs) []))

abbrev pub decreases-loop-end : goal.decreases-loop-end
decreases-loop-end l = l.end

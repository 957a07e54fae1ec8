use Rattle.std.proofs.Common.{◌≡◌, ◌++◌, length}
use Rattle.case_paths.proofs.queue.Queue.put_first.Given as goal

abbrev pub invariant-items : goal.invariant-items
invariant-items g l = l.first ++ l.self ≡ l.fn.first ++ l.initial.self

abbrev pub decreases-items : goal.decreases-items
decreases-items g l = length l.first

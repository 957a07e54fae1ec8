use Rattle.std.proofs.Common.{◌≡◌, ◌++◌, length}
use Rattle.case_paths.proofs.queue.Queue.put_last.Given as goal

abbrev pub invariant-items : goal.invariant-items
invariant-items g l = l.self ++ l.last ≡ l.initial.self ++ l.fn.last

abbrev pub decreases-items : goal.decreases-items
decreases-items g l = length l.last

use Rattle.std.proofs.Common.{◌≡◌, take}
use Rattle.explanation.specs.Counting.{count_so}
use Rattle.explanation.proofs.counting.count_so.Given as goal

abbrev pub invariant-loop-entry : goal.invariant-loop-entry
invariant-loop-entry l = l.found ≡ count_so l.verdict (take l.entry-index l.entries)

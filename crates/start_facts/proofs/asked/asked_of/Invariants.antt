use Rattle.std.proofs.Common.{◌≡◌, ◌≤◌, length, drop}
use Rattle.std.specs.BTreeSet.{contains}
use Rattle.std.specs.Ordering.{nat_cmp}
use Rattle.start_facts.specs.Asked.{asked_of}
use Rattle.start_facts.proofs.asked.asked_of.Given as goal

abbrev pub invariant-loop-k : goal.invariant-loop-k
invariant-loop-k l = (l.k ≤ length l.literals) × (contains nat_cmp l.asked ≡ asked_of (drop l.k l.literals))

abbrev pub decreases-loop-k : goal.decreases-loop-k
decreases-loop-k l = l.k

use Rattle.std.proofs.Common.{◌≡◌, drop, map}
use Rattle.tree_clauses.specs.ClauseRead.{tell_literals}
use Rattle.tree_clauses.proofs.read.tell_literals.Given as goal

abbrev pub invariant-loop-at : goal.invariant-loop-at
invariant-loop-at l = tell_literals (drop l.at l.literals) (map (λ line. line.now) (drop l.at l.lines)) ≡ tell_literals l.literals (map (λ line. line.now) l.lines)

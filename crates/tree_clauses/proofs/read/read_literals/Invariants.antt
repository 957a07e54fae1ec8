use Rattle.std.proofs.Common.{◌≡◌, [], drop, map}
use Rattle.tree_clauses.specs.ClauseRead.{literals_onto}
use Rattle.tree_clauses.proofs.read.read_literals.Given as goal

abbrev pub invariant-loop-line : goal.invariant-loop-line
invariant-loop-line l = literals_onto l.literals (map (λ line. line.now) (drop l.line-index l.lines)) ≡ literals_onto [] (map (λ line. line.now) l.lines)

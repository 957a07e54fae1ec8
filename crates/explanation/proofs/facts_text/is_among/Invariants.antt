use Rattle.std.proofs.Common.{◌≡◌, length}
use Rattle.tree_clauses.specs.NameSets.{is_among}
use Rattle.explanation.proofs.facts_text.is_among.Given as goal

abbrev pub invariant-loop-left : goal.invariant-loop-left
invariant-loop-left l = is_among l.left l.name ≡ is_among l.names l.name

abbrev pub decreases-loop-left : goal.decreases-loop-left
decreases-loop-left l = length l.left

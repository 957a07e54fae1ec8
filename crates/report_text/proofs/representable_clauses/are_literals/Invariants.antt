use Rattle.std.proofs.Common.{◌≡◌, length}
use Rattle.std.specs.List.{list_all}
use Rattle.tree_clauses.specs.ClauseRead.{is_literal}
use Rattle.report_text.proofs.representable_clauses.are_literals.Given as goal

abbrev pub invariant-loop-left : goal.invariant-loop-left
invariant-loop-left l = list_all is_literal l.left ≡ list_all is_literal l.literals

abbrev pub decreases-loop-left : goal.decreases-loop-left
decreases-loop-left l = length l.left

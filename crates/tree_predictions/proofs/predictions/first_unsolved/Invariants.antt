use Rattle.std.proofs.Common.{◌≡◌, map}
use Rattle.std.specs.List.{AllWithin}
use Rattle.tree_clauses.specs.Solved.{IsSolved}
use Rattle.tree_predictions.proofs.predictions.first_unsolved.Given as goal

abbrev pub invariant-loop-clause : goal.invariant-loop-clause
invariant-loop-clause l =
    (l.number ≡ l.clause-index) × AllWithin IsSolved (map (λ clause. clause.now) l.clauses) 0 l.clause-index

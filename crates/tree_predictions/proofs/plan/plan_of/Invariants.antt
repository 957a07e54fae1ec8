use Rattle.std.proofs.Common.{◌≡◌, List, [], ◌++◌, map, take}
use Rattle.tree_predictions.specs.declared.plan.Step.{Step}
use Rattle.tree_predictions.specs.Plans.{clauses_of, ArePlanned}
use Rattle.tree_predictions.proofs.plan.plan_of.Given as goal

abbrev pub invariant-loop-clause : goal.invariant-loop-clause
invariant-loop-clause l =
    (clauses_of l.plan ≡ map (λ clause. clause.now) (take l.clause-index l.clauses))
    × ((rest : List Step) → ArePlanned l.before rest → ArePlanned [] (l.plan ++ rest))

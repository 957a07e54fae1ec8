use Rattle.std.proofs.Common.{◌≡◌}
use Rattle.std.specs.List.{AllWithin}
use Rattle.tree_clauses.specs.Literals.{CoversTree}
use Rattle.tree_predictions.specs.Plans.{clauses_of}
use Rattle.tree_predictions.proofs.Planned.{IsBehind}
use Rattle.tree_predictions.proofs.picks.pick.Given as goal

abbrev pub invariant-loop-step : goal.invariant-loop-step
invariant-loop-step l =
    (l.number ≡ l.step-index) × IsBehind l.tree l.plan l.step-index l.held
    × AllWithin (λ clause. ¬ (CoversTree clause l.tree)) (clauses_of l.plan) 0 l.step-index

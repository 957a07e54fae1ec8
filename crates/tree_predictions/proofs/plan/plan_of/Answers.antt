use Rattle.std.proofs.Common.{◌≤◌, ◌+◌, [], ◌∷◌, ◌++◌, length, sym, subst, ap, ap₂, ◌∙◌}
use Rattle.std.proofs.lemmas.List.{append-nil, map_more, map_push}
use Rattle.tree_predictions.specs.declared.plan.Step.{Step}
use Rattle.tree_predictions.specs.Looks.{AreNecessary}
use Rattle.tree_predictions.specs.Plans.{clauses_of, looks_behind, ArePlanned}
use Rattle.tree_predictions.proofs.Planned.{one_step}
use Rattle.tree_predictions.proofs.plan.plan_of.Goals as goal

pub loop-clause-preserved : goal.loop-clause-preserved
loop-clause-preserved c =
    let i = c.loop-clause.clause-index in
    let plan = c.loop-clause.plan in
    let before = c.loop-clause.before in
    let looks = c.in_ok-looks.looks in
    let step = c.in_ok-step.step in
    let item = c.clause-item.result in
    let says = c.in_ok-step.ensures in (
      ap clauses_of c.in_ok-add.ensures.ok ∙ map_push (λ (step : Step). step.clause.now) plan step
          ∙ ap₂ (λ clauses clause. clauses ++ clause ∷ []) c.loop-clause.invariant.0 (says.clause ∙ ap (λ clause. clause.now) c.clause-item.is)
          ∙ sym (map_more (λ clause. clause.now) c.args.clauses.now i item c.loop-clause-test.true),
      λ rest planned. subst (λ plan. ArePlanned [] (plan ++ rest)) (sym c.in_ok-add.ensures.ok)
          (one_step before looks plan rest step c.loop-clause.invariant.1 (subst (λ b. step.shared ≤ length b) c.as_slice.ensures says.within) says.few
          (subst (λ clause. AreNecessary clause looks) (sym says.clause) c.in_ok-looks.ensures)
          (sym c.as_slice-in-loop-clause.ensures ∙ says.looks ∙ ap (λ b. looks_behind b step) c.as_slice.ensures)
          planned),
    )

pub returns-clause-planned : goal.returns-clause-planned
returns-clause-planned c = subst (ArePlanned []) (append-nil c.loop-clause.plan) (c.loop-clause.invariant.1 [] tt)

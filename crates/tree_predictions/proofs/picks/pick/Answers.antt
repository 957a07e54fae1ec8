use Rattle.std.proofs.Common.{◌+◌, [], false, sym, ap, ◌∙◌, arith}
use Rattle.tree_clauses.specs.Literals.{CoversTree}
use Rattle.tree_clauses.specs.Solved.{IsSolved}
use Rattle.tree_predictions.specs.Plans.{clauses_of, looks_behind}
use Rattle.tree_predictions.proofs.Firsts.{one_more, of_one, is_first, of_all}
use Rattle.tree_predictions.proofs.Planned.{next, clause_at, clause_within, count_of, true_false}
use Rattle.tree_predictions.proofs.picks.pick.Goals as goal

pub covers_if-requires-clause-solved : goal.covers_if-requires-clause-solved
covers_if-requires-clause-solved c =
    let i = c.loop-step.step-index in
    let plan = c.args.plan.now in
    let step = c.step-item.result in
    let lt = c.loop-step-test.true in
    of_one IsSolved (clauses_of plan) i step.clause.now (clause_within plan i lt) (clause_at plan i step lt c.step-item.is) c.requires.solved

pub returns-then-covered : goal.returns-then-covered
returns-then-covered c =
    let i = c.loop-step.step-index in
    let plan = c.args.plan.now in
    let step = c.step-item.result in
    let lt = c.loop-step-test.true in
    is_first (λ clause. CoversTree clause c.args.tree.now) (clauses_of plan) i step.clause.now (clause_within plan i lt) (clause_at plan i step lt c.step-item.is) _
    (ap (λ n. n + 1) c.loop-step.invariant.0)
    (c.in_ok-covered.ensures.0 c.if-covered.true)
    c.loop-step.invariant.2

pub loop-step-preserved : goal.loop-step-preserved
loop-step-preserved c =
    let i = c.loop-step.step-index in
    let plan = c.args.plan.now in
    let step = c.step-item.result in
    let lt = c.loop-step-test.true in
    let n = next c.args.tree.now plan i c.loop-step.held step lt c.step-item.is c.loop-step.invariant.1 in
    let held = c.held_behind-now.ensures n.before n.within n.count in (
      ap (λ n. n + 1) c.loop-step.invariant.0,
      record { before = looks_behind n.before step; planned = n.planned; count = held.count },
      one_more (λ clause. ¬ (CoversTree clause c.args.tree.now)) (clauses_of plan) i step.clause.now (clause_within plan i lt) (clause_at plan i step lt c.step-item.is)
          (λ covers. true_false (sym (c.in_ok-covered.ensures.1 covers) ∙ c.if-covered.false))
          c.loop-step.invariant.2,
    )

pub returns : goal.returns
returns c =
    let out = c.loop-step-test.false in
    let count = count_of c.args.plan.now in
    of_all (λ clause. ¬ (CoversTree clause c.args.tree.now)) (clauses_of c.args.plan.now) c.loop-step.step-index (omega (arith, out, count)) c.loop-step.invariant.2

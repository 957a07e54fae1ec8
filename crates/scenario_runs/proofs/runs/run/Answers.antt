use Rattle.std.proofs.Common.{◌≡◌, sym, ap, subst, ◌∙◌}
use Rattle.feature_trees.specs.Tree.{kind_of}
use Rattle.dpkg_scenarios.specs.declared.scenario.StepNext.TheVariants.{Go, Stop}
use Rattle.scenario_runs.specs.declared.course.Course.{Course}
use Rattle.scenario_runs.specs.Runs.{plan_of}
use Rattle.dpkg_scenarios.proofs.Walks.{first_step}
use Rattle.scenario_runs.proofs.Walking.{Comes, begins}
use Rattle.scenario_runs.proofs.Taking.{went_on, ended}
use Rattle.scenario_runs.proofs.runs.run.Goals as goal

pub steps-init : goal.steps-init
steps-init c =
    let e = c.in_ok-course.ensures in
    record {
      step = first_step c.args.job.now.scenario;
      dir = ap (λ (x : Course). kind_of x.tree) e ∙ c.requires;
      comes = subst (Comes (plan_of c.args.job.now) c.args.tree.now 1) (sym e) (begins (plan_of c.args.job.now) c.args.tree.now);
    }

pub steps-preserved : goal.steps-preserved
steps-preserved c =
    let is : c.in_ok-next.field-0.next ≡ Go c.in-Go.later = cc in
    let on = went_on (plan_of c.args.job.now) c.args.tree.now c.steps.step c.in-Go.later c.steps.course c.in_ok-next.field-0
    c.steps.invariant.comes c.in_ok-next.ensures.step is c.in_ok-next.ensures.later in
    record { step = on.step; dir = c.in_ok-next.ensures.dir; comes = on.comes }

pub returns-in-Stop : goal.returns-in-Stop
returns-in-Stop c =
    let is : c.in_ok-next.field-0.next ≡ Stop c.in-Stop.ending = cc in
    ended (plan_of c.args.job.now) c.args.tree.now c.steps.step c.in-Stop.ending c.steps.course c.in_ok-next.field-0
    c.steps.invariant.comes c.in_ok-next.ensures.step is
    ∙ c.replayed.ensures

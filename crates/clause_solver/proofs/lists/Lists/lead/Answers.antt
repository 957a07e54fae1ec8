use Rattle.std.proofs.Common.{◌≡◌, ◌∙◌, sym, ap, subst, List}
use Rattle.feature_trees.specs.declared.kind.Kind.TheVariants as kind
use Rattle.feature_trees.specs.Kinds.{of}
use Rattle.clause_solver.specs.declared.leading.Aim.TheVariants.{Missed, Open}
use Rattle.clause_solver.specs.declared.variable.Variable.{Variable}
use Rattle.clause_solver.specs.Aims.{IsAim, IsLed}
use Rattle.clause_solver.specs.Variables.{var_at, IsLinkPlace, aimed, narrowed}
use Rattle.clause_solver.proofs.Led.{limited_place, led_missed, led_open}
use Rattle.clause_solver.proofs.lists.Lists.lead.Goals as goal
use Rattle.clause_solver.proofs.lists.Lists.lead.Goals.{In-Open}

module _ (c : In-Open) where
  is_open : IsAim (var_at c.args.self.now.vars c.args.x) c.args.target.now Open
  is_open = subst (λ (v : Variable). IsAim v c.args.target.now Open) c.var_at.ensures c.in-Open.ensures

pub aim-requires-clause-place : goal.aim-requires-clause-place
aim-requires-clause-place c =
    let at_step = (goal.at.aim-requires-clause-place c).In-Open in
    let vars = c.args.self.now.vars in
    let same : c.narrow-in-Open.new.self.vars ≡ narrowed vars c.args.x (of kind.Link) =
    c.in_ok-narrow-in-Open.ensures.narrowed ∙ ap (narrowed vars c.args.x) c.of.ensures in
    subst (λ (vs : List Variable). IsLinkPlace (var_at vs c.args.x)) (sym same)
    (limited_place vars c.args.x c.args.target.now c.requires.inside (is_open at_step).0)

pub returns-in_ok-narrow-in-Missed-clause-led : goal.returns-in_ok-narrow-in-Missed-clause-led
returns-in_ok-narrow-in-Missed-clause-led c =
    let vars = c.args.self.now.vars in
    let missed : IsAim (var_at vars c.args.x) c.args.target.now Missed =
    subst (λ (v : Variable). IsAim v c.args.target.now Missed) c.var_at.ensures c.in-Missed.ensures in
    subst (IsLed vars c.args.x c.args.target.now) (sym (c.in_ok-narrow-in-Missed.ensures.narrowed ∙ ap (narrowed vars c.args.x) c.none.ensures))
    (led_missed vars c.args.x c.args.target.now c.requires.inside missed)

pub returns-in_ok-aim-in-Open-clause-led : goal.returns-in_ok-aim-in-Open-clause-led
returns-in_ok-aim-in-Open-clause-led c =
    let at_step = (goal.at.returns-in_ok-aim-in-Open-clause-led c).In-Open in
    let vars = c.args.self.now.vars in
    let x = c.args.x in
    let target = c.args.target.now in
    let same : c.narrow-in-Open.new.self.vars ≡ narrowed vars x (of kind.Link) =
    c.in_ok-narrow-in-Open.ensures.narrowed ∙ ap (narrowed vars x) c.of.ensures in
    subst (IsLed vars x target) (sym (c.in_ok-aim-in-Open.ensures.aimed ∙ ap (λ vs. aimed vs x target) same))
    (led_open vars x target c.requires.inside (is_open at_step))

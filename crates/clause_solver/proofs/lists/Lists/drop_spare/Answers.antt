use Rattle.std.proofs.Common.{◌≡◌, ◌∙◌, inl, inr, true, false, sym, arith}
use Rattle.feature_trees.specs.declared.kind.Kind.TheVariants.{Absent}
use Rattle.feature_trees.specs.Kinds.{of}
use Rattle.clause_solver.proofs.Names.{nat_cases}
use Rattle.clause_solver.proofs.Spares.{fitting_less, less_needed, less_others, less_plainer, plainer_same}
use Rattle.clause_solver.proofs.lists.Lists.drop_spare.Goals as goal

pub returns-then-not-is_spare-clause-plainer : goal.returns-then-not-is_spare-clause-plainer
returns-then-not-is_spare-clause-plainer c = plainer_same c.args.self.now.vars

pub returns-then-not-is_spare-clause-needed : goal.returns-then-not-is_spare-clause-needed
returns-then-not-is_spare-clause-needed c i low w s left = elim (nat_cases i c.args.x) [
  | inl e ↦
      let spare = c.is_spare.ensures.1 (rw e at s) in
      let bad : true ≡ false = sym spare ∙ c.if-not-is_spare.true in cc
  | inr ne ↦ c.requires.later i (omega (arith, low, ne)) w s left
]

pub returns-clause-fitting : goal.returns-clause-fitting
returns-clause-fitting c =
    let a = c.args.self.now in
    fitting_less a c.drop_place.new.self c.args.x c.requires.fitting c.requires.inside (c.is_spare.ensures.0 c.if-not-is_spare.false) c.in_ok-drop_place.ensures.vars c.in_ok-drop_place.ensures.best c.in_ok-drop_place.ensures.others.0 c.in_ok-drop_place.ensures.others.1

pub returns-clause-plainer : goal.returns-clause-plainer
returns-clause-plainer c =
    let a = c.args.self.now in
    let f = c.requires.fitting in
    rw c.in_ok-drop_place.ensures.vars (less_plainer a.vars a.best c.args.x c.requires.inside f.same f.order f.best f.fit (c.is_spare.ensures.0 c.if-not-is_spare.false))

pub returns-clause-needed : goal.returns-clause-needed
returns-clause-needed c =
    let a = c.args.self.now in
    let f = c.requires.fitting in
    rw (c.in_ok-drop_place.ensures.vars, c.in_ok-drop_place.ensures.best) (less_needed a.vars a.best c.args.x c.requires.inside f.same f.order f.best f.fit (c.is_spare.ensures.0 c.if-not-is_spare.false) c.requires.later)

pub returns-clause-others : goal.returns-clause-others
returns-clause-others c i ne = rw c.in_ok-drop_place.ensures.vars (less_others c.args.self.now.vars c.args.x (of Absent) i ne)

use Rattle.std.proofs.Common.{ℕ}
use Rattle.clause_solver.specs.declared.lists.Lists.{Lists}
use Rattle.clause_solver.specs.declared.variable.Definition.TheVariants.{Child}
use Rattle.clause_solver.specs.Variables.{IsChild}
use Rattle.clause_solver.specs.Appends.{IsAppended}
use Rattle.clause_solver.proofs.Entered.{entered_decided, entered_more, entered_known}
use Rattle.clause_solver.proofs.lists.Lists.enter.Goals as goal
use Rattle.clause_solver.proofs.lists.Lists.enter.Goals.{In_ok-_y}

module _ (c : In_ok-_y) where
  none : (i : ℕ) → ¬ (IsChild c.args.self.now.vars c.args.n c.args.f.now i)
  none i h = c.in_default.ensures i h

  abbrev after : Lists
  after = c.append_in_place.new.self

  is : IsAppended c.args.self.now (Child c.args.n c.args.f.now) c.append_in_place.new.self c.in_ok-_y._y
  is = rw c.in_ok-name.ensures at c.in_ok-_y.ensures.ok

pub returns-clause-decided : goal.returns-clause-decided
returns-clause-decided c = entered_decided c.args.self.now (after c) c.args.n c.args.f.now c.in_ok-_y._y c.requires.decided c.requires.inside c.requires.node c.is_sound.ensures (none c) (is c)

pub returns-clause-more : goal.returns-clause-more
returns-clause-more c = entered_more c.args.self.now (after c) c.args.n c.args.f.now c.in_ok-_y._y c.requires.decided c.requires.inside c.requires.node c.is_sound.ensures (none c) (is c)

pub returns-clause-known : goal.returns-clause-known
returns-clause-known c = entered_known c.args.self.now (after c) c.args.n c.args.f.now c.in_ok-_y._y c.requires.decided c.requires.inside c.requires.node c.is_sound.ensures (none c) (is c)

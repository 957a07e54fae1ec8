use Rattle.std.proofs.Common.{◌≡◌, ◌≢◌, ◌∙◌, ◌⊎◌, inl, inr, ◌<◌, ◌≤◌, ◌-◌, ap, arith}
use Rattle.clause_solver.specs.declared.lists.Lists.{Lists}
use Rattle.clause_solver.specs.Plainest.{AreFitting}
use Rattle.clause_solver.specs.Variables.{var_at}
use Rattle.clause_solver.proofs.Spares.{fitting, fitting_decided, plainer_same, plainer_twice}
use Rattle.clause_solver.proofs.lists.Lists.without_spares.Goals as goal

pub loop-x-init : goal.loop-x-init
loop-x-init c =
    let same : c.in_ok-new.new ≡ c.args.self.now = c.in_ok-new.ensures in
    let inside = c.requires.inside in
    record {
      fitting = rw same (fitting c.args.self.now c.requires.decided c.requires.left);
      low = inside.0;
      inside = rw same inside.1;
      high = omega arith;
      plainer = rw same (plainer_same c.args.self.now.vars);
      needed = rw same c.requires.later;
      others = λ i side. ap (λ (l : Lists). var_at l.vars i) same;
      filled = ap (λ (l : Lists). l.filled) same;
    }

pub drop_spare-requires-clause-inside : goal.drop_spare-requires-clause-inside
drop_spare-requires-clause-inside c =
    let inside = c.loop-x.invariant.inside in
    omega (arith, inside)

pub drop_spare-requires-clause-later : goal.drop_spare-requires-clause-later
drop_spare-requires-clause-later c i low w s = c.loop-x.invariant.needed i (omega (arith, low)) w s

pub loop-x-preserved : goal.loop-x-preserved
loop-x-preserved c =
    let was = c.loop-x.invariant in
    let plainer = c.in_ok-drop_spare.ensures.plainer in
    let inside = was.inside in
    let high = was.high in
    let same = plainer.same in
    record {
      fitting = c.in_ok-drop_spare.ensures.fitting;
      low = omega arith;
      inside = omega (arith, inside, same);
      high = omega (arith, high);
      plainer = plainer_twice c.args.self.now.vars c.loop-x.new.vars c.drop_spare.new.self.vars was.plainer plainer;
      needed = c.in_ok-drop_spare.ensures.needed;
      others = λ i side.
          let here = c.loop-x.x in
          let apart : i ≢ (here - 1) = λ e. elim side [ inl b ↦ omega (arith, b, e) | inr le ↦ omega (arith, le, e, high) ] in
          let wide : (i < here) ⊎ (c.args.high ≤ i) = elim side [ inl b ↦ inl (omega (arith, b)) | inr le ↦ inr le ] in
          c.in_ok-drop_spare.ensures.others i apart ∙ was.others i wide;
      filled = c.in_ok-drop_spare.ensures.filled ∙ was.filled;
    }

pub returns-clause-decided : goal.returns-clause-decided
returns-clause-decided c =
    let new = c.loop-x.new in
    let f = c.loop-x.invariant.fitting in
    let a : Lists = record { vars = new.vars; best = new.best; kin = new.kin; filled = new.filled; alive = c.have_entries.result } in
    let still : AreFitting a = record { order = f.order; same = f.same; best = f.best; linked = f.linked; small = f.small; filled = f.filled; fit = f.fit } in
    fitting_decided a still c.have_entries.ensures

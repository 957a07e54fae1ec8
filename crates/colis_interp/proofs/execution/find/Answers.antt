use Rattle.std.proofs.Common.{arith, refl, ◌∙◌, true, false, ◌≡◌}
use Rattle.colis_interp.proofs.Weight.{found_here, found_lower}
use Rattle.colis_interp.proofs.execution.find.Goals as goal

pub returns-then-equal-clause-some : goal.returns-then-equal-clause-some
returns-then-equal-clause-some c =
    λ d. c.loop-end.invariant.1 ∙ found_here c.args.defs.now c.loop-end.end d c.index-defs-end.result c.args.name.now c.loop-end-test.true c.loop-end.invariant.0 (c.if-equal.ensures.0 refl)

pub loop-end-preserved : goal.loop-end-preserved
loop-end-preserved c = (
  omega (arith, c.loop-end.invariant.0),
  c.loop-end.invariant.1 ∙ found_lower c.args.defs.now c.loop-end.end c.index-defs-end.result c.args.name.now c.loop-end-test.true c.loop-end.invariant.0 (λ e. let h : false ≡ true = c.if-equal.ensures.1 e in absurd (cc)),
)

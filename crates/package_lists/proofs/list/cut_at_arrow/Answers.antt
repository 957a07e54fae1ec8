use Rattle.std.proofs.Common.{sym, ◌∙◌, arith}
use Rattle.package_lists.proofs.Arrows.{found_arrow, passed_byte}
use Rattle.package_lists.proofs.list.cut_at_arrow.Goals as goal

pub returns-then-starts_with : goal.returns-then-starts_with
returns-then-starts_with c =
    found_arrow c.args.line.now c.loop-i.i c.loop-i-test.true (sym c.starts_with.ensures.value ∙ c.if-starts_with.true) c.loop-i.invariant.0

pub loop-i-preserved : goal.loop-i-preserved
loop-i-preserved c = (
  passed_byte c.args.line.now c.loop-i.i c.loop-i-test.true (sym c.starts_with.ensures.value ∙ c.if-starts_with.false) c.loop-i.invariant.0,
  omega (arith, c.loop-i-test.true),
)

use Rattle.std.proofs.Common.{sym, ◌∙◌, arith}
use Rattle.package_lists.proofs.Trims.{blank_goes, other_stays}
use Rattle.package_lists.proofs.control.before_blanks.Goals as goal

pub returns-then-not-is_blank : goal.returns-then-not-is_blank
returns-then-not-is_blank c =
    sym (c.loop-end.invariant.rest
    ∙ other_stays c.args.bytes.now c.loop-end.end c.loop-end-test.true c.loop-end.invariant.within (sym c.is_blank.ensures ∙ c.if-not-is_blank.true))

pub loop-end-preserved : goal.loop-end-preserved
loop-end-preserved c = record {
  rest = c.loop-end.invariant.rest
      ∙ blank_goes c.args.bytes.now c.loop-end.end c.loop-end-test.true c.loop-end.invariant.within (sym c.is_blank.ensures ∙ c.if-not-is_blank.false);
  within = omega (arith, c.loop-end.invariant.within);
}

use Rattle.std.proofs.Common.{arith, refl}
use Rattle.shell_parser.proofs.Lists.{newline_more, newlines_end}
use Rattle.shell_parser.proofs.tokens.newlines.Goals as goal

pub loop-now-preserved : goal.loop-now-preserved
loop-now-preserved c = (omega (arith, c.loop-now.invariant.0), omega (arith, c.stands.ensures.inside c.loop-now-test.true), λ q x. c.loop-now.invariant.2 q (newline_more c.args.ts.now c.loop-now.now q (c.stands.ensures.looks.0 c.loop-now-test.true) x))

pub returns : goal.returns
returns c = (c.loop-now.invariant.0, c.loop-now.invariant.1, c.loop-now.invariant.2 _ (newlines_end _ _ refl (λ q. let t = c.stands.ensures.looks.1 q in let f = c.loop-now-test.false in cc)))

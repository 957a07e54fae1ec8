use Rattle.std.proofs.Common.{arith}
use Rattle.shell_parser.proofs.Loops.{arm_paren, arm_plain}
use Rattle.shell_parser.proofs.tokens.arm_begin.Goals as goal

pub returns-then-stands : goal.returns-then-stands
returns-then-stands c = (omega arith, omega (arith, c.stands.ensures.inside c.if-stands.true), arm_paren c.args.ts.now c.args.at (c.stands.ensures.looks.0 c.if-stands.true))

pub returns : goal.returns
returns c = (omega arith, c.requires, arm_plain _ (λ q. let t = c.stands.ensures.looks.1 q in let f = c.if-stands.false in cc))

use Rattle.std.proofs.Common.{arith}
use Rattle.shell_parser.proofs.Loops.{words_semi, words_none}
use Rattle.shell_parser.proofs.tokens.no_words.Goals as goal

pub returns-then-stands : goal.returns-then-stands
returns-then-stands c = (omega (arith, c.newlines.ensures.0), c.newlines.ensures.1, words_semi c.args.ts.now c.args.at _ (c.stands.ensures.looks.0 c.if-stands.true) c.newlines.ensures.2)

pub returns : goal.returns
returns c = (omega arith, c.requires.within, words_none _ c.requires.looks (λ q. let t = c.stands.ensures.looks.1 q in let f = c.if-stands.false in cc))

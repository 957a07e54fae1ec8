use Rattle.std.proofs.Common.{◌∙◌, sym, arith}
use Rattle.shell_parser.proofs.Loops.{apart_ok, apart_none}
use Rattle.shell_parser.proofs.tokens.apart.Goals as goal

pub returns-then-separates : goal.returns-then-separates
returns-then-separates c = (omega (arith, c.newlines.ensures.0), c.newlines.ensures.1, apart_ok c.args.ts.now c.args.at _ (sym c.separates.ensures.looks ∙ c.if-separates.true) c.newlines.ensures.2)

pub returns : goal.returns
returns c = apart_none _ _ (sym c.separates.ensures.looks ∙ c.if-separates.false) c.place.ensures

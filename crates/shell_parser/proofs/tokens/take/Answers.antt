use Rattle.shell_parser.proofs.Steps.{takes_ok, takes_err}
use Rattle.shell_parser.proofs.tokens.take.Goals as goal

pub returns-then-stands : goal.returns-then-stands
returns-then-stands c = takes_ok c.args.ts.now c.args.at c.args.want (c.stands.ensures.inside c.if-stands.true) (c.stands.ensures.looks.0 c.if-stands.true)

pub returns : goal.returns
returns c = takes_err c.args.ts.now c.args.at c.place.result c.args.want (λ q. let t = c.stands.ensures.looks.1 q in let f = c.if-stands.false in cc) c.place.ensures

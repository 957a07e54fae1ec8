use Rattle.std.proofs.Common.{ap, arith}
use Rattle.shell_grammar.specs.Spelling.{deep_64}
use Rattle.shell_parser.proofs.Steps.{opens_ok, opens_err, opens_deep, shallow}
use Rattle.shell_parser.proofs.tokens.opens.Goals as goal

pub returns-then-not-stands-clause-takes : goal.returns-then-not-stands-clause-takes
returns-then-not-stands-clause-takes c = opens_err c.args.ts.now c.args.at c.place.result c.args.want (λ q. let t = c.stands.ensures.looks.1 q in let f = c.if-not-stands.true in cc) c.place.ensures

pub returns-then-level-eq-MAX_LEVELS-clause-takes : goal.returns-then-level-eq-MAX_LEVELS-clause-takes
returns-then-level-eq-MAX_LEVELS-clause-takes c = opens_deep c.args.ts.now c.args.at c.place-then-level-eq-MAX_LEVELS.result c.args.want (c.stands.ensures.looks.0 c.if-not-stands.false) (ap deep_64 c.if-level-eq-MAX_LEVELS.true) c.place-then-level-eq-MAX_LEVELS.ensures

pub returns-clause-takes : goal.returns-clause-takes
returns-clause-takes c = opens_ok c.args.ts.now c.args.at c.args.want (c.stands.ensures.inside c.if-not-stands.false) (c.stands.ensures.looks.0 c.if-not-stands.false) (shallow c.args.level (omega (arith, c.if-level-eq-MAX_LEVELS.false, c.requires.shallow)))

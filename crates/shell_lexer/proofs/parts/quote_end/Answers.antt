use Rattle.shell_lexer.proofs.Quotes.{quote_goes_on}
use Rattle.shell_lexer.proofs.parts.quote_end.Goals as goal

pub loop-place-preserved : goal.loop-place-preserved
loop-place-preserved c = quote_goes_on c.args.text.now c.args.at c.loop-place.place c.loop-place-test.true c.if-text-place-eq39.false c.loop-place.invariant

use Rattle.std.proofs.Common.{◌∙◌, drop, ◌+◌, get_or}
use Rattle.shell_lexer.proofs.Pieces.{dollar_front, other_dollar}
use Rattle.shell_lexer.proofs.parts.dollar_part.Goals as goal

pub returns-in_default-clause-gives : goal.returns-in_default-clause-gives
returns-in_default-clause-gives c = other_dollar c.args.quoted c.args.dollar (drop (c.args.dollar + 1) c.args.text.now) (get_or c.args.text.now c.skip-here.result 0) (drop (c.skip-here.result + 1) c.args.text.now) c.kind_of.result c.in_default.not-Open c.in_default.not-Brace c.in_default.not-Name c.in_default.not-Digit c.in_default.not-Hash c.in_default.not-At c.in_default.not-Special c.in_default.not-Dollar c.in_default.not-Single c.in_default.not-Double
    ∙ dollar_front c.args.text.now c.args.quoted c.args.dollar (c.args.dollar + 1) c.skip-here.result c.kind_of.result (record { within = c.skip-here.ensures.within; on = c.skip-here.ensures.on; skips = c.skip-here.ensures.skips }) c.if-here-text.false c.kind_of.ensures

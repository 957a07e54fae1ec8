use Rattle.std.proofs.Common.{◌∙◌, ap, drop, ◌+◌, get_or}
use Rattle.shell_lexer.specs.Seen.{seen_look}
use Rattle.shell_lexer.proofs.Pieces.{braced_front, other_braced}
use Rattle.shell_lexer.proofs.parts.braced.Goals as goal

pub returns-in_default-clause-gives : goal.returns-in_default-clause-gives
returns-in_default-clause-gives c = ap (seen_look c.args.text.now) c.unsupported-in_default.ensures
    ∙ other_braced c.args.quoted c.args.dollar (get_or c.args.text.now c.skip-here.result 0) (drop (c.skip-here.result + 1) c.args.text.now) c.kind_of.result c.in_default.not-Name c.in_default.not-Digit c.in_default.not-Hash
    ∙ braced_front c.args.text.now c.args.quoted c.args.dollar c.args.at c.skip-here.result c.kind_of.result (record { within = c.skip-here.ensures.within; on = c.skip-here.ensures.on; skips = c.skip-here.ensures.skips }) c.if-here-text.false c.kind_of.ensures

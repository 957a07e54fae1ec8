use Rattle.std.proofs.Common.{◌∙◌, drop, ◌+◌, get_or}
use Rattle.shell_lexer.specs.declared.byte_kind.ByteKind.TheVariants as kinds
use Rattle.shell_lexer.proofs.Pieces.{inner_front, other_inner, seen_ok}
use Rattle.shell_lexer.proofs.parts.inner.Goals as goal

pub returns-in-Dollar-clause-gives : goal.returns-in-Dollar-clause-gives
returns-in-Dollar-clause-gives c = seen_ok c.dollar_part.result c.args.text.now _ _ (inner_front c.args.text.now c.args.at kinds.Dollar c.if-at-text.false c.in-Dollar.ensures) c.dollar_part.ensures.gives

pub returns-in_default-clause-gives : goal.returns-in_default-clause-gives
returns-in_default-clause-gives c = other_inner c.args.at (get_or c.args.text.now c.args.at 0) (drop (c.args.at + 1) c.args.text.now) c.kind_of.result c.in_default.not-Double c.in_default.not-Back c.in_default.not-Tick c.in_default.not-Dollar
    ∙ inner_front c.args.text.now c.args.at c.kind_of.result c.if-at-text.false c.kind_of.ensures

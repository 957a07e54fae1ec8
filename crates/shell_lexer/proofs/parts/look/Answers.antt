use Rattle.std.proofs.Common.{◌∙◌, drop, ◌+◌, get_or}
use Rattle.shell_lexer.specs.declared.byte_kind.ByteKind.TheVariants as kinds
use Rattle.shell_lexer.specs.Parts as table
use Rattle.shell_lexer.proofs.Pieces.{look_front, other_byte, seen_ok, seen_any}
use Rattle.shell_lexer.proofs.parts.look.Goals as goal

pub returns-in-Single-clause-gives : goal.returns-in-Single-clause-gives
returns-in-Single-clause-gives c = seen_any c.single.result c.args.text.now (λ b. table.look_by c.args.at b kinds.Single (drop (c.args.at + 1) c.args.text.now)) _ (get_or c.args.text.now c.args.at 0) (look_front c.args.text.now c.args.at kinds.Single c.if-at-text.false c.in-Single.ensures) c.single.ensures.gives

pub returns-in-Back-clause-gives : goal.returns-in-Back-clause-gives
returns-in-Back-clause-gives c = seen_ok c.escaped.result c.args.text.now _ _ (look_front c.args.text.now c.args.at kinds.Back c.if-at-text.false c.in-Back.ensures) c.escaped.ensures.gives

pub returns-in-Dollar-clause-gives : goal.returns-in-Dollar-clause-gives
returns-in-Dollar-clause-gives c = seen_ok c.dollar_part.result c.args.text.now _ _ (look_front c.args.text.now c.args.at kinds.Dollar c.if-at-text.false c.in-Dollar.ensures) c.dollar_part.ensures.gives

pub returns-in_default-clause-gives : goal.returns-in_default-clause-gives
returns-in_default-clause-gives c = other_byte c.args.at (get_or c.args.text.now c.args.at 0) (drop (c.args.at + 1) c.args.text.now) c.kind_of.result c.in_default.not-Blank c.in_default.not-Newline c.in_default.not-Semi c.in_default.not-Amp c.in_default.not-Bar c.in_default.not-Open c.in_default.not-Close c.in_default.not-Less c.in_default.not-Greater c.in_default.not-Single c.in_default.not-Double c.in_default.not-Back c.in_default.not-Tick c.in_default.not-Dollar
    ∙ look_front c.args.text.now c.args.at c.kind_of.result c.if-at-text.false c.kind_of.ensures

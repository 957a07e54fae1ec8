use Rattle.std.proofs.Common.{arith}
use Rattle.shell_lexer.proofs.Pieces.{escaped_one}
use Rattle.shell_lexer.proofs.parts.escaped.Goals as goal

pub returns-clause-gives : goal.returns-clause-gives
returns-clause-gives c = escaped_one c.args.text.now _ _ _ _ c.args.byte c.if-at-text.false c.in_ok-body.ensures (omega arith) (omega arith)

use Rattle.std.proofs.Common.{◌∙◌, drop}
use Rattle.shell_lexer.specs.Text.{skip}
use Rattle.shell_lexer.proofs.Pieces.{key_colon, key_plain, seen_ok}
use Rattle.shell_lexer.proofs.parts.behind_key.Goals as goal

pub returns-in-Some-clause-gives : goal.returns-in-Some-clause-gives
returns-in-Some-clause-gives c = seen_ok c.behind_colon.result c.args.text.now _ _ (key_colon c.args.quoted c.args.dollar c.args.key (skip (drop c.args.at c.args.text.now)) _ c.in-Some.ensures.2 c.in-Some.ensures.3) c.behind_colon.ensures.gives

pub returns-in-None-clause-gives : goal.returns-in-None-clause-gives
returns-in-None-clause-gives c = c.closed.ensures.gives ∙ key_plain c.args.quoted c.args.dollar c.args.key (skip (drop c.args.at c.args.text.now)) c.in-None.ensures

use Rattle.std.proofs.Common.{◌≡◌, take}
use Rattle.shell_lexer.proofs.copies.+copying.Given as goal

abbrev pub invariant-copy_parts-loop-part : goal.invariant-copy_parts-loop-part
invariant-copy_parts-loop-part l = l.twins ≡ take l.part-index l.parts

abbrev pub invariant-copy_tokens-loop-token : goal.invariant-copy_tokens-loop-token
invariant-copy_tokens-loop-token l = l.twins ≡ take l.token-index l.tokens

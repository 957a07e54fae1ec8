use Rattle.std.proofs.Common.{◌≡◌, take}
use Rattle.std.specs.Prelude.{not}
use Rattle.std.specs.List.{filter}
use Rattle.explanation.specs.CommandWords.{is_quote}
use Rattle.explanation.proofs.text_words.without_quotes.Given as goal

abbrev pub invariant-loop-byte : goal.invariant-loop-byte
invariant-loop-byte l = l.bytes ≡ filter (λ b. not (is_quote b)) (take l.byte-index l.lines)

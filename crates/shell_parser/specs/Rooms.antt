-- What is to have room before it is read.
use Rattle.std.specs.Prelude.{ℕ, ◌+◌, List, [], ◌∷◌, Option, Some, None}
use Rattle.shell_lexer.specs.declared.token.RawPart.{RawPart}
use Rattle.shell_grammar.specs.Look.{Tokens, word}

-- one word more, where a word stands there
abbrev pub one_more_word : Option (List RawPart) → ℕ → ℕ
one_more_word None others = 0
one_more_word (Some parts) others = 1 + others

-- how many words stand in a row before any other token
abbrev pub words_in_row : Tokens → ℕ
words_in_row [] = 0
words_in_row (t ∷ ts) = one_more_word (word (t ∷ ts)) (words_in_row ts)

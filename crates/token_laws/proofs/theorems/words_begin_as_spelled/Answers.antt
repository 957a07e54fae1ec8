use Rattle.token_laws.proofs.SpelledBegins.{passed_is, passed_seen, begin_is, begin_seen}
use Rattle.token_laws.proofs.theorems.words_begin_as_spelled.Goals as goal

pub returns-clause-passed : goal.returns-clause-passed
returns-clause-passed c = λ len text rest. (passed_is len text rest, passed_seen len text rest)

pub returns-clause-words : goal.returns-clause-words
returns-clause-words c = λ len text. (begin_is len text, begin_seen len text)

use Rattle.shell_rules.proofs.Trimming.{trimmed_is, is_trimmed}
use Rattle.shell_rules.proofs.PatternMatches.{passes_matches, matches_passes}
use Rattle.shell_rules.proofs.theorems.words_agree.Goals as goal

pub returns-clause-trimmed : goal.returns-clause-trimmed
returns-clause-trimmed c = λ text left. (trimmed_is text left, is_trimmed text left)

pub returns-clause-patterns : goal.returns-clause-patterns
returns-clause-patterns c = λ pattern text. (passes_matches pattern text, matches_passes pattern text)

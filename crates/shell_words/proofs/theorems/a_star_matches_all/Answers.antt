use Rattle.shell_words.proofs.PlainPatterns.{star-matches-all}
use Rattle.shell_words.proofs.theorems.a_star_matches_all.Goals as goal

pub returns : goal.returns
returns c = star-matches-all

use Rattle.shell_words.proofs.PlainPatterns.{quoted-matches-itself, plain-matches-itself}
use Rattle.shell_words.proofs.theorems.patterns_match_themselves.Goals as goal

pub returns : goal.returns
returns c = record { quoted = quoted-matches-itself; plain = plain-matches-itself }

use Rattle.token_laws.proofs.LongestRuns.{plain_longest, quoted_longest}
use Rattle.token_laws.proofs.theorems.runs_are_longest.Goals as goal

pub returns-clause-plain : goal.returns-clause-plain
returns-clause-plain c = plain_longest

pub returns-clause-quoted : goal.returns-clause-quoted
returns-clause-quoted c = quoted_longest

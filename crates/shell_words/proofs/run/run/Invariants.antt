use Rattle.std.proofs.Common.{◌≤◌, ◌+◌, ◌-◌, drop, length}
use Rattle.shell_words.specs.Patterns.{Matches}
use Rattle.shell_words.proofs.Matching.{Left}
use Rattle.shell_words.proofs.run.run.Given as goal

abbrev pub invariant-tries : goal.invariant-tries
invariant-tries l = record {
  items_within : l.from ≤ length l.items;
  text_within : l.at ≤ length l.subject;
  only : Matches l.items l.subject → Left l.behind_star (drop l.from l.items) (drop l.at l.subject);
  enough : Left l.behind_star (drop l.from l.items) (drop l.at l.subject) → Matches l.items l.subject;
}

abbrev pub decreases-tries : goal.decreases-tries
decreases-tries l = (length l.items - l.from) + (length l.subject - l.at)

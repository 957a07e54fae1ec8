use Rattle.std.proofs.Common.{◌≡◌, ◌≤◌, None, drop, length}
use Rattle.shell_words.specs.Patterns.{closes_at}
use Rattle.shell_words.proofs.pattern.after_last_close.Given as goal

abbrev pub invariant-loop-last : goal.invariant-loop-last
invariant-loop-last l = record {
  within : l.last ≤ length l.letters;
  none : closes_at (drop l.last l.letters) ≡ None;
}

abbrev pub decreases-loop-last : goal.decreases-loop-last
decreases-loop-last l = l.last

use Rattle.std.proofs.Common.{◌≡◌, ◌≤◌, ◌-◌, ◌++◌, drop, length}
use Rattle.shell_words.specs.Patterns.{items}
use Rattle.shell_words.proofs.pattern.items.Given as goal

abbrev pub invariant-loop-at : goal.invariant-loop-at
invariant-loop-at l = record {
  within : l.at ≤ length l.letters;
  left : l.out ++ items (drop l.at l.letters) ≡ items l.letters;
}

abbrev pub decreases-loop-at : goal.decreases-loop-at
decreases-loop-at l = length l.letters - l.at

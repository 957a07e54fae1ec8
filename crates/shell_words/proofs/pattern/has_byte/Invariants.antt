use Rattle.std.proofs.Common.{◌≡◌, ◌≤◌, ◌-◌, drop, length}
use Rattle.std.specs.List.{list_any}
use Rattle.shell_words.specs.Patterns.{ranges, is_within}
use Rattle.shell_words.proofs.pattern.has_byte.Given as goal

abbrev pub invariant-loop-at : goal.invariant-loop-at
invariant-loop-at l = record {
  within : l.at ≤ length l.letters;
  left : list_any (is_within l.byte) (ranges (drop l.at l.letters)) ≡ list_any (is_within l.byte) (ranges l.letters);
}

abbrev pub decreases-loop-at : goal.decreases-loop-at
decreases-loop-at l = length l.letters - l.at

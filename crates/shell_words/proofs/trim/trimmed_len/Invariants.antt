use Rattle.std.proofs.Common.{◌≡◌, ◌≤◌, ◌-◌, drop, length, replicate}
use Rattle.shell_words.proofs.trim.trimmed_len.Given as goal

abbrev pub invariant-loop-end : goal.invariant-loop-end
invariant-loop-end l = record {
  within : l.end ≤ length l.bytes;
  newlines : drop l.end l.bytes ≡ replicate (length l.bytes - l.end) 10;
}

abbrev pub decreases-loop-end : goal.decreases-loop-end
decreases-loop-end l = l.end

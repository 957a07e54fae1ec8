use Rattle.std.proofs.Common.{◌≡◌, ◌≤◌, length, take}
use Rattle.package_lists.specs.Control.{before_blanks}
use Rattle.package_lists.proofs.control.before_blanks.Given as goal

abbrev pub invariant-loop-end : goal.invariant-loop-end
invariant-loop-end l = record {
  rest : before_blanks l.bytes ≡ before_blanks (take l.end l.bytes);
  within : l.end ≤ length l.bytes;
}

abbrev pub decreases-loop-end : goal.decreases-loop-end
decreases-loop-end l = l.end

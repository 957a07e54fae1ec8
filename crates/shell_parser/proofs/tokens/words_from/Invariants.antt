use Rattle.std.proofs.Common.{◌≡◌, length, ◌+◌, ◌-◌, ◌≤◌, drop}
use Rattle.shell_parser.specs.Rooms.{words_in_row}
use Rattle.shell_parser.proofs.tokens.words_from.Given as goal

abbrev pub invariant-loop-now : goal.invariant-loop-now
invariant-loop-now l =
    (l.fn.at ≤ l.now) × (l.now ≤ length l.ts) × ((l.now - l.fn.at) + words_in_row (drop l.now l.ts) ≡ words_in_row (drop l.fn.at l.ts))

abbrev pub decreases-loop-now : goal.decreases-loop-now
decreases-loop-now l = length l.ts - l.now

use Rattle.std.proofs.Common.{◌≡◌, ◌+◌, drop, option_map}
use Rattle.shell_words.specs.Patterns.{closes_at}
use Rattle.shell_words.proofs.pattern.closes_at.Given as goal

abbrev pub invariant-loop-at : goal.invariant-loop-at
invariant-loop-at l = option_map (λ n. l.at + n) (closes_at (drop l.at l.rest)) ≡ closes_at l.rest

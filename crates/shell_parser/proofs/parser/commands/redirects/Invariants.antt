use Rattle.std.proofs.Common.{length, ◌-◌, ◌≤◌, drop}
use Rattle.shell_parser.specs.Reads.{RedirectsFrom}
use Rattle.shell_parser.proofs.parser.commands.redirects.Given as goal

abbrev pub invariant-loop-now : goal.invariant-loop-now
invariant-loop-now l = (l.fn.at ≤ l.now) × (l.now ≤ length l.ts) × RedirectsFrom l.level l.end (drop l.fn.at l.ts) (drop l.now l.ts) l.all

abbrev pub decreases-loop-now : goal.decreases-loop-now
decreases-loop-now l = length l.ts - l.now

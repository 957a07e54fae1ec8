use Rattle.std.proofs.Common.{length, ◌-◌, ◌≤◌, drop}
use Rattle.shell_grammar.specs.Grammar.{Newlines}
use Rattle.shell_grammar.specs.Reading.{Out, IsRule}
use Rattle.shell_grammar.specs.Spelling.{deep_64}
use Rattle.shell_parser.proofs.tokens.newlines.Given as goal

abbrev pub invariant-loop-now : goal.invariant-loop-now
invariant-loop-now l = (l.fn.at ≤ l.now) × (l.now ≤ length l.ts) × ((q : Out (Unit {0})) → IsRule deep_64 l.level l.end Newlines (drop l.now l.ts) q → IsRule deep_64 l.level l.end Newlines (drop l.fn.at l.ts) q)

abbrev pub decreases-loop-now : goal.decreases-loop-now
decreases-loop-now l = length l.ts - l.now

use Rattle.std.proofs.Common.{◌≤◌, length}
use Rattle.shell_words.specs.Runs.{Stands}
use Rattle.shell_words.proofs.run.reached.Given as goal

abbrev pub invariant-loop-n : goal.invariant-loop-n
invariant-loop-n l = record {
  within : l.n ≤ length l.text;
  stands : Stands l.n l.items l.text;
}

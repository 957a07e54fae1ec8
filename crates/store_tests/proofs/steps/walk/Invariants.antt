use Rattle.std.proofs.Common.{◌<◌}
use Rattle.store_tests.proofs.steps.walk.Given as goal

abbrev pub invariant-loop-word : goal.invariant-loop-word
invariant-loop-word l = l.here.0 < l.s.count

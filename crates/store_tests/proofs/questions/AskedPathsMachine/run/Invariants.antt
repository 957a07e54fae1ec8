use Rattle.std.proofs.Common.{◌≡◌, drop, []}
use Rattle.utility_calls.specs.Walks.{world, fresh, walk}
use Rattle.store_tests.specs.Questions.{asked_from}
use Rattle.store_tests.proofs.questions.AskedPathsMachine.run.Given as goal

abbrev pub invariant-loop-path : goal.invariant-loop-path
invariant-loop-path l = walk (asked_from (drop l.path-index l.paths)) (world l.tree l.start) l.marks l.deeds ≡ walk (asked_from l.self.paths) (fresh l.start) [] []

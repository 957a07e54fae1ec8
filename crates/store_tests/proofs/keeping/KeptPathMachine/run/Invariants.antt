use Rattle.std.proofs.Common.{◌≡◌, drop, []}
use Rattle.utility_calls.specs.Walks.{fresh, walk}
use Rattle.store_tests.specs.Keeping.{steps_from, all_steps, walked}
use Rattle.store_tests.proofs.keeping.KeptPathMachine.run.Given as goal

abbrev pub invariant-loop-step : goal.invariant-loop-step
invariant-loop-step l = walked (steps_from l.self.path (drop l.step-index l.steps) l.answer) l.at ≡ walk (all_steps l.self) (fresh l.start) [] []

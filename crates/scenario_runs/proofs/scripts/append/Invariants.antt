use Rattle.std.proofs.Common.{◌≡◌, ◌++◌, map}
use Rattle.utility_calls.specs.declared.deeds.Deed.TheVariants.{Does}
use Rattle.scenario_runs.proofs.scripts.append.Given as goal

abbrev pub invariant-loop-a : goal.invariant-loop-a
invariant-loop-a l = l.fn.deeds ++ map Does l.fn.acts ≡ l.deeds ++ map Does l.a-iterator.rest.items

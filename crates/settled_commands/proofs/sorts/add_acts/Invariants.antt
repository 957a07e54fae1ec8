use Rattle.std.proofs.Common.{◌≡◌, ◌++◌, take}
use Rattle.std.specs.List.{flat_map}
use Rattle.settled_commands.specs.Sorts.{act_known}
use Rattle.settled_commands.proofs.sorts.add_acts.Given as goal

abbrev pub invariant-loop-act : goal.invariant-loop-act
invariant-loop-act l = l.known ≡ l.initial.known ++ flat_map (act_known l.links) (take l.act-index l.acts)

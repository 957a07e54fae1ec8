use Rattle.std.proofs.Common.{◌≡◌, ◌++◌, take}
use Rattle.std.specs.List.{flat_map}
use Rattle.settled_commands.specs.Sorts.{command_known}
use Rattle.settled_commands.proofs.sorts.add_sorts.Given as goal

abbrev pub invariant-loop-fields : goal.invariant-loop-fields
invariant-loop-fields l = l.known ≡ l.initial.known ++ flat_map (command_known l.base) (take l.fields-index l.commands)

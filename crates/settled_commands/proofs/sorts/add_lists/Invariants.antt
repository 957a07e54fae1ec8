use Rattle.std.proofs.Common.{◌≡◌, ◌++◌, take}
use Rattle.std.specs.List.{flat_map}
use Rattle.settled_commands.specs.Sorts.{act_known}
use Rattle.settled_commands.proofs.sorts.add_lists.Given as goal

abbrev pub invariant-loop-acts : goal.invariant-loop-acts
invariant-loop-acts l = l.known ≡ l.initial.known ++ flat_map (act_known l.links) (flat_map (λ acts. acts) (take l.acts-index l.lists))

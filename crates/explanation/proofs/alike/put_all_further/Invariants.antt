use Rattle.std.proofs.Common.{◌≡◌, ◌++◌, take}
use Rattle.std.specs.List.{flat_map}
use Rattle.explanation.specs.AlikeGroups.{further_unless}
use Rattle.explanation.proofs.alike.put_all_further.Given as goal

abbrev pub invariant-loop-other : goal.invariant-loop-other
invariant-loop-other l =
    l.text ≡ l.initial.text ++ flat_map (further_unless l.sources l.scenario l.group) (take l.other-index l.groups)

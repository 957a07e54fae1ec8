use Rattle.std.proofs.Common.{◌≡◌, ◌++◌, length}
use Rattle.std.specs.List.{flat_map}
use Rattle.explanation.specs.FactTexts.{name_text, once}
use Rattle.explanation.proofs.facts_text.put_names.Given as goal

abbrev pub invariant-loop-left : goal.invariant-loop-left
invariant-loop-left l =
    l.text ++ flat_map name_text (once l.left) ≡ l.initial.text ++ flat_map name_text (once l.names)

abbrev pub decreases-loop-left : goal.decreases-loop-left
decreases-loop-left l = length l.left

use Rattle.std.proofs.Common.{◌≡◌, ◌++◌, take}
use Rattle.std.specs.List.{flat_map}
use Rattle.explanation.specs.ToldTexts.{or_box}
use Rattle.explanation.proofs.told_text.put_or_boxes.Given as goal

abbrev pub invariant-loop-facts : goal.invariant-loop-facts
invariant-loop-facts l = l.text ≡ l.initial.text ++ flat_map or_box (take l.facts-index l.boxes)

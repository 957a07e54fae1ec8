use Rattle.std.proofs.Common.{◌≡◌, ◌++◌, take}
use Rattle.std.specs.List.{flat_map}
use Rattle.checker_calls.specs.Explanations.{section_item}
use Rattle.checker_calls.proofs.explanations.put_section_items.Given as goal

abbrev pub invariant-loop-section : goal.invariant-loop-section
invariant-loop-section l = l.text ≡ l.initial.text ++ flat_map section_item (take l.section-index l.sections)

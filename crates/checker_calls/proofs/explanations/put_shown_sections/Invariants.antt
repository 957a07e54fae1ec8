use Rattle.std.proofs.Common.{◌≡◌, ◌++◌, take}
use Rattle.std.specs.List.{flat_map}
use Rattle.checker_calls.specs.Explanations.{section_shown}
use Rattle.checker_calls.proofs.explanations.put_shown_sections.Given as goal

abbrev pub invariant-loop-section : goal.invariant-loop-section
invariant-loop-section l =
    l.text ≡ l.initial.text ++ flat_map (section_shown l.packages l.sources l.turns) (take l.section-index l.sections)

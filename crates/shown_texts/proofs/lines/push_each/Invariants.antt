use Rattle.std.proofs.Common.{◌≡◌, ◌++◌, take}
use Rattle.std.specs.List.{flat_map}
use Rattle.shown_texts.specs.Lines.{line}
use Rattle.shown_texts.proofs.lines.push_each.Given as goal

abbrev pub invariant-loop-content : goal.invariant-loop-content
invariant-loop-content l = l.text ≡ l.initial.text ++ flat_map line (take l.content-index l.lines)

use Rattle.std.proofs.Common.{◌≡◌, take}
use Rattle.std.specs.List.{flat_map}
use Rattle.explanation.specs.StatedTexts.{named_text}
use Rattle.explanation.proofs.stated_text.named_texts.Given as goal

abbrev pub invariant-loop-stated : goal.invariant-loop-stated
invariant-loop-stated l = l.names ≡ flat_map (named_text l.words) (take l.stated-index l.calls)

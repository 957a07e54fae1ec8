use Rattle.std.proofs.Common.{take}
use Rattle.prediction_text.specs.Adding.{AddsParts}
use Rattle.prediction_text.proofs.predicted.put_parts.Given as goal

abbrev pub invariant-loop-part : goal.invariant-loop-part
invariant-loop-part g l = AddsParts l.trees (take l.part-index l.parts) l.initial.text l.text

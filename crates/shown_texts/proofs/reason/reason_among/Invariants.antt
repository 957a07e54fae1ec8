use Rattle.std.proofs.Common.{◌≡◌, drop}
use Rattle.shown_texts.specs.Marks.{reason_among}
use Rattle.shown_texts.proofs.reason.reason_among.Given as goal

abbrev pub invariant-loop-reason : goal.invariant-loop-reason
invariant-loop-reason l = reason_among (drop l.reason-index l.reasons) l.name ≡ reason_among l.reasons l.name

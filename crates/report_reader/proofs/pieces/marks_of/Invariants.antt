use Rattle.std.proofs.Common.{◌≡◌, [], drop, map}
use Rattle.report_text.specs.PieceRead.{marks_onto}
use Rattle.report_reader.proofs.pieces.marks_of.Given as goal

abbrev pub invariant-loop-text : goal.invariant-loop-text
invariant-loop-text l = marks_onto l.marks (map (λ text. text.now) (drop l.text-index l.texts)) ≡ marks_onto [] (map (λ text. text.now) l.texts)

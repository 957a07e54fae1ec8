use Rattle.std.proofs.Common.{◌≡◌, [], length, map}
use Rattle.report_text.specs.PieceRead.{call_with}
use Rattle.report_reader.proofs.pieces.call_with.Given as goal

abbrev pub invariant-loop-left : goal.invariant-loop-left
invariant-loop-left l =
    call_with l.side l.script l.words (map (λ text. text.now) l.left) ≡ call_with l.side l.script [] (map (λ text. text.now) l.texts)

abbrev pub decreases-loop-left : goal.decreases-loop-left
decreases-loop-left l = length l.left

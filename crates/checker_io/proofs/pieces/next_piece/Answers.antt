use Rattle.checker_io.proofs.Sinks.{piece_is}
use Rattle.checker_io.proofs.pieces.next_piece.Goals as goal

pub returns : goal.returns
returns c = rw c.min-size.ensures (piece_is c.args.done c.args.text.now)

use Rattle.std.proofs.Common.{◌≡◌, map, drop}
use Rattle.colis_meaning.specs.Meaning.{co_piece, all_static}
use Rattle.colis_interp.proofs.spelling.all_static.Given as goal

abbrev pub invariant-loop-piece : goal.invariant-loop-piece
invariant-loop-piece l = all_static (map co_piece l.pieces) ≡ all_static (map co_piece (drop l.piece-index l.pieces))

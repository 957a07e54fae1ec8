use Rattle.std.proofs.Common.{◌≡◌, drop, map}
use Rattle.std.specs.List.{list_any}
use Rattle.std.specs.Str.{bytes_eq}
use Rattle.tree_clauses.proofs.read.has_word.Given as goal

abbrev pub invariant-loop-piece : goal.invariant-loop-piece
invariant-loop-piece l = list_any (λ piece. bytes_eq piece l.word) (map (λ piece. piece.now) (drop l.piece-index l.pieces)) ≡ list_any (λ piece. bytes_eq piece l.word) (map (λ piece. piece.now) l.pieces)

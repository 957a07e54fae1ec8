use Rattle.std.proofs.Common.{◌≡◌, drop, map}
use Rattle.shown_texts.specs.Paths.{names_onto}
use Rattle.tree_clauses.specs.ClauseRead.{names_of}
use Rattle.tree_clauses.proofs.read.read_names.Given as goal

abbrev pub invariant-loop-piece : goal.invariant-loop-piece
invariant-loop-piece l = names_onto l.names (map (λ piece. piece.now) (drop l.piece-index l.piece-items)) ≡ names_of l.text

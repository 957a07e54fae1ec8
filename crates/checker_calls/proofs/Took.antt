-- What a sink took that took nothing, or all.
use Rattle.std.proofs.Common.{◌++◌, List, [], length, ℕ, Option, Some, None, Result, Ok, Err, sym, ap, ◌∙◌, append-nil}
use Rattle.std.proofs.lemmas.Grind.{common_steps}
use Rattle.std.proofs.Common.{arith}
use Rattle.checker_io.specs.declared.sink.SinkFault.{SinkFault}
use Rattle.checker_io.specs.Sink.{Took, TookPrefix}
use Rattle.checker_io.specs.Pieces.{TakesAll}

-- nothing was written
pub took_none : (old : Option (List ℕ)) → Took old old []
took_none None = tt
took_none (Some before) = sym (ap Some (append-nil before))

-- a whole text is a beginning of it
prefix_of_whole : (old new : Option (List ℕ)) (text : List ℕ) → Took old new text → TookPrefix old new text
prefix_of_whole None new text took = tt
prefix_of_whole (Some before) new text took = (length text, took ∙ ap (λ xs. Some (before ++ xs)) (grind (arith, common_steps)))

pub takes_part : (old new : Option (List ℕ)) (text : List ℕ) (result : Result Unit SinkFault) → TakesAll old new text result → TookPrefix old new text
takes_part old new text (Ok _) took = prefix_of_whole old new text took
takes_part old new text (Err fault) took = took

-- What words spell is in range; and readings one after another have an answer of the last.
use Rattle.std.proofs.Common.{◌≡◌, ℕ, List, Ok, Err, inl, inr, refl}
use Rattle.checker_io.specs.Reading.{Asking, done, ask, and_then, MayAnswer}
use Rattle.command_words.specs.declared.request.Request.{Request}
use Rattle.command_words.specs.declared.request.Request.TheVariants as words
use Rattle.command_words.specs.Words.{form}
use Rattle.command_words.specs.Laws.{LoadsAreSmall}
use Rattle.checker_input.specs.Input.{IsInRange}

-- what words spell is in range
pub in_range : LoadsAreSmall → (words : List (List ℕ)) (request : Request) → form words ≡ Ok request → IsInRange request
in_range small spoken (words.Check folders scenario turns limit layout) spelled = tt
in_range small spoken (words.Run folders file scenario turns) spelled = tt
in_range small spoken (words.Translate file) spelled = tt
in_range small spoken (words.Load number limit) spelled = small spoken number limit spelled
in_range small spoken (words.Predict report trees) spelled = tt
in_range small spoken (words.Explain folders scenario turns limit view) spelled = tt
in_range small spoken (words.Pair dir other base scenario turns limit) spelled = tt
in_range small spoken (words.Twice dir base turns limit) spelled = tt

-- an answer of readings one after another is one of the last, behind one of the first
pub may_then : {F R A B : Type 0} (plan : Asking F R A) (more : A → Asking F R B) (value : B)
    → MayAnswer (Ok value) (and_then plan more) → (given : A) × MayAnswer (Ok value) (more given) × MayAnswer (Ok given) plan
may_then (done (Ok given)) more value may = (given, may, refl)
may_then (done (Err refusal)) more value may = absurd (cc may)
may_then (ask file comes next) more value (found, inl came) =
    let later = may_then (next came.0) more value came.2 in
    (later.0, later.1, (found, inl (came.0, came.1, later.2)))
may_then (ask file comes next) more value (found, inr refused) = absurd (cc refused.2)

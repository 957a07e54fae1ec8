-- Paths that are asked for one after the other, as a walk.
use Rattle.std.specs.Prelude.{List, [], ◌∷◌}
use Rattle.std.proofs.lemmas.Bool.{true≢false}
use Rattle.script_names.specs.declared.reason.Done.{Done}
use Rattle.script_names.specs.declared.reason.Done.TheVariants as done
use Rattle.script_names.specs.Paths.{PathParts}
use Rattle.utility_calls.specs.declared.acts.Act.TheVariants.{Exists}
use Rattle.utility_calls.specs.Walks.{Walk, Ends, Acts, AllDone}
use Rattle.store_tests.specs.declared.asked_path.AskedPaths.{AskedPaths}
use Rattle.store_tests.specs.TwoActs.{site_of}

-- each of these paths is asked for
abbrev pub asked_from : List PathParts → Walk Done
asked_from [] = Ends done.Ok
asked_from (p ∷ ps) = Acts (site_of 0) (Exists p) (λ _. asked_from ps)

-- each path is asked for
abbrev pub all_asked : AskedPaths → Walk Done
all_asked m = asked_from m.paths

-- a question can be asked on every tree
pub asked_performed : (ps : List PathParts) → AllDone (asked_from ps)
asked_performed [] = tt
asked_performed (p ∷ ps) = ((λ e. absurd (true≢false e), tt), λ _. asked_performed ps)

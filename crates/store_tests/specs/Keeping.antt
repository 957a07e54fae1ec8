-- Steps at a path, some of which keep the tree or put back from it, as a walk.
use Rattle.std.specs.Prelude.{◌≢◌, true, false, List, [], ◌∷◌}
use Rattle.std.proofs.lemmas.Bool.{true≢false}
use Rattle.script_names.specs.declared.reason.Done.{Done}
use Rattle.script_names.specs.declared.reason.Done.TheVariants as done
use Rattle.script_names.specs.Paths.{PathParts}
use Rattle.utility_calls.specs.declared.acts.Act.TheVariants.{Exists, PlaceFile, Discard, Remove}
use Rattle.utility_calls.specs.declared.backs.Back.TheVariants.{File}
use Rattle.utility_calls.specs.Walks.{Walk, Ends, Acts, PutsBack, Keeping, AllDone, Walked, walk, world}
use Rattle.store_tests.specs.declared.kept_path.KeptStep.{KeptStep}
use Rattle.store_tests.specs.declared.kept_path.KeptStep.TheVariants.{Asks, Places, Discards, Removes}
use Rattle.store_tests.specs.declared.kept_path.KeptStep.TheVariants.{Keeps, Returns}
use Rattle.store_tests.specs.declared.kept_path.KeptPath.{KeptPath}
use Rattle.store_tests.specs.declared.kept_path.Standing.{Standing}
use Rattle.store_tests.specs.TwoActs.{site_of}

-- these steps are done at the path; the value is the last answer, or the given one where no step answers
abbrev pub steps_from : PathParts → List KeptStep → Done → Walk Done
steps_from p [] value = Ends value
steps_from p (Asks ∷ steps) value = Acts (site_of 0) (Exists p) (λ answer. steps_from p steps answer)
steps_from p (Places ∷ steps) value = Acts (site_of 0) (PlaceFile p) (λ answer. steps_from p steps answer)
steps_from p (Discards ∷ steps) value = Acts (site_of 0) (Discard p) (λ answer. steps_from p steps answer)
steps_from p (Removes ∷ steps) value = Acts (site_of 0) (Remove p false true) (λ answer. steps_from p steps answer)
steps_from p (Keeps ∷ steps) value = Keeping (steps_from p steps value)
steps_from p (Returns ∷ steps) value = PutsBack (site_of 0) (File p) (λ answer. steps_from p steps answer)

-- each step is done
abbrev pub all_steps : KeptPath → Walk Done
all_steps m = steps_from m.path m.steps done.Ok

-- what is walked from where a run stands
abbrev pub walked : Walk Done → Standing → Walked Done
walked w at = walk w (world at.tree at.kept) at.marks at.deeds

-- each step can be done on every tree, where the path has a name
pub steps_done : (p : PathParts) → p.names ≢ [] → (steps : List KeptStep) (value : Done)
    → AllDone (steps_from p steps value)
steps_done p named [] value = tt
steps_done p named (Asks ∷ steps) value = ((λ e. absurd (true≢false e), tt), λ answer. steps_done p named steps answer)
steps_done p named (Places ∷ steps) value = ((λ _. (named, named), tt), λ answer. steps_done p named steps answer)
steps_done p named (Discards ∷ steps) value = ((λ _. (named, named), tt), λ answer. steps_done p named steps answer)
steps_done p named (Removes ∷ steps) value = ((λ _. (named, named), tt), λ answer. steps_done p named steps answer)
steps_done p named (Keeps ∷ steps) value = steps_done p named steps value
steps_done p named (Returns ∷ steps) value = (named, λ answer. steps_done p named steps answer)

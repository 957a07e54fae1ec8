-- Two acts at a path, as a walk.
use Rattle.std.specs.Prelude.{ℕ}
use Rattle.script_names.specs.declared.mark.Site.{Site}
use Rattle.script_names.specs.declared.reason.Done.{Done}
use Rattle.utility_calls.specs.declared.acts.Act.TheVariants.{Exists, MakeDir}
use Rattle.utility_calls.specs.Walks.{Walk, Ends, Acts}
use Rattle.store_tests.specs.declared.asked_path.AskedPath.{AskedPath}

-- the place of an act
abbrev pub site_of : ℕ → Site
site_of at = record { step = 0; at = at }

-- the path is asked for, and then made as a directory, which gives the value
abbrev pub asked_and_made : AskedPath → Walk Done
asked_and_made m =
    Acts (site_of 0) (Exists m.path) (λ _. Acts (site_of 1) (MakeDir m.path) (λ answer. Ends answer))

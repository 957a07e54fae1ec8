-- The acts of a step that places or takes away files, and what undoes those of an unpacking.
use Rattle.std.specs.Prelude.{◌≢◌, ◌≤◌, List, [], ◌∷◌, length, All, Option, Some, None, nat_le, if◌then◌else◌}
use Rattle.utility_calls.specs.declared.acts.Act.{Act}
use Rattle.utility_calls.specs.declared.backs.Back.{Back}
use Rattle.utility_calls.specs.Acts.{path_of, IsPerformed}
use Rattle.utility_calls.specs.Backs.{back_of, IsNamed}

-- the path of an act has a name
abbrev pub HasName : Act → Type 0
HasName act = (path_of act).names ≢ []

-- each act can be done on every tree, its path has a name, and it has a number that a site can hold
pub record AreFileActs (acts : List Act) : Type 0 where
  pub performed : All IsPerformed acts
  pub named : All HasName acts
  pub few : length acts ≤ 4294967295

-- these acts, unless there are more of them than a site can number
abbrev pub numbered : List Act → Option (List Act)
numbered acts = if nat_le (length acts) 4294967295 then Some acts else None

-- what undoes each act of an unpacking, by the acts as they are listed and the acts that are done for them
abbrev pub backs_of : List Act → List Act → List Back
backs_of [] acts = []
backs_of (listed ∷ more) [] = []
backs_of (listed ∷ more) (done ∷ acts) = back_of listed done ∷ backs_of more acts

-- the path of what undoes each act has a name, and each has a number that a site can hold
pub record AreFileBacks (backs : List Back) : Type 0 where
  pub named : All IsNamed backs
  pub few : length backs ≤ 4294967295

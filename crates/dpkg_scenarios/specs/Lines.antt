-- What a line of the code's tables says.
use Rattle.std.specs.Prelude.{◌≡◌, ℕ, Bool, true, false, List, [], ◌∷◌, codes, Some, if◌then◌else◌}
use Rattle.dpkg_scenarios.specs.declared.scenario.Scenario.{Scenario}
use Rattle.dpkg_scenarios.specs.declared.scenario.State.TheVariants.{ConfigFiles, NotInstalled}
use Rattle.dpkg_scenarios.specs.declared.scenario.Ending.TheVariants as ending
use Rattle.dpkg_scenarios.specs.declared.scenario.StepNext.{StepNext}
use Rattle.dpkg_scenarios.specs.declared.scenario.StepNext.TheVariants as next
use Rattle.dpkg_scenarios.specs.declared.said.Said.{Said}
use Rattle.dpkg_scenarios.specs.declared.tables.Verb.{Verb}
use Rattle.dpkg_scenarios.specs.declared.tables.Verb.TheVariants as verb
use Rattle.dpkg_scenarios.specs.declared.tables.Versions.{Versions}
use Rattle.dpkg_scenarios.specs.declared.tables.Versions.TheVariants as versions
use Rattle.dpkg_scenarios.specs.declared.tables.Spoken.{Spoken}
use Rattle.dpkg_scenarios.specs.declared.tables.Spoken.TheVariants as spoken
use Rattle.dpkg_scenarios.specs.declared.tables.Then.{Then}
use Rattle.dpkg_scenarios.specs.declared.tables.Then.TheVariants as then
use Rattle.dpkg_scenarios.specs.declared.tables.Line.{Line}
use Rattle.dpkg_scenarios.specs.Steps.{work_of, words_of, next_of}

-- a first word
abbrev pub verb_text : Verb → List ℕ
verb_text verb.Install = codes "install"
verb_text verb.AbortInstall = codes "abort-install"
verb_text verb.Configure = codes "configure"
verb_text verb.Upgrade = codes "upgrade"
verb_text verb.FailedUpgrade = codes "failed-upgrade"
verb_text verb.AbortUpgrade = codes "abort-upgrade"
verb_text verb.Remove = codes "remove"
verb_text verb.AbortRemove = codes "abort-remove"
verb_text verb.Purge = codes "purge"
verb_text verb.Deconfigure = codes "deconfigure"
verb_text verb.AbortDeconfigure = codes "abort-deconfigure"
verb_text verb.Disappear = codes "disappear"

-- the words behind it
abbrev pub versions_text : Versions → Said → List (List ℕ)
versions_text versions.NoWord said = []
versions_text versions.EmptyWord said = [] ∷ []
versions_text versions.FromOld said = said.old_version ∷ []
versions_text versions.ToNew said = said.new_version ∷ []
versions_text versions.FromTo said = said.old_version ∷ said.new_version ∷ []
versions_text versions.Named said = said.new_name ∷ said.new_version ∷ []
versions_text versions.InFavour said = codes "in-favour" ∷ said.new_name ∷ said.new_version ∷ []

-- all words
abbrev pub spoken_text : Spoken → Said → List (List ℕ)
spoken_text spoken.NoCall said = []
spoken_text (spoken.Call verb versions) said = verb_text verb ∷ versions_text versions said

-- what follows a step
abbrev pub then_of : Then → Bool → StepNext
then_of (then.Go n) plain = next.Go n
then_of (then.Done state) plain = next.Stop (ending.Done state)
then_of (then.Failed state) plain = next.Stop (ending.Failed state)
then_of then.Removed plain = next.Stop (ending.Done (if plain then NotInstalled else ConfigFiles))

-- a line that says what the scenario's table says of the step
pub record IsLine (scenario : Scenario) (step : ℕ) (line : Line) : Type 0 where
  pub work : work_of scenario step ≡ Some line.work
  pub words : (said : Said) → words_of scenario step said ≡ Some (spoken_text line.spoken said)
  pub ok : (plain : Bool) → next_of scenario step true plain ≡ Some (then_of line.ok plain)
  pub failed : (plain : Bool) → next_of scenario step false plain ≡ Some (then_of line.failed plain)

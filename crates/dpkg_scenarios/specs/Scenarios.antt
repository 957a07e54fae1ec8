-- The ten scenarios as tables, a line for each step: its number, what is done, the words of the call, what follows on
-- success and what on failure; and beside its steps a record for each scenario. To be read beside Debian Policy, 6.5
-- (the calls), 6.6 (unpacking, and its unwinding), 6.7 (configuring) and 6.8 (removing and purging), which has the
-- order of the scripts and their first words; the further words, and the states at the end, are this project's own.
-- In the scenarios of a pair the old package is an installed one of another name, to which something happens since the
-- new one is installed.
use Rattle.std.specs.Prelude.{ℕ, Bool, nat_lt, List, [], ◌∷◌, length, codes, if◌then◌else◌}
use Rattle.dpkg_scenarios.specs.declared.columns.Before.{Before}
use Rattle.dpkg_scenarios.specs.declared.columns.Before.TheVariants as before
use Rattle.dpkg_scenarios.specs.declared.columns.NewEntries.{NewEntries}
use Rattle.dpkg_scenarios.specs.declared.columns.NewEntries.TheVariants.{Every, Added, NoEntry}
use Rattle.dpkg_scenarios.specs.declared.columns.OwnFolders.{OwnFolders}
use Rattle.dpkg_scenarios.specs.declared.columns.OwnFolders.TheVariants.{NoFolder, Dropped, Standing, Left}
use Rattle.dpkg_scenarios.specs.declared.columns.Columns.{Columns}
use Rattle.dpkg_scenarios.specs.declared.said.Said.{Said}
use Rattle.dpkg_scenarios.specs.declared.scenario.Scenario.{Scenario}
use Rattle.dpkg_scenarios.specs.declared.scenario.Scenario.TheVariants as scenario
use Rattle.dpkg_scenarios.specs.declared.scenario.State.{State}
use Rattle.dpkg_scenarios.specs.declared.scenario.State.TheVariants.{Installed, Unpacked, HalfConfigured, HalfInstalled}
use Rattle.dpkg_scenarios.specs.declared.scenario.State.TheVariants.{ConfigFiles, NotInstalled}
use Rattle.dpkg_scenarios.specs.declared.scenario.ScriptKind.{ScriptKind}
use Rattle.dpkg_scenarios.specs.declared.scenario.ScriptKind.TheVariants.{Preinst, Postinst, Prerm, Postrm}
use Rattle.dpkg_scenarios.specs.declared.scenario.Side.TheVariants.{New, Old}
use Rattle.dpkg_scenarios.specs.declared.scenario.Ending.TheVariants as ending
use Rattle.dpkg_scenarios.specs.declared.scenario.StepWork.{StepWork}
use Rattle.dpkg_scenarios.specs.declared.scenario.StepWork.TheVariants.{Script, Unpack, RemoveFiles}
use Rattle.dpkg_scenarios.specs.declared.scenario.StepWork.TheVariants.{RemoveOld, RemoveConf, Restore}
use Rattle.dpkg_scenarios.specs.declared.scenario.StepNext.{StepNext}
use Rattle.dpkg_scenarios.specs.declared.scenario.StepNext.TheVariants.{Go, Stop}

-- the words of a call, from what is said of the packages
abbrev pub Words : Type 0
Words = Said → List (List ℕ)

-- what follows, by whether the package has neither a configuration file nor a postrm
abbrev pub Follows : Type 0
Follows = Bool → StepNext

-- a line of a table
pub record Step : Type 0 where
  pub number : ℕ
  pub work : StepWork
  pub words : Words
  pub ok : Follows
  pub failed : Follows

-- a script of the new package is called
abbrev pub new : ℕ → ScriptKind → Words → Follows → Follows → Step
new n script words ok failed =
    record { number = n; work = Script New script; words = words; ok = ok; failed = failed }

-- a script of the old package is called
abbrev pub old : ℕ → ScriptKind → Words → Follows → Follows → Step
old n script words ok failed =
    record { number = n; work = Script Old script; words = words; ok = ok; failed = failed }

-- files are placed, which can fail
abbrev pub places : ℕ → StepWork → Follows → Follows → Step
places n work ok failed = record { number = n; work = work; words = λ said. []; ok = ok; failed = failed }

-- files are taken away, which cannot fail: what is not there is passed over
abbrev pub removes : ℕ → StepWork → Follows → Step
removes n work ok = places n work ok ok

-- what was placed is put back, which cannot fail
abbrev pub restores : ℕ → Follows → Step
restores n ok = places n Restore ok ok

-- a word alone
abbrev pub alone : List ℕ → Words
alone word said = word ∷ []

-- one and an empty one
abbrev pub empty : List ℕ → Words
empty word said = word ∷ [] ∷ []

-- one and the old version
abbrev pub from_old : List ℕ → Words
from_old word said = word ∷ said.old_version ∷ []

-- one and the new version
abbrev pub to_new : List ℕ → Words
to_new word said = word ∷ said.new_version ∷ []

-- one, the old version and the new one
abbrev pub from_to : List ℕ → Words
from_to word said = word ∷ said.old_version ∷ said.new_version ∷ []

-- one, and the new package's name and version
abbrev pub named : List ℕ → Words
named word said = word ∷ said.new_name ∷ said.new_version ∷ []

-- one, `in-favour`, and the new package's name and version
abbrev pub favours : List ℕ → Words
favours word said = word ∷ codes "in-favour" ∷ said.new_name ∷ said.new_version ∷ []

-- a further step
abbrev pub go : ℕ → Follows
go n plain = Go n

-- the end with success
abbrev pub done : State → Follows
done state plain = Stop (ending.Done state)

-- the end with failure
abbrev pub failed : State → Follows
failed state plain = Stop (ending.Failed state)

-- the end of a removal: configuration files are left, and the postrm that a purge calls, unless there are none
abbrev pub removed : Follows
removed plain = Stop (ending.Done (if plain then NotInstalled else ConfigFiles))

-- Policy 6.6, where no version is there, and 6.7
abbrev pub install : List Step
install =
    new 1 Preinst (alone (codes "install")) (go 2) (go 4)
    ∷ places 2 Unpack (go 3) (go 5)
    ∷ new 3 Postinst (empty (codes "configure")) (done Installed) (failed HalfConfigured)
    ∷ new 4 Postrm (alone (codes "abort-install")) (failed NotInstalled) (failed HalfInstalled)
    ∷ restores 5 (go 4)
    ∷ []

-- Policy 6.6, where the configuration files of a version are there, and 6.7
abbrev pub install_again : List Step
install_again =
    new 1 Preinst (from_to (codes "install")) (go 2) (go 4)
    ∷ places 2 Unpack (go 3) (go 5)
    ∷ new 3 Postinst (from_old (codes "configure")) (done Installed) (failed HalfConfigured)
    ∷ new 4 Postrm (from_to (codes "abort-install")) (failed ConfigFiles) (failed HalfInstalled)
    ∷ restores 5 (go 4)
    ∷ []

-- Policy 6.6, where a version is installed, and 6.7
abbrev pub upgrade : List Step
upgrade =
    old 1 Prerm (to_new (codes "upgrade")) (go 3) (go 2)
    ∷ new 2 Prerm (from_to (codes "failed-upgrade")) (go 3) (go 9)
    ∷ new 3 Preinst (from_to (codes "upgrade")) (go 4) (go 10)
    ∷ places 4 Unpack (go 5) (go 12)
    ∷ old 5 Postrm (to_new (codes "upgrade")) (go 7) (go 6)
    ∷ new 6 Postrm (from_to (codes "failed-upgrade")) (go 7) (go 13)
    ∷ removes 7 RemoveOld (go 8)
    ∷ new 8 Postinst (from_old (codes "configure")) (done Installed) (failed HalfConfigured)
    ∷ old 9 Postinst (to_new (codes "abort-upgrade")) (failed Installed) (failed HalfConfigured)
    ∷ new 10 Postrm (from_to (codes "abort-upgrade")) (go 11) (failed HalfInstalled)
    ∷ old 11 Postinst (to_new (codes "abort-upgrade")) (failed Installed) (failed Unpacked)
    ∷ restores 12 (go 10)
    ∷ old 13 Preinst (to_new (codes "abort-upgrade")) (go 14) (failed HalfInstalled)
    ∷ restores 14 (go 10)
    ∷ []

-- Policy 6.8
abbrev pub remove : List Step
remove =
    new 1 Prerm (alone (codes "remove")) (go 2) (go 4)
    ∷ removes 2 RemoveFiles (go 3)
    ∷ new 3 Postrm (alone (codes "remove")) removed (failed HalfInstalled)
    ∷ new 4 Postinst (alone (codes "abort-remove")) (failed Installed) (failed HalfConfigured)
    ∷ []

-- Policy 6.8, with the purge behind the removal
abbrev pub purge : List Step
purge =
    new 1 Prerm (alone (codes "remove")) (go 2) (go 6)
    ∷ removes 2 RemoveFiles (go 3)
    ∷ new 3 Postrm (alone (codes "remove")) (go 4) (failed HalfInstalled)
    ∷ removes 4 RemoveConf (go 5)
    ∷ new 5 Postrm (alone (codes "purge")) (done NotInstalled) (failed ConfigFiles)
    ∷ new 6 Postinst (alone (codes "abort-remove")) (failed Installed) (failed HalfConfigured)
    ∷ []

-- Policy 6.8, the purge of what an earlier removal left
abbrev pub purge_later : List Step
purge_later =
    removes 1 RemoveConf (go 2)
    ∷ new 2 Postrm (alone (codes "purge")) (done NotInstalled) (failed ConfigFiles)
    ∷ []

-- Policy 6.6, where an installed package conflicts with the new one, and is removed in its favour
abbrev pub in_favour : List Step
in_favour =
    old 1 Prerm (favours (codes "remove")) (go 2) (go 7)
    ∷ new 2 Preinst (alone (codes "install")) (go 3) (go 8)
    ∷ places 3 Unpack (go 4) (go 9)
    ∷ removes 4 RemoveOld (go 5)
    ∷ old 5 Postrm (alone (codes "remove")) (go 6) (failed Unpacked)
    ∷ new 6 Postinst (empty (codes "configure")) (done Installed) (failed HalfConfigured)
    ∷ old 7 Postinst (favours (codes "abort-remove")) (failed NotInstalled) (failed NotInstalled)
    ∷ new 8 Postrm (alone (codes "abort-install")) (go 7) (failed HalfInstalled)
    ∷ restores 9 (go 8)
    ∷ []

-- Policy 6.6, where the new package breaks an installed one, which is deconfigured
abbrev pub deconfigure : List Step
deconfigure =
    old 1 Prerm (favours (codes "deconfigure")) (go 2) (go 6)
    ∷ new 2 Preinst (alone (codes "install")) (go 3) (go 5)
    ∷ places 3 Unpack (go 4) (go 7)
    ∷ new 4 Postinst (empty (codes "configure")) (done Installed) (failed HalfConfigured)
    ∷ new 5 Postrm (alone (codes "abort-install")) (go 6) (failed HalfInstalled)
    ∷ old 6 Postinst (favours (codes "abort-deconfigure")) (failed NotInstalled) (failed NotInstalled)
    ∷ restores 7 (go 5)
    ∷ []

-- Policy 6.6, where the new package has every file of an installed one, which disappears
abbrev pub disappear : List Step
disappear =
    new 1 Preinst (alone (codes "install")) (go 2) (go 5)
    ∷ places 2 Unpack (go 3) (go 6)
    ∷ old 3 Postrm (named (codes "disappear")) (go 4) (failed Unpacked)
    ∷ new 4 Postinst (empty (codes "configure")) (done Installed) (failed HalfConfigured)
    ∷ new 5 Postrm (alone (codes "abort-install")) (failed NotInstalled) (failed HalfInstalled)
    ∷ restores 6 (go 5)
    ∷ []

-- Policy 6.7, for the first time and again: scripts are idempotent (Policy 6.2)
abbrev pub twice : List Step
twice =
    new 1 Postinst (empty (codes "configure")) (go 2) (failed HalfConfigured)
    ∷ new 2 Postinst (to_new (codes "configure")) (done Installed) (failed HalfConfigured)
    ∷ []

-- the table of a scenario
abbrev pub table : Scenario → List Step
table scenario.Install = install
table scenario.InstallAgain = install_again
table scenario.Upgrade = upgrade
table scenario.Remove = remove
table scenario.Purge = purge
table scenario.PurgeLater = purge_later
table scenario.InFavour = in_favour
table scenario.Deconfigure = deconfigure
table scenario.Disappear = disappear
table scenario.Twice = twice

-- What a scenario does beside its steps: its place among all, what is in place before it, the state that it is to bring
-- the package to, which entries of the new package have to fit, which of its configuration files are placed, and which
-- folders are the scenario's own to take away.
abbrev pub does : ℕ → Before → State → NewEntries → NewEntries → OwnFolders → Columns
does place before aim fits conffiles own =
    record { place = place; before = before; aim = aim; fits = fits; conffiles = conffiles; own = own }

-- the record of a scenario
abbrev pub columns_of : Scenario → Columns
columns_of scenario.Install = does 0 before.NotInstalled Installed Every Every NoFolder
columns_of scenario.InstallAgain = does 1 before.ConfigFiles Installed Every NoEntry NoFolder
columns_of scenario.Upgrade = does 2 before.OldInstalled Installed Added Added Dropped
columns_of scenario.Remove = does 3 before.Installed ConfigFiles NoEntry NoEntry Standing
columns_of scenario.Purge = does 4 before.Installed NotInstalled NoEntry NoEntry Standing
columns_of scenario.PurgeLater = does 5 before.ConfigFiles NotInstalled NoEntry NoEntry Left
columns_of scenario.InFavour = does 6 before.OldInstalled Installed Added Added NoFolder
columns_of scenario.Deconfigure = does 7 before.OldInstalled Installed Added Added NoFolder
columns_of scenario.Disappear = does 8 before.OldInstalled Installed Added Added NoFolder
columns_of scenario.Twice = does 9 before.Installed Installed NoEntry NoEntry NoFolder

-- the scenarios that a check of a package answers for, in the order of their places
abbrev pub checked_scenarios : List Scenario
checked_scenarios =
    scenario.Install ∷ scenario.InstallAgain ∷ scenario.Upgrade ∷ scenario.Remove ∷ scenario.Purge
    ∷ scenario.PurgeLater ∷ []

-- whether a scenario is one of these: they have the first places
abbrev pub is_checked : Scenario → Bool
is_checked scenario = nat_lt (columns_of scenario).place (length checked_scenarios)

-- the scenarios of a pair of packages
abbrev pub pair_scenarios : List Scenario
pair_scenarios = scenario.InFavour ∷ scenario.Deconfigure ∷ scenario.Disappear ∷ []

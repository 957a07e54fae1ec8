-- What is done in a step, how a package is left, and what a scenario is, in words for people.
use Rattle.std.specs.Prelude.{ℕ, List, codes}
use Rattle.dpkg_scenarios.specs.declared.scenario.Scenario.{Scenario}
use Rattle.dpkg_scenarios.specs.declared.scenario.Scenario.TheVariants.{Install, InstallAgain, Upgrade, Remove}
use Rattle.dpkg_scenarios.specs.declared.scenario.Scenario.TheVariants.{Purge, PurgeLater, InFavour, Deconfigure}
use Rattle.dpkg_scenarios.specs.declared.scenario.Scenario.TheVariants.{Disappear, Twice}
use Rattle.dpkg_scenarios.specs.declared.scenario.ScriptKind.{ScriptKind}
use Rattle.dpkg_scenarios.specs.declared.scenario.ScriptKind.TheVariants.{Preinst, Postinst, Prerm, Postrm}
use Rattle.dpkg_scenarios.specs.declared.scenario.Side.{Side}
use Rattle.dpkg_scenarios.specs.declared.scenario.Side.TheVariants.{New, Old}
use Rattle.dpkg_scenarios.specs.declared.scenario.State.{State}
use Rattle.dpkg_scenarios.specs.declared.scenario.State.TheVariants.{Installed, Unpacked, HalfConfigured, HalfInstalled}
use Rattle.dpkg_scenarios.specs.declared.scenario.State.TheVariants.{ConfigFiles, NotInstalled}
use Rattle.dpkg_scenarios.specs.declared.scenario.StepWork.{StepWork}
use Rattle.dpkg_scenarios.specs.declared.scenario.StepWork.TheVariants.{Script, Unpack, RemoveFiles}
use Rattle.dpkg_scenarios.specs.declared.scenario.StepWork.TheVariants.{RemoveOld, RemoveConf, Restore}

-- the script of a package; that of the old one is said to be so
abbrev pub script_words : Side → ScriptKind → List ℕ
script_words New Preinst = codes "preinst"
script_words New Postinst = codes "postinst"
script_words New Prerm = codes "prerm"
script_words New Postrm = codes "postrm"
script_words Old Preinst = codes "old preinst"
script_words Old Postinst = codes "old postinst"
script_words Old Prerm = codes "old prerm"
script_words Old Postrm = codes "old postrm"

-- what is done in a step
abbrev pub work_words : StepWork → List ℕ
work_words (Script side script) = script_words side script
work_words Unpack = codes "dpkg unpacks the files"
work_words RemoveFiles = codes "dpkg removes the files"
work_words RemoveOld = codes "dpkg removes what only the old package has"
work_words RemoveConf = codes "dpkg removes the conffiles"
work_words Restore = codes "dpkg puts the files back"

-- how a package is left; where dpkg has another word for it, that too (dpkg-query(1), status)
abbrev pub state_words : State → List ℕ
state_words Installed = codes "installed"
state_words Unpacked = codes "unpacked, but not configured (dpkg: unpacked)"
state_words HalfConfigured = codes "unpacked, but its configuration failed (dpkg: half-configured)"
state_words HalfInstalled = codes "neither installed nor removed as a whole (dpkg: half-installed)"
state_words ConfigFiles = codes "removed, but not purged (dpkg: config-files)"
state_words NotInstalled = codes "not installed"

-- what a scenario is
abbrev pub scenario_words : Scenario → List ℕ
scenario_words Install = codes "the installation"
scenario_words InstallAgain = codes "the installation over conffiles that were left"
scenario_words Upgrade = codes "the upgrade"
scenario_words Remove = codes "the removal"
scenario_words Purge = codes "the purge"
scenario_words PurgeLater = codes "the purge of what a removal left"
scenario_words InFavour = codes "the installation in favour of which another package is removed"
scenario_words Deconfigure = codes "the installation for which another package is deconfigured"
scenario_words Disappear = codes "the installation by which another package disappears"
scenario_words Twice = codes "the configuration, and once more"

-- Which file of the other package of a pair is kept.
use Rattle.std.specs.Prelude.{Option, None}
use Rattle.script_names.specs.Paths.{PathParts}
use Rattle.dpkg_scenarios.specs.declared.scenario.Scenario.{Scenario}
use Rattle.dpkg_scenarios.specs.declared.scenario.Scenario.TheVariants as scenario
use Rattle.package_lists.specs.EntrySets.{kept_path}
use Rattle.checker_input.specs.declared.package.Packages.{Packages}
use Rattle.package_jobs.specs.Sides.{old_of}

-- the path of the first file of the old package that is kept where it is to disappear; nothing is asked elsewhere
abbrev pub kept_of : Scenario → Packages → Option PathParts
kept_of scenario.Install packages = None
kept_of scenario.InstallAgain packages = None
kept_of scenario.Upgrade packages = None
kept_of scenario.Remove packages = None
kept_of scenario.Purge packages = None
kept_of scenario.PurgeLater packages = None
kept_of scenario.InFavour packages = None
kept_of scenario.Deconfigure packages = None
kept_of scenario.Disappear packages = kept_path packages.new_package.entries (old_of packages).entries
kept_of scenario.Twice packages = None

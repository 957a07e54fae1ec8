-- What the scripts of the packages make known of a tree where the base says `plain`: what stands where they name a path
-- is of the sort that the command takes.
use Rattle.std.specs.Prelude.{Bool, true, false, List, [], ◌++◌, Option, Some, None, if◌then◌else◌}
use Rattle.shell_syntax.specs.declared.script.Script.{Script}
use Rattle.dpkg_scenarios.specs.declared.columns.Before.{Before}
use Rattle.dpkg_scenarios.specs.declared.columns.Before.TheVariants as before
use Rattle.dpkg_scenarios.specs.declared.columns.Columns.{Columns}
use Rattle.dpkg_scenarios.specs.declared.scenario.State.{State}
use Rattle.dpkg_scenarios.specs.declared.scenario.State.TheVariants.{Installed, Unpacked, HalfConfigured, HalfInstalled}
use Rattle.dpkg_scenarios.specs.declared.scenario.State.TheVariants.{ConfigFiles, NotInstalled}
use Rattle.dpkg_scenarios.specs.declared.scripts.Scripts.{Scripts}
use Rattle.settled_commands.specs.Settled.{settled_commands}
use Rattle.settled_commands.specs.Sorts.{sorts_known}
use Rattle.system_base.specs.declared.base.Base.{Base}
use Rattle.system_base.specs.declared.base.KnownPath.{KnownPath}
use Rattle.checker_input.specs.declared.package.Packages.{Packages}
use Rattle.package_jobs.specs.Sides.{old_of}

-- what a script makes known, where there is one
abbrev pub script_known : Base → Option Script → List KnownPath
script_known base None = []
script_known base (Some script) = sorts_known base (settled_commands script.body)

-- what the scripts of a package make known
abbrev pub scripts_known : Base → Scripts Script → List KnownPath
scripts_known base scripts =
    script_known base scripts.preinst
    ++ (script_known base scripts.postinst
    ++ (script_known base scripts.prerm ++ script_known base scripts.postrm))

-- whether a package is to be installed
abbrev pub is_installed : State → Bool
is_installed Installed = true
is_installed Unpacked = false
is_installed HalfConfigured = false
is_installed HalfInstalled = false
is_installed ConfigFiles = false
is_installed NotInstalled = false

-- Whether a scenario has an old package beside the new one, by what is in place before it and the state that it aims at:
-- the old package is installed, or was removed and another is installed.
abbrev pub has_old : Before → State → Bool
has_old before.NotInstalled aim = false
has_old before.ConfigFiles aim = is_installed aim
has_old before.Installed aim = false
has_old before.OldInstalled aim = true

-- what the old package's scripts make known, where the scenario has one
abbrev pub old_known : Columns → Packages → List KnownPath
old_known columns packages =
    if has_old columns.before columns.aim then scripts_known packages.base (old_of packages).scripts else []

-- what the scripts make known that a scenario speaks of
abbrev pub known_by_scripts : Columns → Packages → List KnownPath
known_by_scripts columns packages =
    scripts_known packages.base packages.new_package.scripts ++ old_known columns packages

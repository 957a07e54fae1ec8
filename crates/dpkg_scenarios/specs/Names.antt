-- The names of scenarios and of maintainer scripts, as command lines, files, variables and reports have them.
use Rattle.std.specs.Prelude.{ℕ, List, codes, Option}
use Rattle.std.specs.List.{find}
use Rattle.std.specs.Str.{bytes_eq}
use Rattle.dpkg_scenarios.specs.declared.scenario.Scenario.{Scenario}
use Rattle.dpkg_scenarios.specs.declared.scenario.Scenario.TheVariants.{Install, InstallAgain, Upgrade, Remove}
use Rattle.dpkg_scenarios.specs.declared.scenario.Scenario.TheVariants.{Purge, PurgeLater, InFavour, Deconfigure}
use Rattle.dpkg_scenarios.specs.declared.scenario.Scenario.TheVariants.{Disappear, Twice}
use Rattle.dpkg_scenarios.specs.declared.scenario.ScriptKind.{ScriptKind}
use Rattle.dpkg_scenarios.specs.declared.scenario.ScriptKind.TheVariants.{Preinst, Postinst, Prerm, Postrm}
use Rattle.dpkg_scenarios.specs.Scenarios.{checked_scenarios, pair_scenarios}

-- the name of a scenario
abbrev pub scenario_name : Scenario → List ℕ
scenario_name Install = codes "install"
scenario_name InstallAgain = codes "install-again"
scenario_name Upgrade = codes "upgrade"
scenario_name Remove = codes "remove"
scenario_name Purge = codes "purge"
scenario_name PurgeLater = codes "purge-later"
scenario_name InFavour = codes "in-favour"
scenario_name Deconfigure = codes "deconfigure"
scenario_name Disappear = codes "disappear"
scenario_name Twice = codes "twice"

-- the one of these scenarios that has a name
abbrev pub named_among : List Scenario → List ℕ → Option Scenario
named_among scenarios name = find (λ scenario. bytes_eq name (scenario_name scenario)) scenarios

-- the scenario of a name, of those that a check answers for
abbrev pub scenario_named : List ℕ → Option Scenario
scenario_named = named_among checked_scenarios

-- the scenario of a name, of those of a pair
abbrev pub pair_named : List ℕ → Option Scenario
pair_named = named_among pair_scenarios

-- the name of a maintainer script, which is that of its file
abbrev pub script_name : ScriptKind → List ℕ
script_name Preinst = codes "preinst"
script_name Postinst = codes "postinst"
script_name Prerm = codes "prerm"
script_name Postrm = codes "postrm"

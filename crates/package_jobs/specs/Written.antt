-- The run of a scenario as its packages are written: the scripts are those of the shell, under the premises that the
-- base states, and the acts on files are those of the packages' lists, taken along the known links.
use Rattle.std.specs.Prelude.{ℕ, Bool, not, ◌&&◌, List, map, Option, is_none, option_map}
use Rattle.std.specs.List.{list_any}
use Rattle.feature_trees.specs.declared.value.Value.{Value}
use Rattle.dpkg_scenarios.specs.declared.said.Said.{Said}
use Rattle.dpkg_scenarios.specs.declared.scenario.Scenario.{Scenario}
use Rattle.dpkg_scenarios.specs.declared.scenario.Side.{Side}
use Rattle.dpkg_scenarios.specs.declared.scenario.Side.TheVariants.{New, Old}
use Rattle.dpkg_scenarios.specs.declared.scenario.StepWork.TheVariants.{Unpack, RemoveFiles, RemoveOld, RemoveConf}
use Rattle.dpkg_scenarios.specs.Scripts.{script_of}
use Rattle.shell_syntax.specs.declared.script.Script.{Script}
use Rattle.shell_to_colis.specs.Shell.{sh_script}
use Rattle.shell_rules.specs.declared.premises.Premises.{Premises}
use Rattle.utility_calls.specs.declared.acts.Act.{Act}
use Rattle.link_walks.specs.Following.{follow_act}
use Rattle.system_base.specs.declared.base.Base.{Base}
use Rattle.package_lists.specs.Entries.{EntryParts, is_conf}
use Rattle.package_jobs.specs.FileActs.{acts_of}
use Rattle.checker_input.specs.declared.package.Package.{Package}
use Rattle.checker_input.specs.declared.package.Packages.{Packages}
use Rattle.scenario_runs.specs.declared.job.Files.{Files}
use Rattle.scenario_runs.specs.declared.replayed.Replayed.{Replayed}
use Rattle.scenario_runs.specs.Acts.{backs_of}
use Rattle.scenario_runs.specs.Runs.{Meaning, Plan, run_of}
use Rattle.package_jobs.specs.Sides.{old_of}
use Rattle.package_jobs.specs.StartTrees.{Entries}

-- one of the packages
abbrev pub side_of : Packages → Side → Package
side_of packages New = packages.new_package
side_of packages Old = old_of packages

-- what a script does, as the shell's rules say it; whether it begins strict is said on its first line
abbrev pub script_meaning : Script → Meaning
script_meaning script = record { strict = script.strict; ends = sh_script script }

-- what is stated of the system that the scripts run on
abbrev pub premises_of : Base → Premises
premises_of base =
    record { links = base.links; calls = base.calls; runs = base.runs; versions = base.versions }

-- whether an entry is a configuration file
abbrev pub is_conffile : EntryParts → Bool
is_conffile entry = is_conf entry.kind

-- whether a package has neither a configuration file nor a postrm
abbrev pub is_plain : Package → Bool
is_plain side = not (list_any is_conffile side.entries) && is_none side.scripts.postrm

-- the acts of a step, as they are done: taken along the known links
abbrev pub done_acts : Base → List Act → List Act
done_acts base acts = map (follow_act base.links) acts

-- what is done with files in the steps of a scenario, by the new and the old package's entries and the base
abbrev pub files_of : Scenario → Entries → Entries → Base → Files
files_of scenario new old base =
    let unpacking = acts_of scenario Unpack new old base in
    record {
      unpack = done_acts base unpacking;
      backs = backs_of unpacking (done_acts base unpacking);
      remove_files = done_acts base (acts_of scenario RemoveFiles new old base);
      remove_old = done_acts base (acts_of scenario RemoveOld new old base);
      remove_conf = done_acts base (acts_of scenario RemoveConf new old base);
    }

-- what the scripts are told of the packages
abbrev pub said_of : Packages → Said
said_of packages = record {
  old_version = (old_of packages).version;
  new_version = packages.new_package.version;
  new_name = packages.name;
}

-- what the run of a scenario needs, with so many turns of loops
abbrev pub written_plan : Scenario → Packages → ℕ → Plan
written_plan scenario packages turns = record {
  scenario = scenario;
  plain = is_plain packages.new_package;
  said = said_of packages;
  scripts = λ side script. option_map script_meaning (script_of script (side_of packages side).scripts);
  files = files_of scenario packages.new_package.entries (old_of packages).entries packages.base;
  premises = premises_of packages.base;
  turns = turns;
}

-- the run of a scenario from a tree
abbrev pub written_run : Scenario → Packages → ℕ → Value → Option Replayed
written_run scenario packages turns = run_of (written_plan scenario packages turns)

-- What is made of written packages, between the steps of making a job.
use Rattle.std.specs.Prelude.{◌≡◌, option_map}
use Rattle.dpkg_scenarios.specs.declared.scenario.ScriptKind.{ScriptKind}
use Rattle.dpkg_scenarios.specs.declared.scripts.Scripts.{Scripts}
use Rattle.dpkg_scenarios.specs.Scripts.{script_of}
use Rattle.shell_syntax.specs.declared.script.Script.{Script}
use Rattle.colis_syntax.specs.WellFormed.{ProgramParts}
use Rattle.scenario_runs.specs.Runs.{program_meaning}
use Rattle.checker_input.specs.declared.package.Packages.{Packages}
use Rattle.package_jobs.specs.declared.programs.Programs.{Programs}
use Rattle.package_jobs.specs.Sides.{old_of}
use Rattle.package_jobs.specs.Written.{script_meaning}

-- each program does what the script of that kind does, and there is one exactly where there is a script
abbrev pub DoTheSame : Scripts Script → Scripts ProgramParts → Type 0
DoTheSame scripts programs =
    (kind : ScriptKind)
    → option_map program_meaning (script_of kind programs) ≡ option_map script_meaning (script_of kind scripts)

-- the programs of packages: those of the new package's scripts, and of the old one's
pub record AreProgramsOf (packages : Packages) (programs : Programs) : Type 0 where
  pub new_package : DoTheSame packages.new_package.scripts programs.new_package
  pub old_package : DoTheSame (old_of packages).scripts programs.old_package

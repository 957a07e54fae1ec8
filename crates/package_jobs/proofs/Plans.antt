-- The plan of a job is the written one.
use Rattle.std.proofs.Common.{◌≡◌, ℕ, Option, sym, ap}
use Rattle.std.specs.Prelude.{option_map}
use Rattle.feature_trees.specs.declared.value.Value.{Value}
use Rattle.dpkg_scenarios.specs.declared.scenario.Scenario.{Scenario}
use Rattle.dpkg_scenarios.specs.declared.scenario.ScriptKind.{ScriptKind}
use Rattle.dpkg_scenarios.specs.declared.scenario.ScriptKind.TheVariants.{Preinst, Postinst, Prerm, Postrm}
use Rattle.dpkg_scenarios.specs.declared.scenario.Side.{Side}
use Rattle.dpkg_scenarios.specs.declared.scenario.Side.TheVariants.{New, Old}
use Rattle.dpkg_scenarios.specs.declared.scripts.Scripts.{Scripts}
use Rattle.dpkg_scenarios.specs.Scripts.{script_of}
use Rattle.shell_syntax.specs.declared.script.Script.{Script}
use Rattle.colis_syntax.specs.WellFormed.{ProgramParts}
use Rattle.shell_to_colis.specs.Laws.{DoesTheSame}
use Rattle.checker_input.specs.declared.package.Packages.{Packages}
use Rattle.scenario_runs.specs.declared.job.Job.{Job}
use Rattle.scenario_runs.specs.Runs.{Plan, plan_of, run_of, scenario_run, program_meaning, scripts_in}
use Rattle.package_jobs.specs.Made.{DoTheSame}
use Rattle.package_jobs.specs.Sides.{old_of}
use Rattle.package_jobs.specs.Written.{side_of, script_meaning, said_of, premises_of, is_plain, files_of, written_plan, written_run}

-- a program that does what a script does has the script's meaning
pub meaning_same : (s : Script) (p : ProgramParts) → p.strict ≡ s.strict → DoesTheSame s p → program_meaning p ≡ script_meaning s
meaning_same s p flag same = λ i. record {
  strict = flag i;
  ends = λ step conc tree trace. sym (same step conc tree trace) i;
}

-- programs of each kind that do what the scripts of that kind do
pub kinds_same : (scripts : Scripts Script) (preinst postinst prerm postrm : Option ProgramParts)
    → option_map program_meaning preinst ≡ option_map script_meaning scripts.preinst → option_map program_meaning postinst ≡ option_map script_meaning scripts.postinst
    → option_map program_meaning prerm ≡ option_map script_meaning scripts.prerm → option_map program_meaning postrm ≡ option_map script_meaning scripts.postrm
    → DoTheSame scripts (record { preinst = preinst; postinst = postinst; prerm = prerm; postrm = postrm })
kinds_same scripts a b c d e f g h Preinst = e
kinds_same scripts a b c d e f g h Postinst = f
kinds_same scripts a b c d e f g h Prerm = g
kinds_same scripts a b c d e f g h Postrm = h

module _ (job : Job) (s : Scenario) (p : Packages) (turns : ℕ) where
  scripts_same : DoTheSame p.new_package.scripts job.new_scripts → DoTheSame (old_of p).scripts job.old_scripts → (side : Side) (kind : ScriptKind)
      → option_map program_meaning (script_of kind (scripts_in job side)) ≡ option_map script_meaning (script_of kind (side_of p side).scripts)
  scripts_same new old New kind = new kind
  scripts_same new old Old kind = old kind

  plan_same : job.scenario ≡ s → job.plain ≡ is_plain p.new_package → job.said ≡ said_of p
      → DoTheSame p.new_package.scripts job.new_scripts → DoTheSame (old_of p).scripts job.old_scripts
      → job.files ≡ files_of s p.new_package.entries (old_of p).entries p.base → job.premises ≡ premises_of p.base → job.turns ≡ turns
      → plan_of job ≡ written_plan s p turns
  plan_same scenario plain said new old files premises left = λ i. record {
    scenario = scenario i;
    plain = plain i;
    said = said i;
    scripts = λ side kind. scripts_same new old side kind i;
    files = files i;
    premises = premises i;
    turns = left i;
  }

  pub runs_same : job.scenario ≡ s → job.plain ≡ is_plain p.new_package → job.said ≡ said_of p
      → DoTheSame p.new_package.scripts job.new_scripts → DoTheSame (old_of p).scripts job.old_scripts
      → job.files ≡ files_of s p.new_package.entries (old_of p).entries p.base → job.premises ≡ premises_of p.base → job.turns ≡ turns
      → (tree : Value) → scenario_run job tree ≡ written_run s p turns tree
  runs_same scenario plain said new old files premises left tree =
      ap (λ (plan : Plan). run_of plan tree) (plan_same scenario plain said new old files premises left)

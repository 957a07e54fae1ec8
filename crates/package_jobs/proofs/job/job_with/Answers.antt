use Rattle.std.proofs.Common.{refl, sym, ap, subst, ◌∙◌}
use Rattle.checker_input.specs.declared.package.Package.{Package}
use Rattle.scenario_runs.specs.declared.job.Job.{Job}
use Rattle.package_jobs.specs.Made.{DoTheSame}
use Rattle.package_jobs.specs.Sides.{old_of}
use Rattle.package_jobs.specs.Written.{files_of}
use Rattle.package_jobs.proofs.Plans.{runs_same}
use Rattle.package_jobs.proofs.job.job_with.Goals as goal

pub returns-clause-run : goal.returns-clause-run
returns-clause-run c =
    let job : Job = record {
      scenario = c.args.scenario;
      plain = c.is_plain.result;
      said = c.in_ok-said.said;
      new_scripts = c.in_ok-new_scripts.new_scripts;
      old_scripts = c.in_ok-old_scripts.old_scripts;
      files = c.in_ok-files.files;
      premises = c.in_ok-premises.premises;
      turns = c.args.turns;
    } in
    let packages = c.args.packages.now in
    runs_same job c.args.scenario packages c.args.turns refl c.is_plain.ensures c.in_ok-said.ensures
    (subst (DoTheSame packages.new_package.scripts) (sym c.in_ok-new_scripts.ensures) c.requires.new_package)
    (subst (DoTheSame (old_of packages).scripts) (sym c.in_ok-old_scripts.ensures) c.requires.old_package)
    (c.in_ok-files.ensures
    ∙ ap (λ (it : Package). files_of c.args.scenario packages.new_package.entries it.entries packages.base) c.old_package-old.ensures)
    (c.in_ok-premises.ensures ∙ c.in_ok-stated.ensures)
    refl

use Rattle.std.proofs.Common.{map, ap, ◌∙◌}
use Rattle.std.specs.Prelude.{reverse}
use Rattle.package_lists.specs.PathSets.{has}
use Rattle.package_jobs.proofs.FileSteps.{conf_answer}
use Rattle.package_jobs.proofs.step_acts.acts_of_step.Goals as goal

pub returns-in_ok-back-in-RemoveConf : goal.returns-in_ok-back-in-RemoveConf
returns-in_ok-back-in-RemoveConf c =
    conf_answer c.args.scenario c.args.work c.args.new.now c.args.old.now c.args.base.now _ (has c.args.kept.now) c.in-RemoveConf.is
    (ap (map (λ entry. entry.now)) c.as_slice-in-RemoveConf-2.ensures.value ∙ c.in_ok-back-in-RemoveConf.ensures ∙ ap reverse c.as_slice-in-RemoveConf.ensures)
    c.requires
    c.remove_conf.result c.remove_conf.ensures

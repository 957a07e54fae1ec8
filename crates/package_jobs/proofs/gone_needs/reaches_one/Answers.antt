use Rattle.std.proofs.Common.{ap, sym, ◌∙◌}
use Rattle.package_lists.specs.Paths.{path_text}
use Rattle.package_lists.specs.PathSets.{has}
use Rattle.package_jobs.specs.StartTrees.{reaches_one}
use Rattle.package_jobs.proofs.gone_needs.reaches_one.Goals as goal

pub returns-in_ok-text-in-At : goal.returns-in_ok-text-in-At
returns-in_ok-text-in-At c =
    c.has-answer.ensures
    ∙ ap (has c.args.set.now) (c.as_slice.ensures ∙ c.in_ok-text-in-At.ensures ∙ ap path_text c.names.ensures.names)
    ∙ ap (reaches_one (has c.args.set.now)) (sym c.in-At.is)

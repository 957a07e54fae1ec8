use Rattle.std.proofs.Common.{ap, ◌∙◌}
use Rattle.script_names.specs.Paths.{PathParts}
use Rattle.package_lists.specs.Paths.{path_text}
use Rattle.package_lists.specs.PathSets.{has}
use Rattle.package_lists.proofs.entry_sets.has_entry.Goals as goal

pub returns : goal.returns
returns c =
    c.has-answer.ensures
    ∙ ap (has c.args.set.now) (c.as_slice.ensures ∙ c.in_ok-path.ensures ∙ ap path_text (c.names.ensures.names ∙ ap (λ (p : PathParts). p.names) c.path.ensures.path))

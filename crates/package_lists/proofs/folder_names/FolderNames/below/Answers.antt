use Rattle.std.proofs.Common.{ap, ◌∙◌}
use Rattle.package_lists.specs.FolderNames.{names_at}
use Rattle.package_lists.specs.Paths.{path_text}
use Rattle.package_lists.proofs.folder_names.FolderNames.below.Goals as goal

pub returns : goal.returns
returns c =
    c.in_ok-names.ensures
    ∙ ap (names_at c.args.self.now) (c.as_slice.ensures ∙ c.in_ok-text.ensures ∙ ap path_text c.names.ensures.names)

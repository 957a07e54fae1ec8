use Rattle.std.proofs.Common.{None}
use Rattle.package_lists.proofs.NamesBelow.{others}
use Rattle.package_lists.proofs.folder_names.FolderNames.take.Goals as goal

pub returns-in-Some-clause-others : goal.returns-in-Some-clause-others
returns-in-Some-clause-others c other e =
    others c.args.self.now.names c.remove.new.self c.args.path.now other None c.in-Some.ensures.updates e

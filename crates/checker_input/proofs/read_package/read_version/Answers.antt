use Rattle.checker_input.specs.declared.names.PackageFile.TheVariants as of_package
use Rattle.checker_input.specs.Input.{ControlComes, file_in, version_in}
use Rattle.checker_input.proofs.Files.{file_read, file_unread}
use Rattle.checker_input.proofs.read_package.read_version.Goals as goal

pub returns-in-Err : goal.returns-in-Err
unfolding version_in
returns-in-Err g c =
    file_unread ControlComes (file_in c.args.folder.now of_package.Control) (g.S.Shelf.state c.args.shelf.now) (g.S.Shelf.state c.read_own.new.shelf)
    c.in-Err.stop c.in-Err.ensures

pub returns : goal.returns
unfolding version_in
returns g c =
    file_read ControlComes (file_in c.args.folder.now of_package.Control) (g.S.Shelf.state c.args.shelf.now) (g.S.Shelf.state c.read_own.new.shelf)
    c.in-Ok.found c.control_version-came.result c.of_file.result c.in-Ok.ensures c.control_version-came.ensures c.of_file.ensures

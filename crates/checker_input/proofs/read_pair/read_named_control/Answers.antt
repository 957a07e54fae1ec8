use Rattle.checker_input.specs.declared.names.PackageFile.TheVariants as of_package
use Rattle.checker_input.specs.Input.{NamedControlComes, file_in, named_control_in}
use Rattle.checker_input.proofs.Files.{file_read, file_unread}
use Rattle.checker_input.proofs.read_pair.read_named_control.Goals as goal

pub returns-in-Err : goal.returns-in-Err
unfolding named_control_in
returns-in-Err g c =
    file_unread NamedControlComes (file_in c.args.folder.now of_package.Control) (g.S.Shelf.state c.args.shelf.now) (g.S.Shelf.state c.read_own.new.shelf)
    c.in-Err.stop c.in-Err.ensures

pub returns : goal.returns
unfolding named_control_in
returns g c =
    file_read NamedControlComes (file_in c.args.folder.now of_package.Control) (g.S.Shelf.state c.args.shelf.now) (g.S.Shelf.state c.read_own.new.shelf)
    c.in-Ok.found c.named_control-came.result c.of_file.result c.in-Ok.ensures c.named_control-came.ensures c.of_file.ensures

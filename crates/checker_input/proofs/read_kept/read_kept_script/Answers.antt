use Rattle.checker_input.specs.declared.names.PackageFile.TheVariants as of_package
use Rattle.checker_input.specs.Input.{KeptComes, file_in, kept_script_in}
use Rattle.checker_input.proofs.Files.{file_read, file_unread}
use Rattle.checker_input.proofs.read_kept.read_kept_script.Goals as goal

pub returns-in-Err : goal.returns-in-Err
unfolding kept_script_in
returns-in-Err g c =
    file_unread KeptComes (file_in c.args.folder.now (of_package.Script c.args.kind)) (g.S.Shelf.state c.args.shelf.now) (g.S.Shelf.state c.read_own.new.shelf)
    c.in-Err.stop c.in-Err.ensures

pub returns : goal.returns
unfolding kept_script_in
returns g c =
    file_read KeptComes (file_in c.args.folder.now (of_package.Script c.args.kind)) (g.S.Shelf.state c.args.shelf.now) (g.S.Shelf.state c.read_own.new.shelf)
    c.in-Ok.found c.kept_script-came.result c.of_file.result c.in-Ok.ensures c.kept_script-came.ensures c.of_file.ensures

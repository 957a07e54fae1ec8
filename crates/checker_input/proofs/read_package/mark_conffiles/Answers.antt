use Rattle.checker_input.specs.declared.names.PackageFile.TheVariants as of_package
use Rattle.checker_input.specs.Input.{ConffilesCome, file_in, conffiles_in}
use Rattle.checker_input.proofs.Files.{file_read, file_unread}
use Rattle.checker_input.proofs.read_package.mark_conffiles.Goals as goal

pub returns-in-Err : goal.returns-in-Err
unfolding conffiles_in
returns-in-Err g c =
    file_unread (ConffilesCome c.args.entries) (file_in c.args.folder.now of_package.Conffiles) (g.S.Shelf.state c.args.shelf.now) (g.S.Shelf.state c.read_own.new.shelf)
    c.in-Err.stop c.in-Err.ensures

pub returns : goal.returns
unfolding conffiles_in
returns g c =
    file_read (ConffilesCome c.args.entries) (file_in c.args.folder.now of_package.Conffiles) (g.S.Shelf.state c.args.shelf.now) (g.S.Shelf.state c.read_own.new.shelf)
    c.in-Ok.found c.marked_entries-came.result c.of_file.result c.in-Ok.ensures c.marked_entries-came.ensures c.of_file.ensures

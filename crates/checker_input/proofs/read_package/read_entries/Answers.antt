use Rattle.std.proofs.Common.{Ok, Err, ap, ◌∙◌}
use Rattle.checker_input.specs.declared.names.PackageFile.TheVariants as of_package
use Rattle.checker_input.specs.Input.{ListComes, file_in, list_in}
use Rattle.checker_input.proofs.Files.{entries_few, file_read, file_unread}
use Rattle.checker_input.proofs.read_package.read_entries.Goals as goal

pub new-requires : goal.new-requires
new-requires g c =
    entries_few (file_in c.args.folder.now of_package.List) (g.S.Shelf.state c.args.shelf.now) (g.S.Shelf.state c.read_own.new.shelf)
    c.in-Ok.found c.list_entries-came.result c.in-Ok-of_file.entries c.in-Ok.ensures c.list_entries-came.ensures.few c.in-Ok-of_file.ensures

pub returns-in-Err : goal.returns-in-Err
unfolding list_in
returns-in-Err g c =
    file_unread ListComes (file_in c.args.folder.now of_package.List) (g.S.Shelf.state c.args.shelf.now) (g.S.Shelf.state c.read_own.new.shelf)
    c.in-Err.stop c.in-Err.ensures

pub returns-in-Ok-of_file : goal.returns-in-Ok-of_file
unfolding list_in
returns-in-Ok-of_file g c =
    file_read ListComes (file_in c.args.folder.now of_package.List) (g.S.Shelf.state c.args.shelf.now) (g.S.Shelf.state c.read_own.new.shelf)
    c.in-Ok.found c.list_entries-came.result (Ok c.new.result) c.in-Ok.ensures c.list_entries-came.ensures.comes
    (ap Ok c.new.ensures ∙ c.in-Ok-of_file.ensures)

pub returns : goal.returns
unfolding list_in
returns g c =
    file_read ListComes (file_in c.args.folder.now of_package.List) (g.S.Shelf.state c.args.shelf.now) (g.S.Shelf.state c.read_own.new.shelf)
    c.in-Ok.found c.list_entries-came.result (Err c.in-Err-of_file.stop) c.in-Ok.ensures c.list_entries-came.ensures.comes
    c.in-Err-of_file.ensures

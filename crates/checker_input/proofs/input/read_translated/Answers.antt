use Rattle.checker_input.specs.Input.{TranslatedComes, translated_in}
use Rattle.checker_input.proofs.Files.{file_read, file_unread}
use Rattle.checker_input.proofs.input.read_translated.Goals as goal

pub returns-in-Err : goal.returns-in-Err
unfolding translated_in
returns-in-Err g c =
    file_unread TranslatedComes c.args.file.now (g.S.Shelf.state c.args.shelf.now) (g.S.Shelf.state c.read_named.new.shelf) c.in-Err.stop c.in-Err.ensures

pub returns : goal.returns
unfolding translated_in
returns g c =
    file_read TranslatedComes c.args.file.now (g.S.Shelf.state c.args.shelf.now) (g.S.Shelf.state c.read_named.new.shelf)
    c.in-Ok.found c.translated_script-came.result c.of_file.result c.in-Ok.ensures c.translated_script-came.ensures c.of_file.ensures

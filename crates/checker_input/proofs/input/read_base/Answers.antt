use Rattle.checker_input.specs.Input.{BaseComes}
use Rattle.checker_input.proofs.Files.{file_read, file_unread}
use Rattle.checker_input.proofs.Requests.{base_named, base_usual}
use Rattle.checker_input.proofs.input.read_base.Goals as goal

pub returns-in_ok-base-in-None : goal.returns-in_ok-base-in-None
returns-in_ok-base-in-None g c =
    let s = (g.S.Shelf.state c.args.shelf.now) in
    base_usual s s s c.args.named.now c.in_ok-base-in-None.base c.in-None.is c.in_ok-base-in-None.ensures.usual

pub returns-in-Err : goal.returns-in-Err
returns-in-Err g c =
    let s = (g.S.Shelf.state c.args.shelf.now) in
    let t = (g.S.Shelf.state c.read_named.new.shelf) in
    base_named s t t c.args.named.now _ _ c.in-Some.is (file_unread BaseComes _ s t c.in-Err.stop c.in-Err.ensures)

pub returns-in-Ok : goal.returns-in-Ok
returns-in-Ok g c =
    let s = (g.S.Shelf.state c.args.shelf.now) in
    let t = (g.S.Shelf.state c.read_named.new.shelf) in
    base_named s t t c.args.named.now _ _ c.in-Some.is
    (file_read BaseComes _ s t c.in-Ok.found c.named_base-came.result c.of_file.result c.in-Ok.ensures c.named_base-came.ensures c.of_file.ensures)

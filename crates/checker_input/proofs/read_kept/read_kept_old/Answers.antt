use Rattle.checker_input.proofs.Requests.{kept_old_none, kept_old_some, kept_old_stops}
use Rattle.checker_input.proofs.read_kept.read_kept_old.Goals as goal

pub returns-in-None : goal.returns-in-None
returns-in-None g c = let s = (g.S.Shelf.state c.args.shelf.now) in kept_old_none s s s c.args.named.now c.in-None.is

pub returns-in-Ok : goal.returns-in-Ok
returns-in-Ok g c =
    let s = (g.S.Shelf.state c.args.shelf.now) in
    let t = (g.S.Shelf.state c.read_kept_package.new.shelf) in
    kept_old_some s t t c.args.named.now _ c.in-Ok.own c.in-Some.is c.in-Ok.ensures

pub returns-in-Err : goal.returns-in-Err
returns-in-Err g c =
    let s = (g.S.Shelf.state c.args.shelf.now) in
    let t = (g.S.Shelf.state c.read_kept_package.new.shelf) in
    kept_old_stops s t t c.args.named.now _ c.in-Err.stop c.in-Some.is c.in-Err.ensures

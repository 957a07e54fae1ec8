use Rattle.std.proofs.Common.{Ok}
use Rattle.checker_io.proofs.Readings.{reads_done, reads_next, reads_stop}
use Rattle.checker_input.specs.Input.{kept_in, packages_in}
use Rattle.checker_input.proofs.Plans.{after_read}
use Rattle.checker_input.proofs.read_kept.read_packages.Goals as goal

pub returns-in-Err : goal.returns-in-Err
unfolding packages_in
returns-in-Err g c =
    reads_stop (λ n. n) (g.S.Shelf.state c.args.shelf.now) (g.S.Shelf.state c.read_kept.new.shelf) (kept_in c.args.folders.now) after_read c.in-Err.stop c.in-Err.ensures

pub returns-in-Ok : goal.returns-in-Ok
unfolding packages_in
returns-in-Ok g c =
    reads_next (λ n. n) (g.S.Shelf.state c.args.shelf.now) (g.S.Shelf.state c.read_kept.new.shelf) (g.S.Shelf.state c.read_kept.new.shelf) (kept_in c.args.folders.now) after_read c.in-Ok.kept (Ok c.in-Ok.kept.packages) c.in-Ok.ensures (
    reads_done (λ n. n) (g.S.Shelf.state c.read_kept.new.shelf) c.in-Ok.kept.packages)

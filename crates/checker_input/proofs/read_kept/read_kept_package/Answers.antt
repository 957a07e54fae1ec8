use Rattle.std.proofs.Common.{Ok, Err}
use Rattle.checker_io.proofs.Readings.{reads_next, reads_stop}
use Rattle.checker_input.specs.Input.{kept_package_in, version_in}
use Rattle.checker_input.proofs.Plans.{after_kept_version}
use Rattle.checker_input.proofs.read_kept.read_kept_package.Goals as goal

pub returns-in-Err : goal.returns-in-Err
unfolding kept_package_in
returns-in-Err g c =
    reads_stop (λ n. n) (g.S.Shelf.state c.args.shelf.now) (g.S.Shelf.state c.read_version.new.shelf) (version_in c.args.folder.now) (after_kept_version c.args.folder.now) c.in-Err.stop c.in-Err.ensures

pub returns-in-Ok-read_kept_with : goal.returns-in-Ok-read_kept_with
unfolding kept_package_in
returns-in-Ok-read_kept_with g c =
    reads_next (λ n. n) (g.S.Shelf.state c.args.shelf.now) (g.S.Shelf.state c.read_version.new.shelf) (g.S.Shelf.state c.read_kept_with.new.shelf) (version_in c.args.folder.now) (after_kept_version c.args.folder.now) c.in-Ok.version (Ok c.in-Ok-read_kept_with.own) c.in-Ok.ensures c.in-Ok-read_kept_with.ensures

pub returns-in-Err-read_kept_with : goal.returns-in-Err-read_kept_with
unfolding kept_package_in
returns-in-Err-read_kept_with g c =
    reads_next (λ n. n) (g.S.Shelf.state c.args.shelf.now) (g.S.Shelf.state c.read_version.new.shelf) (g.S.Shelf.state c.read_kept_with.new.shelf) (version_in c.args.folder.now) (after_kept_version c.args.folder.now) c.in-Ok.version (Err c.in-Err-read_kept_with.stop) c.in-Ok.ensures c.in-Err-read_kept_with.ensures

use Rattle.std.proofs.Common.{Ok, Err}
use Rattle.checker_io.proofs.Readings.{reads_done, reads_next, reads_stop}
use Rattle.checker_input.specs.Input.{named_control_in, named_package_in, kept_with}
use Rattle.checker_input.specs.declared.package.NamedPackage.{NamedPackage}
use Rattle.checker_input.proofs.Plans.{after_control, after_named}
use Rattle.checker_input.proofs.read_pair.read_named_package.Goals as goal

pub returns-in-Err : goal.returns-in-Err
unfolding named_package_in
returns-in-Err g c =
    reads_stop (λ n. n) (g.S.Shelf.state c.args.shelf.now) (g.S.Shelf.state c.read_named_control.new.shelf) (named_control_in c.args.folder.now) (after_control c.args.folder.now) c.in-Err.stop c.in-Err.ensures

pub returns-in-Err-read_kept_with : goal.returns-in-Err-read_kept_with
unfolding named_package_in
returns-in-Err-read_kept_with g c =
    reads_next (λ n. n) (g.S.Shelf.state c.args.shelf.now) (g.S.Shelf.state c.read_named_control.new.shelf) (g.S.Shelf.state c.read_kept_with.new.shelf) (named_control_in c.args.folder.now) (after_control c.args.folder.now) c.in-Ok.control (Err c.in-Err-read_kept_with.stop) c.in-Ok.ensures (
    reads_stop (λ n. n) (g.S.Shelf.state c.read_named_control.new.shelf) (g.S.Shelf.state c.read_kept_with.new.shelf) (kept_with c.args.folder.now c.in-Ok.control.version) (after_named c.in-Ok.control.name) c.in-Err-read_kept_with.stop c.in-Err-read_kept_with.ensures)

pub returns-in-Ok-read_kept_with : goal.returns-in-Ok-read_kept_with
unfolding named_package_in
returns-in-Ok-read_kept_with g c =
    let value : NamedPackage = record { name = c.in-Ok.control.name; own = c.in-Ok-read_kept_with.kept.own } in
    reads_next (λ n. n) (g.S.Shelf.state c.args.shelf.now) (g.S.Shelf.state c.read_named_control.new.shelf) (g.S.Shelf.state c.read_kept_with.new.shelf) (named_control_in c.args.folder.now) (after_control c.args.folder.now) c.in-Ok.control (Ok value) c.in-Ok.ensures (
    reads_next (λ n. n) (g.S.Shelf.state c.read_named_control.new.shelf) (g.S.Shelf.state c.read_kept_with.new.shelf) (g.S.Shelf.state c.read_kept_with.new.shelf) (kept_with c.args.folder.now c.in-Ok.control.version) (after_named c.in-Ok.control.name) c.in-Ok-read_kept_with.kept (Ok value) c.in-Ok-read_kept_with.ensures (
    reads_done (λ n. n) (g.S.Shelf.state c.read_kept_with.new.shelf) value))

use Rattle.std.proofs.Common.{None, Ok, Err}
use Rattle.checker_io.proofs.Readings.{reads_done, reads_next, reads_stop}
use Rattle.checker_input.specs.Input.{base_in, named_package_in, twice_in}
use Rattle.checker_input.specs.declared.package.Packages.{Packages}
use Rattle.checker_input.proofs.Plans.{after_twice_base, after_alone}
use Rattle.checker_input.proofs.read_pair.read_twice.Goals as goal

pub returns-in-Err : goal.returns-in-Err
unfolding twice_in
returns-in-Err g c =
    reads_stop (λ n. n) (g.S.Shelf.state c.args.shelf.now) (g.S.Shelf.state c.read_base.new.shelf) (base_in c.args.base.now) (after_twice_base c.args.dir.now) c.in-Err.stop c.in-Err.ensures

pub returns-in-Err-read_named_package : goal.returns-in-Err-read_named_package
unfolding twice_in
returns-in-Err-read_named_package g c =
    reads_next (λ n. n) (g.S.Shelf.state c.args.shelf.now) (g.S.Shelf.state c.read_base.new.shelf) (g.S.Shelf.state c.read_named_package.new.shelf) (base_in c.args.base.now) (after_twice_base c.args.dir.now) c.in-Ok.base (Err c.in-Err-read_named_package.stop) c.in-Ok.ensures (
    reads_stop (λ n. n) (g.S.Shelf.state c.read_base.new.shelf) (g.S.Shelf.state c.read_named_package.new.shelf) (named_package_in c.args.dir.now) (after_alone c.in-Ok.base) c.in-Err-read_named_package.stop c.in-Err-read_named_package.ensures)

pub returns : goal.returns
unfolding twice_in
returns g c =
    let own = c.in-Ok-read_named_package.named in
    let value : Packages = record { new_package = own.own; old_package = None; base = c.in-Ok.base; name = own.name } in
    reads_next (λ n. n) (g.S.Shelf.state c.args.shelf.now) (g.S.Shelf.state c.read_base.new.shelf) (g.S.Shelf.state c.read_named_package.new.shelf) (base_in c.args.base.now) (after_twice_base c.args.dir.now) c.in-Ok.base (Ok value) c.in-Ok.ensures (
    reads_next (λ n. n) (g.S.Shelf.state c.read_base.new.shelf) (g.S.Shelf.state c.read_named_package.new.shelf) (g.S.Shelf.state c.read_named_package.new.shelf) (named_package_in c.args.dir.now) (after_alone c.in-Ok.base) own (Ok value) c.in-Ok-read_named_package.ensures (
    reads_done (λ n. n) (g.S.Shelf.state c.read_named_package.new.shelf) value))

use Rattle.std.proofs.Common.{Some, Ok, Err}
use Rattle.checker_io.proofs.Readings.{reads_done, reads_next, reads_stop}
use Rattle.checker_input.specs.Input.{base_in, named_package_in, kept_package_in, pair_in}
use Rattle.checker_input.specs.declared.package.Packages.{Packages}
use Rattle.checker_input.proofs.Plans.{after_pair_base, after_own, after_other}
use Rattle.checker_input.proofs.read_pair.read_pair.Goals as goal

pub returns-in-Err : goal.returns-in-Err
unfolding pair_in
returns-in-Err g c =
    reads_stop (λ n. n) (g.S.Shelf.state c.args.shelf.now) (g.S.Shelf.state c.read_base.new.shelf) (base_in c.args.base.now) (after_pair_base c.args.dir.now c.args.other.now) c.in-Err.stop c.in-Err.ensures

pub returns-in-Err-read_named_package : goal.returns-in-Err-read_named_package
unfolding pair_in
returns-in-Err-read_named_package g c =
    reads_next (λ n. n) (g.S.Shelf.state c.args.shelf.now) (g.S.Shelf.state c.read_base.new.shelf) (g.S.Shelf.state c.read_named_package.new.shelf) (base_in c.args.base.now) (after_pair_base c.args.dir.now c.args.other.now) c.in-Ok.base (Err c.in-Err-read_named_package.stop) c.in-Ok.ensures (
    reads_stop (λ n. n) (g.S.Shelf.state c.read_base.new.shelf) (g.S.Shelf.state c.read_named_package.new.shelf) (named_package_in c.args.dir.now) (after_own c.args.other.now c.in-Ok.base) c.in-Err-read_named_package.stop c.in-Err-read_named_package.ensures)

pub returns-in-Err-read_kept_package : goal.returns-in-Err-read_kept_package
unfolding pair_in
returns-in-Err-read_kept_package g c =
    reads_next (λ n. n) (g.S.Shelf.state c.args.shelf.now) (g.S.Shelf.state c.read_base.new.shelf) (g.S.Shelf.state c.read_kept_package.new.shelf) (base_in c.args.base.now) (after_pair_base c.args.dir.now c.args.other.now) c.in-Ok.base (Err c.in-Err-read_kept_package.stop) c.in-Ok.ensures (
    reads_next (λ n. n) (g.S.Shelf.state c.read_base.new.shelf) (g.S.Shelf.state c.read_named_package.new.shelf) (g.S.Shelf.state c.read_kept_package.new.shelf) (named_package_in c.args.dir.now) (after_own c.args.other.now c.in-Ok.base) c.in-Ok-read_named_package.named (Err c.in-Err-read_kept_package.stop) c.in-Ok-read_named_package.ensures (
    reads_stop (λ n. n) (g.S.Shelf.state c.read_named_package.new.shelf) (g.S.Shelf.state c.read_kept_package.new.shelf) (kept_package_in c.args.other.now) (after_other c.in-Ok.base c.in-Ok-read_named_package.named) c.in-Err-read_kept_package.stop c.in-Err-read_kept_package.ensures))

pub returns : goal.returns
unfolding pair_in
returns g c =
    let own = c.in-Ok-read_named_package.named in
    let value : Packages = record { new_package = own.own; old_package = Some c.in-Ok-read_kept_package.before.own; base = c.in-Ok.base; name = own.name } in
    reads_next (λ n. n) (g.S.Shelf.state c.args.shelf.now) (g.S.Shelf.state c.read_base.new.shelf) (g.S.Shelf.state c.read_kept_package.new.shelf) (base_in c.args.base.now) (after_pair_base c.args.dir.now c.args.other.now) c.in-Ok.base (Ok value) c.in-Ok.ensures (
    reads_next (λ n. n) (g.S.Shelf.state c.read_base.new.shelf) (g.S.Shelf.state c.read_named_package.new.shelf) (g.S.Shelf.state c.read_kept_package.new.shelf) (named_package_in c.args.dir.now) (after_own c.args.other.now c.in-Ok.base) own (Ok value) c.in-Ok-read_named_package.ensures (
    reads_next (λ n. n) (g.S.Shelf.state c.read_named_package.new.shelf) (g.S.Shelf.state c.read_kept_package.new.shelf) (g.S.Shelf.state c.read_kept_package.new.shelf) (kept_package_in c.args.other.now) (after_other c.in-Ok.base own) c.in-Ok-read_kept_package.before (Ok value) c.in-Ok-read_kept_package.ensures (
    reads_done (λ n. n) (g.S.Shelf.state c.read_kept_package.new.shelf) value)))

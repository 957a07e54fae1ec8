use Rattle.std.proofs.Common.{ℕ, List, [], Ok, Err, sym, subst}
use Rattle.command_words.specs.declared.request.Folders.{Folders}
use Rattle.checker_io.proofs.Readings.{reads_done, reads_next, reads_stop}
use Rattle.checker_input.specs.declared.sources.Kept.{Kept}
use Rattle.checker_input.specs.Input.{ReadsInput, base_in, kept_all, kept_old_in, kept_package_in, kept_in}
use Rattle.checker_input.proofs.Plans.{after_kept_base, after_kept_old, after_kept_new}
use Rattle.checker_input.proofs.read_kept.read_kept.Goals as goal

pub returns-in-Err : goal.returns-in-Err
unfolding kept_in
returns-in-Err g c =
    reads_stop (λ n. n) (g.S.Shelf.state c.args.shelf.now) (g.S.Shelf.state c.read_base.new.shelf) (base_in c.args.folders.now.base) (after_kept_base c.args.folders.now) c.in-Err.stop c.in-Err.ensures

pub returns-in-Err-read_kept_old : goal.returns-in-Err-read_kept_old
unfolding kept_in
returns-in-Err-read_kept_old g c =
    reads_next (λ n. n) (g.S.Shelf.state c.args.shelf.now) (g.S.Shelf.state c.read_base.new.shelf) (g.S.Shelf.state c.read_kept_old.new.shelf) (base_in c.args.folders.now.base) (after_kept_base c.args.folders.now) c.in-Ok-read_base.base (Err c.in-Err-read_kept_old.stop) c.in-Ok-read_base.ensures (
    reads_stop (λ n. n) (g.S.Shelf.state c.read_base.new.shelf) (g.S.Shelf.state c.read_kept_old.new.shelf) (kept_old_in c.args.folders.now.old) (after_kept_old c.args.folders.now c.in-Ok-read_base.base) c.in-Err-read_kept_old.stop c.in-Err-read_kept_old.ensures)

pub returns-in-Err-read_kept_package : goal.returns-in-Err-read_kept_package
unfolding kept_in
returns-in-Err-read_kept_package g c =
    reads_next (λ n. n) (g.S.Shelf.state c.args.shelf.now) (g.S.Shelf.state c.read_base.new.shelf) (g.S.Shelf.state c.read_kept_package.new.shelf) (base_in c.args.folders.now.base) (after_kept_base c.args.folders.now) c.in-Ok-read_base.base (Err c.in-Err-read_kept_package.stop) c.in-Ok-read_base.ensures (
    reads_next (λ n. n) (g.S.Shelf.state c.read_base.new.shelf) (g.S.Shelf.state c.read_kept_old.new.shelf) (g.S.Shelf.state c.read_kept_package.new.shelf) (kept_old_in c.args.folders.now.old) (after_kept_old c.args.folders.now c.in-Ok-read_base.base) c.in-Ok-read_kept_old.before (Err c.in-Err-read_kept_package.stop) c.in-Ok-read_kept_old.ensures (
    reads_stop (λ n. n) (g.S.Shelf.state c.read_kept_old.new.shelf) (g.S.Shelf.state c.read_kept_package.new.shelf) (kept_package_in c.args.folders.now.dir) (after_kept_new c.args.folders.now c.in-Ok-read_base.base c.in-Ok-read_kept_old.before) c.in-Err-read_kept_package.stop c.in-Err-read_kept_package.ensures))

pub returns : goal.returns
unfolding kept_in
returns g c =
    let value = kept_all c.args.folders.now c.in-Ok-read_base.base c.in-Ok-read_kept_old.before c.in-Ok-read_kept_package.own in
    let made : Folders → List ℕ → Kept = λ folders name. record {
      packages = record {
        new_package = c.in-Ok-read_kept_package.own.own;
        old_package = c.in-Ok-read_kept_old.before.own;
        base = c.in-Ok-read_base.base;
        name = name;
      };
      sources = record {
        folders = folders;
        new_texts = c.in-Ok-read_kept_package.own.texts;
        old_texts = c.in-Ok-read_kept_old.before.texts;
      };
    } in
    let Reads : Kept → Type 0 = λ kept. ReadsInput (g.S.Shelf.state c.args.shelf.now) (g.S.Shelf.state c.read_kept_package.new.shelf) (kept_in c.args.folders.now) (Ok kept) in
    subst (λ (name : List ℕ). Reads (made c.in-Ok.names name)) (sym c.new.ensures) (
    subst (λ (folders : Folders). Reads (made folders [])) (sym c.in-Ok.ensures) (
    reads_next (λ n. n) (g.S.Shelf.state c.args.shelf.now) (g.S.Shelf.state c.read_base.new.shelf) (g.S.Shelf.state c.read_kept_package.new.shelf) (base_in c.args.folders.now.base) (after_kept_base c.args.folders.now) c.in-Ok-read_base.base (Ok value) c.in-Ok-read_base.ensures (
    reads_next (λ n. n) (g.S.Shelf.state c.read_base.new.shelf) (g.S.Shelf.state c.read_kept_old.new.shelf) (g.S.Shelf.state c.read_kept_package.new.shelf) (kept_old_in c.args.folders.now.old) (after_kept_old c.args.folders.now c.in-Ok-read_base.base) c.in-Ok-read_kept_old.before (Ok value) c.in-Ok-read_kept_old.ensures (
    reads_next (λ n. n) (g.S.Shelf.state c.read_kept_old.new.shelf) (g.S.Shelf.state c.read_kept_package.new.shelf) (g.S.Shelf.state c.read_kept_package.new.shelf) (kept_package_in c.args.folders.now.dir) (after_kept_new c.args.folders.now c.in-Ok-read_base.base c.in-Ok-read_kept_old.before) c.in-Ok-read_kept_package.own (Ok value) c.in-Ok-read_kept_package.ensures (
    reads_done (λ n. n) (g.S.Shelf.state c.read_kept_package.new.shelf) value)))))

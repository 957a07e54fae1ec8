use Rattle.std.proofs.Common.{Ok, Err}
use Rattle.checker_io.proofs.Readings.{reads_done, reads_next, reads_stop}
use Rattle.checker_input.specs.Input.{conffiles_in, list_in, kept_of, kept_with, kept_scripts_in}
use Rattle.checker_input.proofs.Plans.{after_kept_list, after_kept_conffiles, after_kept_scripts}
use Rattle.checker_input.proofs.read_kept.read_kept_with.Goals as goal

pub returns-in-Err : goal.returns-in-Err
unfolding kept_with
returns-in-Err g c =
    reads_stop (λ n. n) (g.S.Shelf.state c.args.shelf.now) (g.S.Shelf.state c.read_entries.new.shelf) (list_in c.args.folder.now) (after_kept_list c.args.folder.now c.args.version) c.in-Err.stop c.in-Err.ensures

pub returns-in-Err-mark_conffiles : goal.returns-in-Err-mark_conffiles
unfolding kept_with
returns-in-Err-mark_conffiles g c =
    reads_next (λ n. n) (g.S.Shelf.state c.args.shelf.now) (g.S.Shelf.state c.read_entries.new.shelf) (g.S.Shelf.state c.mark_conffiles.new.shelf) (list_in c.args.folder.now) (after_kept_list c.args.folder.now c.args.version) c.in-Ok.listed (Err c.in-Err-mark_conffiles.stop) c.in-Ok.ensures (
    reads_stop (λ n. n) (g.S.Shelf.state c.read_entries.new.shelf) (g.S.Shelf.state c.mark_conffiles.new.shelf) (conffiles_in c.args.folder.now c.in-Ok.listed) (after_kept_conffiles c.args.folder.now c.args.version) c.in-Err-mark_conffiles.stop c.in-Err-mark_conffiles.ensures)

pub returns-in-Err-read_kept_scripts : goal.returns-in-Err-read_kept_scripts
unfolding kept_with
returns-in-Err-read_kept_scripts g c =
    reads_next (λ n. n) (g.S.Shelf.state c.args.shelf.now) (g.S.Shelf.state c.read_entries.new.shelf) (g.S.Shelf.state c.read_kept_scripts.new.shelf) (list_in c.args.folder.now) (after_kept_list c.args.folder.now c.args.version) c.in-Ok.listed (Err c.in-Err-read_kept_scripts.stop) c.in-Ok.ensures (
    reads_next (λ n. n) (g.S.Shelf.state c.read_entries.new.shelf) (g.S.Shelf.state c.mark_conffiles.new.shelf) (g.S.Shelf.state c.read_kept_scripts.new.shelf) (conffiles_in c.args.folder.now c.in-Ok.listed) (after_kept_conffiles c.args.folder.now c.args.version) c.in-Ok-mark_conffiles.entries (Err c.in-Err-read_kept_scripts.stop) c.in-Ok-mark_conffiles.ensures (
    reads_stop (λ n. n) (g.S.Shelf.state c.mark_conffiles.new.shelf) (g.S.Shelf.state c.read_kept_scripts.new.shelf) (kept_scripts_in c.args.folder.now) (after_kept_scripts c.args.version c.in-Ok-mark_conffiles.entries) c.in-Err-read_kept_scripts.stop c.in-Err-read_kept_scripts.ensures))

pub returns : goal.returns
unfolding kept_with
returns g c =
    let value = kept_of c.args.version c.in-Ok-mark_conffiles.entries c.in-Ok-read_kept_scripts.kept in
    reads_next (λ n. n) (g.S.Shelf.state c.args.shelf.now) (g.S.Shelf.state c.read_entries.new.shelf) (g.S.Shelf.state c.read_kept_scripts.new.shelf) (list_in c.args.folder.now) (after_kept_list c.args.folder.now c.args.version) c.in-Ok.listed (Ok value) c.in-Ok.ensures (
    reads_next (λ n. n) (g.S.Shelf.state c.read_entries.new.shelf) (g.S.Shelf.state c.mark_conffiles.new.shelf) (g.S.Shelf.state c.read_kept_scripts.new.shelf) (conffiles_in c.args.folder.now c.in-Ok.listed) (after_kept_conffiles c.args.folder.now c.args.version) c.in-Ok-mark_conffiles.entries (Ok value) c.in-Ok-mark_conffiles.ensures (
    reads_next (λ n. n) (g.S.Shelf.state c.mark_conffiles.new.shelf) (g.S.Shelf.state c.read_kept_scripts.new.shelf) (g.S.Shelf.state c.read_kept_scripts.new.shelf) (kept_scripts_in c.args.folder.now) (after_kept_scripts c.args.version c.in-Ok-mark_conffiles.entries) c.in-Ok-read_kept_scripts.kept (Ok value) c.in-Ok-read_kept_scripts.ensures (
    reads_done (λ n. n) (g.S.Shelf.state c.read_kept_scripts.new.shelf) value)))

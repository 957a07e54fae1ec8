use Rattle.std.proofs.Common.{Ok, Err}
use Rattle.checker_io.proofs.Readings.{reads_done, reads_next, reads_stop}
use Rattle.dpkg_scenarios.specs.declared.scenario.ScriptKind.TheVariants.{Preinst, Postinst, Prerm, Postrm}
use Rattle.checker_input.specs.Input.{kept_apart, kept_script_in, kept_scripts_in}
use Rattle.checker_input.proofs.Plans.{after_kept_preinst, after_kept_postinst, after_kept_prerm, after_kept_postrm}
use Rattle.checker_input.proofs.read_kept.read_kept_scripts.Goals as goal

pub returns-in-Err : goal.returns-in-Err
unfolding kept_scripts_in
returns-in-Err g c =
    reads_stop (λ n. n) (g.S.Shelf.state c.args.shelf.now) (g.S.Shelf.state c.read_kept_script.new.shelf) (kept_script_in c.args.folder.now Preinst) (after_kept_preinst c.args.folder.now) c.in-Err.stop c.in-Err.ensures

pub returns-in-Err-read_kept_script : goal.returns-in-Err-read_kept_script
unfolding kept_scripts_in
returns-in-Err-read_kept_script g c =
    reads_next (λ n. n) (g.S.Shelf.state c.args.shelf.now) (g.S.Shelf.state c.read_kept_script.new.shelf) (g.S.Shelf.state c.read_kept_script-2.new.shelf) (kept_script_in c.args.folder.now Preinst) (after_kept_preinst c.args.folder.now) c.in-Ok.preinst (Err c.in-Err-read_kept_script.stop) c.in-Ok.ensures (
    reads_stop (λ n. n) (g.S.Shelf.state c.read_kept_script.new.shelf) (g.S.Shelf.state c.read_kept_script-2.new.shelf) (kept_script_in c.args.folder.now Postinst) (after_kept_postinst c.args.folder.now c.in-Ok.preinst) c.in-Err-read_kept_script.stop c.in-Err-read_kept_script.ensures)

pub returns-in-Err-read_kept_script-2 : goal.returns-in-Err-read_kept_script-2
unfolding kept_scripts_in
returns-in-Err-read_kept_script-2 g c =
    reads_next (λ n. n) (g.S.Shelf.state c.args.shelf.now) (g.S.Shelf.state c.read_kept_script.new.shelf) (g.S.Shelf.state c.read_kept_script-3.new.shelf) (kept_script_in c.args.folder.now Preinst) (after_kept_preinst c.args.folder.now) c.in-Ok.preinst (Err c.in-Err-read_kept_script-2.stop) c.in-Ok.ensures (
    reads_next (λ n. n) (g.S.Shelf.state c.read_kept_script.new.shelf) (g.S.Shelf.state c.read_kept_script-2.new.shelf) (g.S.Shelf.state c.read_kept_script-3.new.shelf) (kept_script_in c.args.folder.now Postinst) (after_kept_postinst c.args.folder.now c.in-Ok.preinst) c.in-Ok-read_kept_script.postinst (Err c.in-Err-read_kept_script-2.stop) c.in-Ok-read_kept_script.ensures (
    reads_stop (λ n. n) (g.S.Shelf.state c.read_kept_script-2.new.shelf) (g.S.Shelf.state c.read_kept_script-3.new.shelf) (kept_script_in c.args.folder.now Prerm) (after_kept_prerm c.args.folder.now c.in-Ok.preinst c.in-Ok-read_kept_script.postinst) c.in-Err-read_kept_script-2.stop c.in-Err-read_kept_script-2.ensures))

pub returns-in-Err-read_kept_script-3 : goal.returns-in-Err-read_kept_script-3
unfolding kept_scripts_in
returns-in-Err-read_kept_script-3 g c =
    reads_next (λ n. n) (g.S.Shelf.state c.args.shelf.now) (g.S.Shelf.state c.read_kept_script.new.shelf) (g.S.Shelf.state c.read_kept_script-4.new.shelf) (kept_script_in c.args.folder.now Preinst) (after_kept_preinst c.args.folder.now) c.in-Ok.preinst (Err c.in-Err-read_kept_script-3.stop) c.in-Ok.ensures (
    reads_next (λ n. n) (g.S.Shelf.state c.read_kept_script.new.shelf) (g.S.Shelf.state c.read_kept_script-2.new.shelf) (g.S.Shelf.state c.read_kept_script-4.new.shelf) (kept_script_in c.args.folder.now Postinst) (after_kept_postinst c.args.folder.now c.in-Ok.preinst) c.in-Ok-read_kept_script.postinst (Err c.in-Err-read_kept_script-3.stop) c.in-Ok-read_kept_script.ensures (
    reads_next (λ n. n) (g.S.Shelf.state c.read_kept_script-2.new.shelf) (g.S.Shelf.state c.read_kept_script-3.new.shelf) (g.S.Shelf.state c.read_kept_script-4.new.shelf) (kept_script_in c.args.folder.now Prerm) (after_kept_prerm c.args.folder.now c.in-Ok.preinst c.in-Ok-read_kept_script.postinst) c.in-Ok-read_kept_script-2.prerm (Err c.in-Err-read_kept_script-3.stop) c.in-Ok-read_kept_script-2.ensures (
    reads_stop (λ n. n) (g.S.Shelf.state c.read_kept_script-3.new.shelf) (g.S.Shelf.state c.read_kept_script-4.new.shelf) (kept_script_in c.args.folder.now Postrm) (after_kept_postrm c.in-Ok.preinst c.in-Ok-read_kept_script.postinst c.in-Ok-read_kept_script-2.prerm) c.in-Err-read_kept_script-3.stop c.in-Err-read_kept_script-3.ensures)))

pub returns : goal.returns
unfolding kept_scripts_in
returns g c =
    let value = kept_apart c.in-Ok.preinst c.in-Ok-read_kept_script.postinst c.in-Ok-read_kept_script-2.prerm c.in-Ok-read_kept_script-3.postrm in
    reads_next (λ n. n) (g.S.Shelf.state c.args.shelf.now) (g.S.Shelf.state c.read_kept_script.new.shelf) (g.S.Shelf.state c.read_kept_script-4.new.shelf) (kept_script_in c.args.folder.now Preinst) (after_kept_preinst c.args.folder.now) c.in-Ok.preinst (Ok value) c.in-Ok.ensures (
    reads_next (λ n. n) (g.S.Shelf.state c.read_kept_script.new.shelf) (g.S.Shelf.state c.read_kept_script-2.new.shelf) (g.S.Shelf.state c.read_kept_script-4.new.shelf) (kept_script_in c.args.folder.now Postinst) (after_kept_postinst c.args.folder.now c.in-Ok.preinst) c.in-Ok-read_kept_script.postinst (Ok value) c.in-Ok-read_kept_script.ensures (
    reads_next (λ n. n) (g.S.Shelf.state c.read_kept_script-2.new.shelf) (g.S.Shelf.state c.read_kept_script-3.new.shelf) (g.S.Shelf.state c.read_kept_script-4.new.shelf) (kept_script_in c.args.folder.now Prerm) (after_kept_prerm c.args.folder.now c.in-Ok.preinst c.in-Ok-read_kept_script.postinst) c.in-Ok-read_kept_script-2.prerm (Ok value) c.in-Ok-read_kept_script-2.ensures (
    reads_next (λ n. n) (g.S.Shelf.state c.read_kept_script-3.new.shelf) (g.S.Shelf.state c.read_kept_script-4.new.shelf) (g.S.Shelf.state c.read_kept_script-4.new.shelf) (kept_script_in c.args.folder.now Postrm) (after_kept_postrm c.in-Ok.preinst c.in-Ok-read_kept_script.postinst c.in-Ok-read_kept_script-2.prerm) c.in-Ok-read_kept_script-3.postrm (Ok value) c.in-Ok-read_kept_script-3.ensures (
    reads_done (λ n. n) (g.S.Shelf.state c.read_kept_script-4.new.shelf) value))))

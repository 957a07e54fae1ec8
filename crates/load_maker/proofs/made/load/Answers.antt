use Rattle.std.proofs.Common.{sym, ◌∙◌, subst}
use Rattle.shell_syntax.specs.declared.script.Script.{Script}
use Rattle.checker_input.specs.Script.{IsAccepted}
use Rattle.load_maker.proofs.LoadScripts.{script_exists}
use Rattle.load_maker.proofs.Packages.{is_loaded}
use Rattle.load_maker.proofs.made.load.Goals as goal

pub accepted-requires : goal.accepted-requires
accepted-requires c =
    subst (λ text. (script : Script) × IsAccepted text script) (sym (c.as_slice.ensures ∙ c.in_ok-text.ensures))
    (script_exists c.args.n c.requires.1)

pub returns : goal.returns
returns c =
    is_loaded c.args.n c.in_ok-version.version c.empty.result c.empty-2.result c.in_ok-postinst.postinst c.empty-3.result c.empty-4.result
    c.in_ok-text.text c.as_slice.result.now c.in_ok-script.script c.in_ok-version.ensures c.empty.ensures c.empty-2.ensures
    c.in_ok-postinst.ensures c.empty-3.ensures c.empty-4.ensures c.as_slice.ensures c.in_ok-text.ensures c.in_ok-script.ensures

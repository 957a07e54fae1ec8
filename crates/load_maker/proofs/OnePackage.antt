-- Of a number there is one made package: its text is one accepted script.
use Rattle.std.proofs.Common.{◌≡◌, ℕ, List, Result, Ok, sym, ap, ◌∙◌}
use Rattle.shell_syntax.specs.declared.script.Script.{Script}
use Rattle.checker_input.specs.declared.script.ScriptFault.{ScriptFault}
use Rattle.checker_input.specs.Script.{IsAccepted}
use Rattle.checker_input.proofs.OneScript.{text_once}
use Rattle.load_maker.specs.LoadText.{load_text}
use Rattle.load_maker.specs.Loaded.{only_postinst}
use Rattle.load_maker.specs.Laws.{OnePackage}

same_script : {a b : Script} → ◌≡◌ {A = Result Script ScriptFault} (Ok a) (Ok b) → a ≡ b
same_script e = cc

one_script : (text : List ℕ) (a b : Script) → IsAccepted text a → IsAccepted text b → a ≡ b
one_script text a b x y = same_script (text_once text (Ok a) (Ok b) x y)

pub one_package : OnePackage
one_package n one other x y =
    x.is ∙ ap only_postinst (one_script (load_text n) x.script y.script x.accepted y.accepted) ∙ sym y.is

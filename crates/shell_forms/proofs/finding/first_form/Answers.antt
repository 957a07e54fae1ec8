use Rattle.std.proofs.Common.{ℕ, Option, None, ap, ◌∙◌}
use Rattle.std.proofs.lemmas.Result.{IfOk-weaker}
use Rattle.shell_forms.specs.Names.{Text}
use Rattle.shell_forms.specs.Forms.{forms_of, script_place}
use Rattle.shell_forms.specs.Known.{first_in}
use Rattle.shell_forms.specs.Soonest.{soonest}
use Rattle.shell_forms.proofs.finding.first_form.Goals as goal

pub returns : goal.returns
returns c =
    IfOk-weaker c.in_command.result _ _ (λ found later.
    later ∙ ap (λ p. soonest None (forms_of (first_in c.in_ok-functions.functions) c.args.body.now p)) c.of_script.ensures
    ∙ ap (λ (f : Text → Option ℕ). soonest None (forms_of f c.args.body.now script_place)) (λ i name. c.in_ok-functions.ensures name i))
    c.in_command.ensures

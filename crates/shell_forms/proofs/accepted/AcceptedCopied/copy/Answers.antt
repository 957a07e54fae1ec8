use Rattle.std.proofs.Common.{◌≡◌, [], subst, sym}
use Rattle.shell_syntax.specs.declared.script.Script.{Script}
use Rattle.shell_forms.specs.First.{script_forms}
use Rattle.shell_forms.specs.Spelled.{IsSpelled}
use Rattle.shell_forms.proofs.accepted.AcceptedCopied.copy.Goals as goal

pub invariant_of-result : goal.invariant_of-result
invariant_of-result c =
    subst (λ (s : Script). IsSpelled s × (script_forms s.body ≡ [])) (sym c.in_ok-script.ensures) c.self.invariant

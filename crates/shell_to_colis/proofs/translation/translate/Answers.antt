use Rattle.std.proofs.Common.{ap, ◌∙◌}
use Rattle.shell_syntax.specs.declared.script.Script.{Script}
use Rattle.shell_forms.specs.First.{script_forms}
use Rattle.shell_to_colis.proofs.Made.{well_formed, same}
use Rattle.shell_to_colis.proofs.translation.translate.Goals as goal

pub from_well_formed-requires : goal.from_well_formed-requires
from_well_formed-requires c =
    well_formed c.script-script.result.now c.in_ok-defs.defs c.in_ok-defs.stmts c.sequence-body.result
    (ap (λ (s : Script). script_forms s.body) c.script-script.ensures.same ∙ c.script-script.ensures.accepted)
    c.in_ok-defs.ensures c.sequence-body.ensures

pub returns-clause-same : goal.returns-clause-same
returns-clause-same c =
    same c.script-script.result.now c.in_ok-defs.defs c.in_ok-defs.stmts c.sequence-body.result
    (ap (λ (s : Script). script_forms s.body) c.script-script.ensures.same ∙ c.script-script.ensures.accepted)
    c.in_ok-defs.ensures c.sequence-body.ensures
    c.from_well_formed.result c.from_well_formed.ensures
    c.args.script.now c.script-script.ensures.same

use Rattle.std.proofs.Common.{sym, ap, ◌∙◌}
use Rattle.std.specs.Prelude.{◌++◌}
use Rattle.case_paths.specs.Items.{stage_items}
use Rattle.case_paths.proofs.Orders.{nil_right}
use Rattle.case_paths.proofs.ItemStates.{stages_push}
use Rattle.case_paths.proofs.items.put_stages.Goals as goal

pub stages-preserved : goal.stages-preserved
stages-preserved g c =
    ap (λ l. l ++ stage_items c.pop.new.self) c.in_ok-push-in-Some.ensures
    ∙ stages_push c.stages.items c.in-Some.stage c.pop.new.self
    ∙ ap (λ l. c.stages.items ++ stage_items l) (sym c.in-Some.ensures) ∙ c.stages.invariant

pub returns-in-None : goal.returns-in-None
returns-in-None g c =
    sym (ap (λ l. c.stages.items ++ stage_items l) c.in-None.ensures ∙ nil_right c.stages.items) ∙ c.stages.invariant

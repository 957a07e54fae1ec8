use Rattle.fact_boxes.proofs.Lying.{facts_are_rows, facts_lie, boxes_met, boxes_apart, told_fit}
use Rattle.fact_boxes.proofs.theorems.boxes_tell.Goals as goal

pub returns-clause-rows : goal.returns-clause-rows
returns-clause-rows c = facts_are_rows

pub returns-clause-lie : goal.returns-clause-lie
returns-clause-lie c = facts_lie

pub returns-clause-met : goal.returns-clause-met
returns-clause-met c = boxes_met

pub returns-clause-apart : goal.returns-clause-apart
returns-clause-apart c = boxes_apart

pub returns-clause-told : goal.returns-clause-told
returns-clause-told c = told_fit

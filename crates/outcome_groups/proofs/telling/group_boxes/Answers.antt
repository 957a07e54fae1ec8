use Rattle.outcome_groups.proofs.Deciding.{boxes_own}
use Rattle.outcome_groups.proofs.telling.group_boxes.Goals as goal

pub returns : goal.returns
returns c =
    boxes_own c.args.rows.now c.args.end.now c.args.columns.now c.args.pairs.now c.in_ok-own.own c.as_slice.result.now
    c.args.boxes.now c.in_ok-told.told c.in_ok-own.ensures c.as_slice.ensures c.in_ok-told.ensures

use Rattle.outcome_groups.proofs.Made.{groups_made}
use Rattle.outcome_groups.proofs.telling.groups.Goals as goal

pub returns : goal.returns
returns c =
    groups_made c.args.part.now c.as_slice-entries.result.now c.in_ok-ends.ends c.as_slice-2.result.now c.as_slice-3.result.now c.in_ok-pairs.pairs
    c.as_slice-4.result.now c.in_ok-columns.columns c.as_slice.result.now c.as_slice-5.result.now c.in_ok-rows.rows c.as_slice-6.result.now c.in_ok-found.found
    c.as_slice-7.result.now c.in_ok-groups.groups c.as_slice-entries.ensures c.in_ok-ends.ensures c.in_ok-pairs.ensures c.in_ok-columns.ensures
    c.as_slice.ensures c.in_ok-rows.ensures c.as_slice-2.ensures c.in_ok-found.ensures c.as_slice-3.ensures c.as_slice-4.ensures c.as_slice-5.ensures
    c.as_slice-6.ensures c.as_slice-7.ensures c.in_ok-groups.ensures

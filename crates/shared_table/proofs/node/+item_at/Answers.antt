use Rattle.std.proofs.Common.{arith, suc, ◌%◌, slice_get, sym, ap, ◌∙◌}
use Rattle.shared_table.proofs.ChildPlaces.{wide, narrower, child_lower, get_some, get_none}
use Rattle.shared_table.proofs.Opened.{opened}
use Rattle.shared_table.proofs.node.+item_at.Goals as goal

pub nonzero_div-place : goal.nonzero_div-place
nonzero_div-place g t c = wide c.args.width _ c.requires

pub nonzero_rem-at : goal.nonzero_rem-at
nonzero_rem-at g t c = wide c.args.width _ c.requires

pub item_at-requires : goal.item_at-requires
item_at-requires g t c κs within =
    let o = opened c.node.inside.height c.args.width c.node.inside.part c.in-Inner.children c.args.node.now c.in-Inner.is c.node.invariant c.node.view_is c.requires in
    let k = c.index.result.now in
    let low = child_lower c.node.inside.height c.args.width c.args.at c.in-Inner.children.items (wide c.args.width _ o.width) o.row k (omega arith) c.index.ensures in
    let same = ap (λ x. x.0) c.deref.ensures in
    (omega (arith, low, same, o.height), (within, narrower c.args.width c.node.inside.height _ o.width (ap suc same ∙ low)))

pub returns-then-place-len : goal.returns-then-place-len
returns-then-place-len g t c =
    let o = opened c.node.inside.height c.args.width c.node.inside.part c.in-Inner.children c.args.node.now c.in-Inner.is c.node.invariant c.node.view_is c.requires in
    let k = c.index.result.now in
    let there = get_some c.node.inside.height c.args.width c.args.at c.in-Inner.children.items (wide c.args.width _ o.width) o.row k (omega arith) c.index.ensures in
    c.item_at.ensures ∙ ap (λ v. slice_get v.1 (c.args.at % c.args.width)) c.deref.ensures ∙ sym there ∙ ap (λ xs. slice_get xs c.args.at) o.items

pub returns-else-place-len : goal.returns-else-place-len
returns-else-place-len g t c =
    let o = opened c.node.inside.height c.args.width c.node.inside.part c.in-Inner.children c.args.node.now c.in-Inner.is c.node.invariant c.node.view_is c.requires in
    sym (ap (λ xs. slice_get xs c.args.at) (sym o.items) ∙ get_none c.node.inside.height c.args.width c.args.at c.in-Inner.children.items (wide c.args.width _ o.width) o.row (omega arith))

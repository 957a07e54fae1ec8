use Rattle.std.proofs.Common.{arith, ◌-◌, ap, length}
use Rattle.std.proofs.lemmas.Nat.{mod_below}
use Rattle.shared_table.proofs.ChildPlaces.{wide, sixteen, narrower, child_lower, put_some, after_put, after_push}
use Rattle.shared_table.proofs.Opened.{opened, closed, closed_leaf}
use Rattle.shared_table.proofs.node.+putting.Goals as goal
use Rattle.shared_table.proofs.node.+putting.Goals.{put_in_node-in-Leaf, put_in_node-in-Inner}

pub put_in_children-nonzero_div-place : goal.put_in_children-nonzero_div-place
put_in_children-nonzero_div-place g t c = wide c.args.width c.args.height c.requires.width

pub put_in_children-nonzero_rem-at : goal.put_in_children-nonzero_rem-at
put_in_children-nonzero_rem-at g t c = wide c.args.width c.args.height c.requires.width

-- what the change in the child leaves of the children
pub put_in_children-returns-then-place-len-clause-ok : goal.put_in_children-returns-then-place-len-clause-ok
put_in_children-returns-then-place-len-clause-ok g t c =
    (after_put c.args.height c.args.width c.args.at c.args.children.now.items (wide c.args.width c.args.height c.requires.width) c.requires.row
    c.index_mut.result.now c.put.new.node (omega arith) c.index_mut.ensures.value c.args.item c.requires.within c.put.result c.put.ensures.ok c.put.ensures.kept).ok

pub put_in_children-returns-then-place-len-clause-kept : goal.put_in_children-returns-then-place-len-clause-kept
put_in_children-returns-then-place-len-clause-kept g t c =
    (after_put c.args.height c.args.width c.args.at c.args.children.now.items (wide c.args.width c.args.height c.requires.width) c.requires.row
    c.index_mut.result.now c.put.new.node (omega arith) c.index_mut.ensures.value c.args.item c.requires.within c.put.result c.put.ensures.ok c.put.ensures.kept).kept

pub put_in_children-returns-then-place-len-clause-row : goal.put_in_children-returns-then-place-len-clause-row
put_in_children-returns-then-place-len-clause-row g t c =
    (after_put c.args.height c.args.width c.args.at c.args.children.now.items (wide c.args.width c.args.height c.requires.width) c.requires.row
    c.index_mut.result.now c.put.new.node (omega arith) c.index_mut.ensures.value c.args.item c.requires.within c.put.result c.put.ensures.ok c.put.ensures.kept).row

pub put_in_children-returns-then-place-len-clause-cost : goal.put_in_children-returns-then-place-len-clause-cost
put_in_children-returns-then-place-len-clause-cost g t c =
    omega (
      arith,
      child_lower c.args.height c.args.width c.args.at c.args.children.now.items (wide c.args.width c.args.height c.requires.width) c.requires.row
          c.index_mut.result.now (omega arith) c.index_mut.ensures.value,
    )

pub put_in_children-put-requires : goal.put_in_children-put-requires
put_in_children-put-requires g t c κs within =
    let w = wide c.args.width c.args.height c.requires.width in
    let k = c.index_mut.result.now in
    let low = child_lower c.args.height c.args.width c.args.at c.args.children.now.items w c.requires.row k (omega arith) c.index_mut.ensures.value in
    let done = put_some c.args.height c.args.width c.args.at c.args.children.now.items w c.requires.row k (omega arith) c.index_mut.ensures.value c.args.item c.requires.within in
    let thin = narrower c.args.width c.args.height k.value.0 c.requires.width low in
    (omega (arith, low), (within.0, (within.1, (thin, (done.within, omega (arith, thin, mod_below c.args.at c.args.width w, sixteen c.args.width c.args.height k.value.0 c.requires.width low))))))

pub put_in_children-returns-in_ok-push-clause-ok : goal.put_in_children-returns-in_ok-push-clause-ok
put_in_children-returns-in_ok-push-clause-ok g t c =
    rw c.in_ok-push.ensures.items
    (after_push c.args.height c.args.width c.args.at c.args.children.now.items (wide c.args.width c.args.height c.requires.width) c.requires.row
    c.in_ok-child.child (c.args.height - 1) c.args.item (omega arith) c.requires.within (omega arith) c.in_ok-child.ensures.ok).0

pub put_in_children-returns-in_ok-push-clause-row : goal.put_in_children-returns-in_ok-push-clause-row
put_in_children-returns-in_ok-push-clause-row g t c =
    rw c.in_ok-push.ensures.items
    (after_push c.args.height c.args.width c.args.at c.args.children.now.items (wide c.args.width c.args.height c.requires.width) c.requires.row
    c.in_ok-child.child (c.args.height - 1) c.args.item (omega arith) c.requires.within (omega arith) c.in_ok-child.ensures.ok).1

pub put_in_node-put_in_children-requires : goal.put_in_node-put_in_children-requires
put_in_node-put_in_children-requires g t c κs within =
    let o = opened c.node.inside.height c.args.width c.node.inside.part c.in-Inner.children c.args.node.now c.in-Inner.is c.node.invariant c.node.view_is c.requires.width in
    (omega (arith, o.height), (within.0, (within.1, (o.above, (o.width, (o.row, omega (arith, ap length o.items)))))))

pub put_in_node-invariant_of-node : goal.put_in_node-invariant_of-node
put_in_node-invariant_of-node g t c = elim c.match-node.branch [
  | put_in_node-in-Leaf w ↦ rw w.node-inside-is
      (closed_leaf c.node.inside.height c.args.width c.args.at c.args.item c.node.inside.part w.in-Leaf.items w.put_in_leaf.new.items.items c.args.node.now w.put_in_leaf.result
      w.in-Leaf.is c.node.invariant c.node.view_is c.requires.width c.requires.within c.requires.room w.put_in_leaf.ensures.ok w.put_in_leaf.ensures.kept)
  | put_in_node-in-Inner w ↦
      let o = opened c.node.inside.height c.args.width c.node.inside.part w.in-Inner.children c.args.node.now w.in-Inner.is c.node.invariant c.node.view_is c.requires.width in
      rw w.node-inside-is
      (closed c.node.inside.height c.args.width c.args.at c.args.item w.in-Inner.children.items w.put_in_children.new.children.items w.put_in_children.result
      o.above o.width (omega (arith, ap length o.items)) (omega (arith, ap length o.items, o.few)) c.requires.room w.put_in_children.ensures.row w.put_in_children.ensures.ok w.put_in_children.ensures.kept)
]

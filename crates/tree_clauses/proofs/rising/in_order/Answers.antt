use Rattle.std.proofs.Common.{ap, ◌∙◌}
use Rattle.tree_clauses.specs.MadeValues.{once}
use Rattle.tree_clauses.proofs.Orders.{lent, sorted_in_order}
use Rattle.tree_clauses.proofs.rising.in_order.Goals as goal

pub returns : goal.returns
returns c =
    sorted_in_order c.args.names.now c.in_ok-all.all.items c.sort.new.self.items c.in_ok-each_once.field-0.items
    c.in_ok-all.ensures c.in_ok-sort.ensures.permutation c.in_ok-sort.ensures.sorted
    (c.in_ok-each_once.ensures ∙ ap (λ fs. once (lent fs)) c.deref.ensures.value)

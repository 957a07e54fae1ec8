use Rattle.std.proofs.Common.{arith, rules, ◌-◌}
use Rattle.shared_table.proofs.Opened.{closed_one}
use Rattle.shared_table.proofs.node.+single.Goals as goal

pub invariant_of-allocated-2 : goal.invariant_of-allocated-2
invariant_of-allocated-2 g t c =
    (closed_one c.args.height (c.args.height - 1) c.args.item c.push-2.new.self.items c.in_ok-child.child (omega arith) c.in_ok-child.ensures.ok (search rules)).0

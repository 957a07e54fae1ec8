use Rattle.std.proofs.Common.{arith, rules, ap, ◌∙◌}
use Rattle.shared_table.proofs.Digits.{below_power}
use Rattle.shared_table.proofs.Opened.{closed_two}
use Rattle.shared_table.proofs.node.under_new_root.Goals as goal

pub overflow_add-height : goal.overflow_add-height
overflow_add-height g c = omega (arith, below_power c.args.root.now.value.0, c.height-height.ensures, ap (λ v. v.0) c.deref.ensures)

pub invariant_of-allocated : goal.invariant_of-allocated
invariant_of-allocated g c =
    closed_two c.height-height.result c.args.width c.args.root.now.value c.args.item c.push-2.new.self.items c.in_ok-clone.field-0 c.in_ok-single.field-0
    (c.height-height.ensures ∙ ap (λ v. v.0) c.deref.ensures) c.requires.width c.requires.full (search rules) c.in_ok-single.ensures.ok (search rules)

use Rattle.std.proofs.Common.{arith, ap, ◌∙◌}
use Rattle.shared_table.proofs.ChildPlaces.{wide}
use Rattle.shared_table.proofs.Rows.{put_end}
use Rattle.shared_table.proofs.node.append.Goals as goal

pub returns-then-len-width-clause-items : goal.returns-then-len-width-clause-items
returns-then-len-width-clause-items g c = ap (λ v. v.1) c.in_ok-put.ensures.ok ∙ put_end c.args.root.now.value.1 c.args.len c.args.item c.requires.len

pub returns-clause-few : goal.returns-clause-few
returns-clause-few g c = omega (arith, wide c.args.width c.args.root.now.value.0 c.requires.width)

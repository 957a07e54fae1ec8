use Rattle.std.proofs.Common.{sym, ◌∙◌, arith}
use Rattle.shared_table.proofs.Rows.{put_set, put_end}
use Rattle.shared_table.proofs.node.put_in_leaf.Goals as goal

pub returns-then-at-len-clause-ok : goal.returns-then-at-len-clause-ok
returns-then-at-len-clause-ok g c = sym (put_set c.args.items.now.items c.args.at c.args.item (omega arith))

pub returns-in_ok-push-clause-ok : goal.returns-in_ok-push-clause-ok
returns-in_ok-push-clause-ok g c = c.in_ok-push.ensures.items ∙ sym (put_end c.args.items.now.items c.args.at c.args.item (omega arith))

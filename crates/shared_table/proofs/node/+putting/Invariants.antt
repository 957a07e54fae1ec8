use Rattle.std.proofs.Common.{◌+◌, ◌*◌}
use Rattle.shared_table.proofs.node.+putting.Given as goal

abbrev pub decreases-put : goal.decreases-put
decreases-put g l = 3 * l.node.now.value.0 + 2

abbrev pub decreases-put_in_node : goal.decreases-put_in_node
decreases-put_in_node g l = 3 * l.node.now.0 + 1

abbrev pub decreases-put_in_children : goal.decreases-put_in_children
decreases-put_in_children g l = 3 * l.height

use Rattle.std.proofs.Common.{◌≡◌, take, map}
use Rattle.shared_table.proofs.node.shared_children.Given as goal

abbrev pub invariant-loop-child : goal.invariant-loop-child
invariant-loop-child g l = map (λ child. child.value) l.out.items ≡ map (λ child. child.value) (take l.child-index l.children)

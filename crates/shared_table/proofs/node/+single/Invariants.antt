use Rattle.shared_table.proofs.node.+single.Given as goal

abbrev pub decreases-single : goal.decreases-single
decreases-single g l = l.height

use Rattle.clause_solver.proofs.difference.+same_bits.Given as goal

abbrev pub decreases-same_bits : goal.decreases-same_bits
decreases-same_bits l = l.n

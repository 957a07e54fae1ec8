use Rattle.clause_solver.proofs.greatest.+has_entry_outside.Given as goal

abbrev pub decreases-has_entry_outside : goal.decreases-has_entry_outside
decreases-has_entry_outside l = l.x

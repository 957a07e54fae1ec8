use Rattle.text_tests.proofs.shared_lists.a_fork_reads_as_before.Given as goal

abbrev pub ghosts-set_beside_a_fork : goal.ghosts-set_beside_a_fork
ghosts-set_beside_a_fork g a = record { name = a.blank.name; parts = a.blank.parts }

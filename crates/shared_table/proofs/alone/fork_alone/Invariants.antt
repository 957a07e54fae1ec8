use Rattle.shared_table.proofs.alone.fork_alone.Given as goal

abbrev pub ghosts-fork_with : goal.ghosts-fork_with
ghosts-fork_with g a = record { name = a.blank.name; parts = a.blank.parts }

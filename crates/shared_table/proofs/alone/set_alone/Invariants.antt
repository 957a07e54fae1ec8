use Rattle.shared_table.proofs.alone.set_alone.Given as goal

abbrev pub ghosts-set_with : goal.ghosts-set_with
ghosts-set_with g a = record { name = a.blank.name; parts = a.blank.parts }

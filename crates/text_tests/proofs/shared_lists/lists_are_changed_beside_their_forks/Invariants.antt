use Rattle.text_tests.proofs.shared_lists.lists_are_changed_beside_their_forks.Given as goal

abbrev pub ghosts-changed_in_turn : goal.ghosts-changed_in_turn
ghosts-changed_in_turn g a = record { name = a.blank.name; parts = a.blank.parts }

use Rattle.text_tests.proofs.shared_lists.changes_are_done_or_leave_the_list.Given as goal

abbrev pub ghosts-changed_or_kept : goal.ghosts-changed_or_kept
ghosts-changed_or_kept g a = record { name = a.blank.name; parts = a.blank.parts }

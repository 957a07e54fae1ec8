use Rattle.utility_calls.proofs.ActChanges.{question_row, failed_row, dir_stays, sound_stays, named}
use Rattle.utility_calls.proofs.theorems.acts_change_trees.Goals as goal

pub returns-clause-questions : goal.returns-clause-questions
returns-clause-questions c act tree q = question_row act tree q

pub returns-clause-unchanged : goal.returns-clause-unchanged
returns-clause-unchanged c act tree ne = failed_row act tree ne

pub returns-clause-dir : goal.returns-clause-dir
returns-clause-dir c act tree performed t = dir_stays act tree performed t

pub returns-clause-sound : goal.returns-clause-sound
returns-clause-sound c act tree n s = sound_stays c.puts_are_local.ensures.sound act tree n s

pub returns-clause-named : goal.returns-clause-named
returns-clause-named c act tree performed ne = named act tree performed ne

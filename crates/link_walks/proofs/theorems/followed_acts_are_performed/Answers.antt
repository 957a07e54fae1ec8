use Rattle.link_walks.proofs.Performed.{followed_performed, files_performed}
use Rattle.link_walks.proofs.theorems.followed_acts_are_performed.Goals as goal

pub returns-clause-plans : goal.returns-clause-plans
returns-clause-plans c links planned h = followed_performed links planned h

pub returns-clause-files : goal.returns-clause-files
returns-clause-files c links act h some = files_performed links act h some

use Rattle.std.proofs.Common.{refl}
use Rattle.shell_rules.proofs.theorems.examples_hold.Goals as goal

pub returns-clause-strict : goal.returns-clause-strict
returns-clause-strict c = refl

pub returns-clause-status : goal.returns-clause-status
returns-clause-status c = refl

pub returns-clause-loops : goal.returns-clause-loops
returns-clause-loops c = refl

pub returns-clause-words : goal.returns-clause-words
returns-clause-words c = refl

pub returns-clause-acts : goal.returns-clause-acts
returns-clause-acts c = refl

pub returns-clause-order : goal.returns-clause-order
returns-clause-order c = refl

pub returns-clause-cases : goal.returns-clause-cases
returns-clause-cases c = refl

pub returns-clause-versions : goal.returns-clause-versions
returns-clause-versions c = refl

pub returns-clause-stated : goal.returns-clause-stated
returns-clause-stated c = refl

pub returns-clause-plans : goal.returns-clause-plans
returns-clause-plans c = refl

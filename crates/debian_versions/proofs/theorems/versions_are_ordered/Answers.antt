use Rattle.debian_versions.proofs.Order.{ordered, tilde_is_earlier}
use Rattle.debian_versions.proofs.theorems.versions_are_ordered.Goals as goal

pub returns-clause-order : goal.returns-clause-order
returns-clause-order c = ordered

pub returns-clause-tilde : goal.returns-clause-tilde
returns-clause-tilde c = tilde_is_earlier

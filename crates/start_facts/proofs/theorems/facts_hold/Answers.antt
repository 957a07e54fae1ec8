use Rattle.start_facts.proofs.Sound.{facts_hold}
use Rattle.start_facts.proofs.theorems.facts_hold.Goals as goal

pub returns : goal.returns
returns c = facts_hold

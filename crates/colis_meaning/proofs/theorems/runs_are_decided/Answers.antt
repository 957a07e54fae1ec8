use Rattle.colis_meaning.proofs.WholeDecisions.{runs_decided}
use Rattle.colis_meaning.proofs.theorems.runs_are_decided.Goals as goal

pub returns : goal.returns
returns c = runs_decided

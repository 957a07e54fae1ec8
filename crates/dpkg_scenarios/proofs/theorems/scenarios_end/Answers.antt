use Rattle.dpkg_scenarios.proofs.Walks.{goes_forward, turns_few, succeeds, reaches_each}
use Rattle.dpkg_scenarios.proofs.theorems.scenarios_end.Goals as goal

pub returns-clause-forward : goal.returns-clause-forward
returns-clause-forward c = goes_forward

pub returns-clause-few : goal.returns-clause-few
returns-clause-few c = turns_few

pub returns-clause-succeeds : goal.returns-clause-succeeds
returns-clause-succeeds c = succeeds

pub returns-clause-each : goal.returns-clause-each
returns-clause-each c = reaches_each

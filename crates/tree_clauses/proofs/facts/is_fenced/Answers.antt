use Rattle.tree_clauses.specs.NameSets.{has}
use Rattle.tree_clauses.proofs.AgreeingEntries.{fence_told}
use Rattle.tree_clauses.proofs.facts.is_fenced.Goals as goal

pub returns : goal.returns
returns c = fence_told c.args.x.now c.args.names.now (has c.in_ok-listed.listed) c.stands_within-fenced.result c.in_ok-listed.ensures c.stands_within-fenced.ensures

use Rattle.tree_clauses.proofs.Decided.{has_entry_iff}
use Rattle.tree_clauses.proofs.facts.has_entry.Goals as goal

pub returns-in-Dir : goal.returns-in-Dir
returns-in-Dir c = has_entry_iff c.args.x.now c.in-Dir.entries c.len.result c.in-Dir.is c.len.ensures

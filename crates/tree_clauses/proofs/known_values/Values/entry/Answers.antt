use Rattle.std.proofs.Common.{length}
use Rattle.tree_clauses.proofs.known_values.Values.entry.Goals as goal

pub returns-in-Some-clause-within : goal.returns-in-Some-clause-within
returns-in-Some-clause-within c = c.made_entry.ensures.below (length c.args.self.now.cells) c.entry.ensures.below

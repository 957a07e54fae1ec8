use Rattle.tree_clauses.specs.NameSets.{has}
use Rattle.tree_clauses.proofs.AgreeingEntries.{EachBefore, In}
use Rattle.tree_clauses.proofs.facts.entries_in.Given as goal

abbrev pub invariant-loop-at : goal.invariant-loop-at
invariant-loop-at l = EachBefore (In (has l.names) l.other) l.entries l.at

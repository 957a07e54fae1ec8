use Rattle.tree_clauses.specs.NameSets.{has}
use Rattle.tree_clauses.proofs.AgreeingEntries.{EachBefore, Within}
use Rattle.tree_clauses.proofs.facts.entries_within.Given as goal

abbrev pub invariant-loop-at : goal.invariant-loop-at
invariant-loop-at l = EachBefore (Within (has l.names) l.other) l.entries l.at

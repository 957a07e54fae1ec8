use Rattle.std.proofs.Common.{◌≡◌, ◌++◌, take}
use Rattle.std.specs.List.{flat_map}
use Rattle.feature_trees.specs.declared.version.Version.TheVariants.{Second}
use Rattle.tree_clauses.specs.ClauseText.{literal_text}
use Rattle.tree_clauses.proofs.text.put_literals.Given as goal

abbrev pub invariant-loop-literal : goal.invariant-loop-literal
invariant-loop-literal l = l.text ≡ l.initial.text ++ flat_map (literal_text Second) (take l.literal-index l.literals)

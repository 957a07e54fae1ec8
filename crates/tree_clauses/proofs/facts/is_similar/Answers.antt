use Rattle.std.proofs.Common.{sym, ◌∙◌}
use Rattle.tree_clauses.specs.NameSets.{has}
use Rattle.tree_clauses.proofs.AgreeingEntries.{similar_told}
use Rattle.tree_clauses.proofs.facts.is_similar.Goals as goal

pub returns-then-is_directory : goal.returns-then-is_directory
returns-then-is_directory c =
    similar_told c.args.y.now c.args.x.now c.args.names.now (has c.in_ok-listed.listed) c.are_alike-similar.result
    (sym c.is_directory.ensures ∙ c.if-is_directory.true) c.in_ok-listed.ensures c.are_alike-similar.ensures

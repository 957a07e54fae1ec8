use Rattle.std.proofs.Common.{rules}
use Rattle.std.proofs.lemmas.Fn.{always_returns_same}
use Rattle.feature_trees.specs.Tree.{name_cmp}
use Rattle.tree_clauses.specs.declared.cell.Edit.{Edit}
use Rattle.tree_clauses.proofs.EditSearch.{searched}
use Rattle.tree_clauses.proofs.cells.edit_at.Goals as goal

-- the names rise, and the closure compares one with the name
pub returns : goal.returns
returns c =
    let facts = c.binary_search_by.ensures in
    let compared = facts.position (λ (e : Edit). name_cmp e.name c.args.f.now) (always_returns_same _ _ _ (λ a r g called. search rules)) in
    searched c.args.edits.now c.args.f.now c.requires _ facts.bound compared

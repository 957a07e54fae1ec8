use Rattle.std.proofs.Common.{rules}
use Rattle.std.proofs.lemmas.Fn.{always_returns_same}
use Rattle.feature_trees.specs.declared.value.NamedValue.{NamedValue}
use Rattle.feature_trees.specs.Tree.{name_cmp}
use Rattle.feature_trees.proofs.Searched.{searched}
use Rattle.feature_trees.proofs.value.place.Goals as goal

-- the names rise, and the closure compares one with the name
pub returns : goal.returns
returns c =
    let facts = c.binary_search_by.ensures in
    let compared = facts.position (λ (h : NamedValue). name_cmp h.name c.args.f.now) (always_returns_same _ _ _ (λ a r g called. search rules)) in
    searched c.args.items.now c.args.f.now c.requires _ facts.bound compared

use Rattle.std.proofs.Common.{◌∷◌, [], sym, ap, ◌∙◌}
use Rattle.feature_trees.specs.declared.value.Value.{Value}
use Rattle.feature_trees.specs.declared.value.Value.TheVariants as value
use Rattle.feature_trees.specs.Tree.{at, is_dir, put, update, entries_of, has_parents}
use Rattle.feature_trees.proofs.Laws.{and_parts}
use Rattle.utility_calls.proofs.Above.{parents_more}
use Rattle.concrete_utils.proofs.Puts.{put_below, on_ok_is}
use Rattle.concrete_utils.proofs.steps.put_in_copy.Goals as goal

pub returns-clause-ok : goal.returns-clause-ok
returns-clause-ok c =
    let tree = c.args.tree.now in
    let names = c.args.path.now.names in
    let f = c.args.f.now in
    on_ok_is _ _ _ c.put_at.ensures.ok
    (ap (λ (x : Value). put tree names x) (c.in_ok-dir.ensures ∙ ap (λ (x : Value). value.Dir (update (entries_of x) f c.args.value)) c.in_ok-old.ensures)
    ∙ put_below tree names (f ∷ []) c.args.value)

pub put_at-requires-clause-parents : goal.put_at-requires-clause-parents
put_at-requires-clause-parents c =
    let tree = c.args.tree.now in
    let names = c.args.path.now.names in
    (and_parts (has_parents tree names) (is_dir (at tree names))
    (sym (parents_more tree names c.args.f.now) ∙ c.requires.parents)).0

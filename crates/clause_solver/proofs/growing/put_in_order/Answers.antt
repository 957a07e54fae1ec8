use Rattle.std.proofs.Common.{◌∙◌, ap}
use Rattle.std.proofs.lemmas.List.Sorted.{IsPermutation-map}
use Rattle.feature_trees.specs.declared.value.Value.TheVariants as value
use Rattle.feature_trees.proofs.Laws.{rises_of}
use Rattle.clause_solver.specs.Gathered.{pairs}
use Rattle.clause_solver.proofs.Gathered.{all_set_permuted}
use Rattle.clause_solver.proofs.growing.put_in_order.Goals as goal

pub returns : goal.returns
returns c =
    let perm = IsPermutation-map _ _ _ c.in_ok-sort_by_key.ensures.permutation in
    ap value.Dir (c.in_ok-entries.ensures
    ∙ all_set_permuted c.args.entries (pairs c.args.children.items) _ (rises_of c.args.entries c.is_sound.ensures) c.requires.one_each perm)

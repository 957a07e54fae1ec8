use Rattle.std.proofs.Common.{◌∙◌, ap, sym}
use Rattle.std.proofs.lemmas.List.{map_push}
use Rattle.feature_trees.specs.Tree.{update}
use Rattle.clause_solver.specs.Gathered.{all_set, pairs}
use Rattle.clause_solver.proofs.Gathered.{all_set_push}
use Rattle.clause_solver.proofs.growing.put_all.Goals as goal

pub loop-child-preserved : goal.loop-child-preserved
loop-child-preserved c =
    let child = c.in-Some.child in
    c.in_ok-set.ensures.ok ∙ ap (λ es. update es child.name.now child.value) c.loop-child.invariant
    ∙ sym (all_set_push c.args.entries (pairs c.loop-child.yielded) (child.name.now, child.value))
    ∙ ap (all_set c.args.entries) (sym (map_push _ c.loop-child.yielded child))

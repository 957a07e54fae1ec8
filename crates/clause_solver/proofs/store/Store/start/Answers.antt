use Rattle.std.proofs.Common.{rules, [], ◌∷◌, refl}
use Rattle.feature_trees.specs.declared.value.Value.TheVariants as value
use Rattle.clause_solver.proofs.store.Store.start.Goals as goal

pub invariant_of-result : goal.invariant_of-result
invariant_of-result c = record {
  decided = record {
    order = search rules;
    same = search rules;
    best = search rules;
    linked = search rules;
    small = search rules;
    filled = search rules;
    alive = (
      λ t. (value.Dir [] ∷ [], search rules, search rules, search rules),
      λ a. refl,
    );
  };
  now_known = search rules;
  now_tree = search rules;
  start_tree = search rules;
}

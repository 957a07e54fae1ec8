use Rattle.std.proofs.Common.{sym, ap, ◌∙◌}
use Rattle.tree_clauses.specs.Literals.{value_of_variable}
use Rattle.store_tests.proofs.keeping.kept_paths.Goals as goal

pub explore-requires : goal.explore-requires
explore-requires c = record {
  same = λ t u p. sym p.2 ∙ ap (λ n. value_of_variable p.0 n) c.in_ok-store.ensures.seen.1 ∙ ap (λ g. value_of_variable g 0) ((c.in_ok-store.ensures.pairs t p.0).0 p.1).0;
}

pub returns : goal.returns
returns c = c.in_ok-found.ensures.1

use Rattle.std.proofs.Common.{[], refl, rules}
use Rattle.tree_clauses.proofs.Decided.{empty_made}
use Rattle.tree_clauses.proofs.making.make_of_kind.Goals as goal

pub returns-then-begin_empty-clause-made : goal.returns-then-begin_empty-clause-made
returns-then-begin_empty-clause-made c = λ known values.
    empty_made c.args.y c.args.kinds c.args.rest.now [] (search rules) (c.begin_empty.ensures.0 c.if-begin_empty.true) refl known

use Rattle.std.proofs.Common.{ap}
use Rattle.std.specs.Option.{option_map}
use Rattle.tree_clauses.specs.Cells.{value_at}
use Rattle.tree_clauses.specs.KnownValues.{known_in}
use Rattle.tree_clauses.proofs.Decided.{fact_target}
use Rattle.tree_clauses.proofs.known_values.Values.is_link_to.Goals as goal

pub returns-in-Some : goal.returns-in-Some
returns-in-Some c =
    let values = c.args.self.now in
    fact_target (known_in values) c.args.x c.args.target.now (value_at values.cells c.in-Some.place) c.is_link_to.result
    (ap (option_map (value_at values.cells)) c.in-Some.ensures.is) c.is_link_to.ensures

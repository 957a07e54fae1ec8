use Rattle.std.proofs.Common.{ap}
use Rattle.std.specs.Option.{option_map}
use Rattle.tree_clauses.specs.Cells.{value_at}
use Rattle.tree_clauses.specs.KnownValues.{known_in}
use Rattle.tree_clauses.proofs.Decided.{fact_entry}
use Rattle.tree_clauses.proofs.known_values.Values.is_entry.Goals as goal

pub returns : goal.returns
returns c =
    let values = c.args.self.now in
    fact_entry (known_in values) c.args.x c.args.y c.args.f.now (value_at values.cells c.in-Some.place) (value_at values.cells c.in-Some-place.place) c.in_ok-same.same
    (ap (option_map (value_at values.cells)) c.in-Some.ensures.is) (ap (option_map (value_at values.cells)) c.in-Some-place.ensures.is) c.in_ok-same.ensures

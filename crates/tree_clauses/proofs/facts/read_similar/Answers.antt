use Rattle.std.proofs.Common.{Some, ap, sym, ◌∙◌}
use Rattle.std.specs.Option.{option_map}
use Rattle.tree_clauses.specs.Cells.{whole_value}
use Rattle.tree_clauses.specs.KnownValues.{known_in}
use Rattle.tree_clauses.proofs.Decided.{fact_similar}
use Rattle.tree_clauses.proofs.facts.read_similar.Goals as goal

pub returns : goal.returns
returns c = λ listed same.
    fact_similar (known_in c.args.values.now) c.args.x c.args.y listed c.args.names.now c.value-2.result.now c.value.result.now c.in_ok-similar.similar
    (ap Some c.value.ensures ∙ sym (ap (option_map whole_value) c.in-Some.is) ∙ c.in_ok-y.ensures)
    (ap Some c.value-2.ensures ∙ sym (ap (option_map whole_value) c.in-Some-2.is) ∙ c.in_ok-x.ensures)
    (sym same) c.in_ok-similar.ensures

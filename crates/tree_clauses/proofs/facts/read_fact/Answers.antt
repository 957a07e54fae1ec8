use Rattle.std.proofs.Common.{Some, subst, ap, sym, ◌∙◌}
use Rattle.std.specs.Option.{option_map}
use Rattle.tree_clauses.specs.Cells.{whole_value}
use Rattle.tree_clauses.specs.KnownValues.{known_in}
use Rattle.tree_clauses.specs.Steps.{FactIs}
use Rattle.tree_clauses.proofs.Decided.{fact_fence}
use Rattle.tree_clauses.proofs.facts.read_fact.Goals as goal

pub returns-in_ok-fenced-in-Some-2 : goal.returns-in_ok-fenced-in-Some-2
returns-in_ok-fenced-in-Some-2 c =
    let known = known_in c.args.values.now in
    let b = c.in_ok-fenced-in-Some-2.fenced in
    subst (λ l. FactIs known l (Some b)) (sym c.in-Fence.is)
    (fact_fence known c.in-Fence.x c.in-Fence.names c.as_slice.result.now c.value.result.now b
    (ap Some c.value.ensures ∙ sym (ap (option_map whole_value) c.in-Some-2.is) ∙ c.in_ok-x-in-Fence.ensures)
    c.as_slice.ensures c.in_ok-fenced-in-Some-2.ensures)

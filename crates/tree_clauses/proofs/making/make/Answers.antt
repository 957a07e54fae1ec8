use Rattle.std.proofs.Common.{subst, sym}
use Rattle.std.specs.Option.{option_map}
use Rattle.tree_clauses.specs.Cells.{made_value}
use Rattle.tree_clauses.specs.KnownValues.{known_in}
use Rattle.tree_clauses.specs.Steps.{MadeIs}
use Rattle.tree_clauses.proofs.Decided.{entry_made}
use Rattle.tree_clauses.proofs.making.make.Goals as goal

pub returns-in-Entry-clause-made : goal.returns-in-Entry-clause-made
returns-in-Entry-clause-made c =
    let values = c.args.values.now in
    let o = option_map (made_value values.cells) c.entry-made.result in
    subst (λ l. MadeIs (known_in values) l c.args.rest.now o) (sym c.in-Entry.is)
    (entry_made (known_in values) c.in-Entry.x c.in-Entry.field-2 c.in-Entry.f c.args.rest.now o c.entry-made.ensures.value)

pub returns-in-Kind-clause-made : goal.returns-in-Kind-clause-made
returns-in-Kind-clause-made c =
    let values = c.args.values.now in
    subst (λ l. MadeIs (known_in values) l c.args.rest.now (option_map (made_value values.cells) c.make_of_kind.result)) (sym c.in-Kind.is)
    (c.make_of_kind.ensures.made (known_in values) values.cells)

pub returns-in-Kind-clause-within : goal.returns-in-Kind-clause-within
returns-in-Kind-clause-within c = c.make_of_kind.ensures.within c.args.values.now.cells

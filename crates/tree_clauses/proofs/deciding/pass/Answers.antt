use Rattle.std.proofs.Common.{subst, sym, ap, ◌∙◌}
use Rattle.std.specs.Option.{option_map}
use Rattle.tree_clauses.specs.Cells.{made_value, IsMadeWithin}
use Rattle.tree_clauses.specs.KnownValues.{known_in}
use Rattle.tree_clauses.specs.Steps.{IsThere, Gives, FactIs, MadeIs}
use Rattle.tree_clauses.proofs.Passing.{passes_fact, passes_made, stuck_known, stuck_unmade, none_from}
use Rattle.tree_clauses.proofs.deciding.pass.Goals as goal

pub returns-in-Some : goal.returns-in-Some
returns-in-Some c =
    let known = known_in c.args.values.now in
    passes_fact known c.args.literal.now c.args.rest.now c.in-Some.holds
    (subst (FactIs known c.args.literal.now) c.in-Some.is c.in_ok-holds.ensures)

pub returns-then-has : goal.returns-then-has
returns-then-has c =
    let known = known_in c.args.values.now in
    stuck_known known known c.args.literal.now c.args.rest.now
    (subst (FactIs known c.args.literal.now) c.in-None.is c.in_ok-holds.ensures)
    (subst (λ y. IsThere (known y)) c.subject-y.ensures (c.has.ensures.0 c.if-has.true))

pub give-requires : goal.give-requires
give-requires c = subst (IsMadeWithin c.args.values.now.cells) c.in-Some-2.is c.in_ok-made-in-None.ensures.within

pub returns-in_ok-give-in-Some-2 : goal.returns-in_ok-give-in-Some-2
returns-in_ok-give-in-Some-2 c =
    let known = known_in c.args.values.now in
    let new = known_in c.give.new.self in
    let value = made_value c.args.values.now.cells in
    let v = value c.in-Some-2.made in
    passes_made known new c.args.literal.now c.args.rest.now v
    (ap known (sym c.subject-y.ensures) ∙ none_from c.has.result (known c.subject-y.result.0) c.has.ensures c.if-has.false)
    (subst (λ y. Gives known new y v) c.subject-y.ensures c.in_ok-give-in-Some-2.ensures.gives)
    c.in_ok-give-in-Some-2.ensures.sound
    (subst (λ o. MadeIs known c.args.literal.now c.args.rest.now (option_map value o)) c.in-Some-2.is c.in_ok-made-in-None.ensures.made)

pub returns-in-None-2 : goal.returns-in-None-2
returns-in-None-2 c =
    let known = known_in c.args.values.now in
    let value = made_value c.args.values.now.cells in
    stuck_unmade known known c.args.literal.now c.args.rest.now
    (subst (FactIs known c.args.literal.now) c.in-None.is c.in_ok-holds.ensures)
    (subst (λ o. MadeIs known c.args.literal.now c.args.rest.now (option_map value o)) c.in-None-2.is c.in_ok-made-in-None.ensures.made)

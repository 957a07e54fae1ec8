use Rattle.std.proofs.Common.{[], refl, ap, subst, sym, ◌∙◌}
use Rattle.std.specs.Option.{option_map}
use Rattle.feature_trees.specs.Tree.{entries_of}
use Rattle.tree_clauses.specs.Cells.{value_at, edited}
use Rattle.tree_clauses.specs.KnownValues.{known_in}
use Rattle.tree_clauses.specs.MadeValues.{replaced}
use Rattle.tree_clauses.specs.Solved.{IsInOrder}
use Rattle.tree_clauses.proofs.Orders.{lent}
use Rattle.tree_clauses.proofs.Valuations.{sound_at}
use Rattle.tree_clauses.proofs.Decided.{similar_made, similar_unmade}
use Rattle.tree_clauses.proofs.making.make_similar.Goals as goal

pub returns-in-Some-2-clause-made : goal.returns-in-Some-2-clause-made
returns-in-Some-2-clause-made c = λ listed same.
    let known = known_in c.args.values.now in
    let cells = c.args.values.now.cells in
    let from = value_at cells c.in-Some.from in
    let es = entries_of from in
    let order = subst (λ ns. IsInOrder ns (lent c.in_ok-rising.rising.items)) (sym same) c.in_ok-rising.ensures in
    similar_made known c.args.x c.args.y listed (lent c.in_ok-rising.rising.items) c.args.rest.now from es (edited cells es c.in-Some-2.edits)
    (ap (option_map (value_at cells)) c.in-Some.ensures.is) (sound_at cells c.in-Some.from c.are_sound.ensures) order refl
    (sym (ap (option_map (edited cells es)) c.in-Some-2.is) ∙ c.in_ok-edits.ensures.edits es ∙ ap (λ fs. replaced known c.args.y.0 (lent fs) c.args.rest.now es) c.deref.ensures.value)

pub returns-clause-made : goal.returns-clause-made
returns-clause-made c = λ listed same.
    let known = known_in c.args.values.now in
    let cells = c.args.values.now.cells in
    let order = subst (λ ns. IsInOrder ns (lent c.in_ok-rising.rising.items)) (sym same) c.in_ok-rising.ensures in
    similar_unmade known c.args.x c.args.y listed (lent c.in_ok-rising.rising.items) c.args.rest.now [] order
    (sym (ap (option_map (edited cells [])) c.in-None-2.is) ∙ c.in_ok-edits.ensures.edits [] ∙ ap (λ fs. replaced known c.args.y.0 (lent fs) c.args.rest.now []) c.deref.ensures.value)

use Rattle.std.proofs.Common.{true, refl, subst, sym}
use Rattle.tree_clauses.specs.KnownValues.{known_in}
use Rattle.tree_clauses.specs.Steps.{StepIs}
use Rattle.tree_clauses.proofs.Passing.{Going, begins, goes_on, stops_at, at_end, ends_directory, ends_unknown, unknown_from}
use Rattle.tree_clauses.proofs.deciding.meets.Goals as goal

pub loop-left-init : goal.loop-left-init
loop-left-init c =
    let clause = c.args.clause.now in
    let known = known_in c.in_ok-values.values in
    subst (λ l. Going clause.start.0 c.args.tree.now clause.literals known l true) (sym c.as_slice-left.ensures)
    (begins clause.start.0 c.args.tree.now clause.literals known c.is_sound.ensures c.in_ok-values.ensures)

pub loop-left-preserved : goal.loop-left-preserved
loop-left-preserved c =
    let clause = c.args.clause.now in
    goes_on clause.start.0 c.args.tree.now clause.literals (known_in c.loop-left.values) (known_in c.pass.new.values) c.loop-left.left.now _ c.literal-item.result c.loop-left.holds c.in-Some.one
    refl c.in-len1-up.len_at_least c.literal-item.is c.loop-left.invariant
    (subst (StepIs _ _ _ _) c.in-Some.is c.in_ok-one.ensures)

pub returns-in-None : goal.returns-in-None
returns-in-None c =
    let clause = c.args.clause.now in
    stops_at clause.start.0 c.args.tree.now clause.literals (known_in c.loop-left.values) (known_in c.pass.new.values) c.loop-left.left.now _ c.literal-item.result c.loop-left.holds clause.now.0
    refl c.in-len1-up.len_at_least c.literal-item.is c.loop-left.invariant
    (subst (StepIs _ _ _ _) c.in-None.is c.in_ok-one.ensures)

pub returns-in-Some-is_directory : goal.returns-in-Some-is_directory
returns-in-Some-is_directory c =
    let clause = c.args.clause.now in
    let known = known_in c.loop-left.values in
    let going = at_end clause.start.0 c.args.tree.now clause.literals known c.loop-left.left.now c.loop-left.holds c.in_default.len_below c.loop-left.invariant in
    ends_directory clause c.args.tree.now known c.loop-left.holds c.in-Some-is_directory.directory going c.in-Some-is_directory.ensures

pub returns : goal.returns
returns c =
    let clause = c.args.clause.now in
    let known = known_in c.loop-left.values in
    let going = at_end clause.start.0 c.args.tree.now clause.literals known c.loop-left.left.now c.loop-left.holds c.in_default.len_below c.loop-left.invariant in
    ends_unknown clause.start.0 c.args.tree.now clause.literals known c.loop-left.holds clause.now.0 going
    (unknown_from (known clause.now.0) c.in-None-is_directory.ensures)

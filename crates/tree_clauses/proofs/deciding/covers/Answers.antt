use Rattle.std.proofs.Common.{◌≡◌, true, false, refl, subst, sym, ap, ◌∙◌}
use Rattle.tree_clauses.specs.KnownValues.{known_in}
use Rattle.tree_clauses.specs.Steps.{StepIs}
use Rattle.tree_clauses.proofs.Passing.{Going, begins, goes_on, stops_at, at_end, ends_directory, ends_unknown, unknown_from, fails}
use Rattle.tree_clauses.proofs.deciding.covers.Goals as goal

pub loop-left-init : goal.loop-left-init
loop-left-init c =
    let clause = c.args.clause.now in
    let known = known_in c.in_ok-values.values in
    subst (λ l. Going clause.start.0 c.args.tree.now clause.literals known l true) (sym c.as_slice-left.ensures)
    (begins clause.start.0 c.args.tree.now clause.literals known c.is_sound.ensures c.in_ok-values.ensures)

pub returns-then-not-holds : goal.returns-then-not-holds
returns-then-not-holds c =
    let clause = c.args.clause.now in
    let new = known_in c.pass.new.values in
    let going = goes_on clause.start.0 c.args.tree.now clause.literals (known_in c.loop-left.values) new c.loop-left.left.now _ c.literal-item.result true c.in-Some.holds
    refl c.in-len1-up.len_at_least c.literal-item.is c.loop-left.invariant
    (subst (StepIs _ _ _ _) c.in-Some.is c.in_ok-holds.ensures) in (
      λ t. absurd (let bad : false ≡ true = t in cc),
      λ covers. absurd (fails clause c.args.tree.now new _ (subst (Going _ _ _ new _) c.if-not-holds.true going) covers),
    )

pub loop-left-preserved : goal.loop-left-preserved
loop-left-preserved c =
    let clause = c.args.clause.now in
    let new = known_in c.pass.new.values in
    subst (Going _ _ _ new _) c.if-not-holds.false
    (goes_on clause.start.0 c.args.tree.now clause.literals (known_in c.loop-left.values) new c.loop-left.left.now _ c.literal-item.result true c.in-Some.holds
    refl c.in-len1-up.len_at_least c.literal-item.is c.loop-left.invariant
    (subst (StepIs _ _ _ _) c.in-Some.is c.in_ok-holds.ensures))

pub returns-in-None : goal.returns-in-None
returns-in-None c =
    let clause = c.args.clause.now in
    absurd (stops_at clause.start.0 c.args.tree.now clause.literals (known_in c.loop-left.values) (known_in c.pass.new.values) c.loop-left.left.now _ c.literal-item.result true clause.now.0
    refl c.in-len1-up.len_at_least c.literal-item.is c.loop-left.invariant
    (subst (StepIs _ _ _ _) c.in-None.is c.in_ok-holds.ensures) c.requires)

pub returns-in-Some-is_directory : goal.returns-in-Some-is_directory
returns-in-Some-is_directory c =
    let clause = c.args.clause.now in
    let known = known_in c.loop-left.values in
    let going = at_end clause.start.0 c.args.tree.now clause.literals known c.loop-left.left.now true c.in_default.len_below c.loop-left.invariant in
    (ends_directory clause c.args.tree.now known true c.in-Some-is_directory.directory going c.in-Some-is_directory.ensures).1

pub returns : goal.returns
returns c =
    let clause = c.args.clause.now in
    let known = known_in c.loop-left.values in
    let going = at_end clause.start.0 c.args.tree.now clause.literals known c.loop-left.left.now true c.in_default.len_below c.loop-left.invariant in
    absurd (ends_unknown clause.start.0 c.args.tree.now clause.literals known true clause.now.0 going
    (unknown_from (known clause.now.0) c.in-None-is_directory.ensures) c.requires)

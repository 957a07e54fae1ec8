use Rattle.std.proofs.Common.{sym, subst}
use Rattle.start_trees.specs.declared.need.Wanted.{Wanted}
use Rattle.start_trees.specs.Needs.{Leaves}
use Rattle.start_trees.proofs.Walks.{limited_leaves, fenced_leaves, led_leaves}
use Rattle.start_trees.proofs.starts.want.Goals as goal

pub returns-in_ok-left-in-Kinds-clause-leaves : goal.returns-in_ok-left-in-Kinds-clause-leaves
returns-in_ok-left-in-Kinds-clause-leaves c =
    let old = c.args.store.now in
    let new = c.limit.new.self in
    let P : Wanted → Type 0 = λ w. Leaves old new c.args.x.0 w in
    let exact = c.in_ok-left-in-Kinds.ensures in
    subst P (sym c.in-Kinds.is) (limited_leaves old new c.args.x.0 c.in-Kinds.kinds exact.kept.0 exact.kept.1 exact.exact)

pub returns-in_ok-left-in-Names-clause-leaves : goal.returns-in_ok-left-in-Names-clause-leaves
returns-in_ok-left-in-Names-clause-leaves c =
    let old = c.args.store.now in
    let new = c.fence.new.self in
    let P : Wanted → Type 0 = λ w. Leaves old new c.args.x.0 w in
    subst P (sym c.in-Names.is) (fenced_leaves old new c.args.x.0 c.in-Names.names c.in_ok-left-in-Names.ensures.fences)

pub returns-in_ok-left-in-Target-clause-leaves : goal.returns-in_ok-left-in-Target-clause-leaves
returns-in_ok-left-in-Target-clause-leaves c =
    let old = c.args.store.now in
    let new = c.lead.new.self in
    let P : Wanted → Type 0 = λ w. Leaves old new c.args.x.0 w in
    let exact = c.in_ok-left-in-Target.ensures in
    subst P (sym c.in-Target.is) (led_leaves old new c.args.x.0 c.in-Target.target exact.kept.0 exact.kept.1 exact.exact)

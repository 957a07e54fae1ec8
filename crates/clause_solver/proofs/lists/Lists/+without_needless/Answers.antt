use Rattle.std.proofs.Common.{◌≤◌, ◌+◌, sym, subst, arith}
use Rattle.clause_solver.specs.Plainest.{ArePlainestFrom}
use Rattle.clause_solver.proofs.Spares.{needed_last, plainest_after, plainest_itself}
use Rattle.clause_solver.proofs.lists.Lists.+without_needless.Goals as goal

pub returns-then-high-low-le1 : goal.returns-then-high-low-le1
returns-then-high-low-le1 t c =
    let a = c.args.self.now in
    let low = c.args.low in
    let le = c.requires.inside.0 in
    let few = c.if-high-low-le1.true in
    let most : c.args.high ≤ low + 1 = omega (arith, le, few) in
    let tried = c.in_ok-tried.ensures in
    let needed = needed_last a c.in_ok-tried.tried low c.args.high le most c.requires.later tried.plainer tried.others tried.decided c.if-tried.false in
    record { plainest = subst (ArePlainestFrom low a) (sym c.in_ok-kept.ensures) (plainest_itself a low c.requires.decided c.requires.left needed) }

pub returns : goal.returns
returns t c =
    let upper = c.in_ok-upper.ensures.plainest in
    record { plainest = plainest_after c.args.self.now c.in_ok-upper.upper c.in_ok-new.new c.args.low upper.plainer upper.filled c.in_ok-new.ensures.plainest }

use Rattle.std.proofs.Common.{◌≡◌, ◌<◌, ◌↔◌, ◌&&◌, ◌∙◌, IsTrue, length, length-set, refl, sym, ap, subst, arith}
use Rattle.clause_solver.specs.declared.lists.Lists.{Lists}
use Rattle.clause_solver.specs.Decided.{AreFilled, HaveEntries}
use Rattle.clause_solver.specs.Emptied.{fenced}
use Rattle.clause_solver.specs.Linked.{AreLinked}
use Rattle.clause_solver.specs.Settled.{AreSettled}
use Rattle.clause_solver.specs.Variables.{var_at, Ordered, is_node}
use Rattle.clause_solver.proofs.Entered.{node_still}
use Rattle.clause_solver.proofs.Fenced.{fenced_order, fenced_linked}
use Rattle.clause_solver.proofs.ListSteps.{fenced_numbers, fenced_decided}
use Rattle.clause_solver.proofs.Without.{fenced_closed}
use Rattle.clause_solver.proofs.lists.Lists.closed.Goals as goal
use Rattle.clause_solver.proofs.lists.Lists.closed.Goals.{In_ok-enclose}

module _ (c : In_ok-enclose) where
  vars_are : c.enclose.new.vars ≡ fenced c.in_ok-new.new.vars c.args.n c.args.names.now
  vars_are = c.in_ok-enclose.ensures

  here : c.args.n < length c.in_ok-new.new.vars
  here = let a = c.requires.inside in let b = c.in_ok-new.ensures.more.more in omega (arith, a, b)

  node : IsTrue (is_node (var_at c.in_ok-new.new.vars c.args.n).definition)
  node = node_still c.args.self.now.vars c.in_ok-new.new.vars c.args.n c.requires.inside c.in_ok-new.ensures.more c.requires.node

  long : length c.enclose.new.vars ≡ length c.in_ok-new.new.vars
  long = ap length vars_are ∙ length-set c.in_ok-new.new.vars c.args.n _

  same : length c.in_ok-new.new.best ≡ length c.enclose.new.vars
  same = c.in_ok-new.ensures.decided.same ∙ sym long

  inside : c.args.n < length c.enclose.new.vars
  inside = let a = here in let e = long in omega (arith, a, e)

  order : Ordered c.enclose.new.vars
  order = subst Ordered (sym vars_are) (fenced_order c.in_ok-new.new.vars c.args.n c.args.names.now here node c.in_ok-new.ensures.known c.in_ok-new.ensures.decided.order)

  linked : AreLinked c.enclose.new.vars c.in_ok-new.new.kin
  linked = subst (λ vs. AreLinked vs c.in_ok-new.new.kin) (sym vars_are) (fenced_linked c.in_ok-new.new.vars c.args.n c.args.names.now here c.in_ok-new.new.kin c.in_ok-new.ensures.decided.linked)

  numbers : AreFilled c.enclose.new.vars c.in_ok-new.new.filled
  numbers = subst (λ vs. AreFilled vs c.in_ok-new.new.filled) (sym vars_are) (fenced_numbers c.in_ok-new.new.vars c.args.n c.args.names.now c.in_ok-new.new.filled here c.in_ok-new.ensures.decided.filled)

pub settle_entries-requires-clause-same : goal.settle_entries-requires-clause-same
settle_entries-requires-clause-same c = rw c.in_ok-best.ensures (same (goal.at.settle_entries-requires-clause-same c).In_ok-enclose)

pub settle_entries-requires-clause-order : goal.settle_entries-requires-clause-order
settle_entries-requires-clause-order c = order (goal.at.settle_entries-requires-clause-order c).In_ok-enclose

pub settle_entries-requires-clause-linked : goal.settle_entries-requires-clause-linked
settle_entries-requires-clause-linked c = linked (goal.at.settle_entries-requires-clause-linked c).In_ok-enclose

pub settle_entries-requires-clause-inside : goal.settle_entries-requires-clause-inside
settle_entries-requires-clause-inside c = inside (goal.at.settle_entries-requires-clause-inside c).In_ok-enclose

pub have_entries-have-requires-clause-order : goal.have_entries-have-requires-clause-order
have_entries-have-requires-clause-order c = order (goal.at.have_entries-have-requires-clause-order c).In_ok-enclose

pub have_entries-have-requires-clause-linked : goal.have_entries-have-requires-clause-linked
have_entries-have-requires-clause-linked c = linked (goal.at.have_entries-have-requires-clause-linked c).In_ok-enclose

pub have_entries-have-requires-clause-filled : goal.have_entries-have-requires-clause-filled
have_entries-have-requires-clause-filled c = numbers (goal.at.have_entries-have-requires-clause-filled c).In_ok-enclose

pub returns-clause-decided : goal.returns-clause-decided
returns-clause-decided c =
    let at_fence = (goal.at.returns-clause-decided c).In_ok-enclose in
    let mid = c.in_ok-new.new in
    let names = c.args.names.now in
    let vars = fenced mid.vars c.args.n names in
    let best = c.in_ok-settled.settled.best in
    let fits = c.in_ok-settled.settled.fits in
    let have = c.have_entries-have.result in
    let after : Lists = record { vars = c.enclose.new.vars; best = best; kin = mid.kin; filled = mid.filled; alive = ((mid.alive && fits) && have) } in
    let settled : AreSettled vars c.args.n mid.best best fits = rw (c.in_ok-enclose.ensures, c.in_ok-best.ensures) at c.in_ok-settled.ensures in
    let ih : IsTrue have ↔ HaveEntries vars best mid.filled = rw c.in_ok-enclose.ensures at c.have_entries-have.ensures in
    fenced_decided mid after c.args.n names c.in_ok-new.ensures.decided (here at_fence) (node at_fence) c.in_ok-new.ensures.known c.in_ok-enclose.ensures best fits have settled ih refl refl refl refl

pub returns-clause-closed : goal.returns-clause-closed
returns-clause-closed c =
    rw c.in_ok-enclose.ensures (fenced_closed c.args.self.now.vars c.in_ok-new.new.vars c.args.n c.args.names.now c.requires.decided.order.some c.requires.inside c.in_ok-new.ensures.more)

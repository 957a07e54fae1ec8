use Rattle.std.proofs.Common.{◌≡◌, ◌≢◌, ◌↔◌, ◌&&◌, ◌∙◌, IsTrue, true, false, List, refl, sym, ap, subst, set}
use Rattle.feature_trees.specs.declared.kind.Kind.{Kind}
use Rattle.feature_trees.specs.Kinds.{has}
use Rattle.clause_solver.specs.declared.lists.Lists.{Lists}
use Rattle.clause_solver.specs.declared.variable.Variable.{Variable}
use Rattle.clause_solver.specs.Decided.{AreFilled, HaveEntries}
use Rattle.clause_solver.specs.Greatest.{kind_at, best_of}
use Rattle.clause_solver.specs.Linked.{AreLinked}
use Rattle.clause_solver.specs.Settled.{AreSettled, WasGreatest}
use Rattle.clause_solver.specs.Variables.{var_at, Ordered, narrowed}
use Rattle.clause_solver.proofs.Narrowed.{narrowed_order}
use Rattle.clause_solver.proofs.Links.{narrowed_linked}
use Rattle.clause_solver.proofs.Redecided.{narrowing_keeps, narrowing_falls, numbers_still, was_greatest}
use Rattle.clause_solver.proofs.lists.Lists.narrow.Goals as goal
use Rattle.clause_solver.proofs.lists.Lists.narrow.Goals.{In_ok-narrow, After-is_same}

module _ (c : In_ok-narrow) where
  vars_are : c.narrow.new.vars ≡ narrowed c.args.self.now.vars c.args.x c.args.k
  vars_are = c.in_ok-narrow.ensures

  order : Ordered c.narrow.new.vars
  order = subst Ordered (sym vars_are) (narrowed_order c.args.self.now.vars c.args.x c.args.k c.requires.inside c.requires.decided.order)

  linked : AreLinked c.narrow.new.vars c.args.self.now.kin
  linked = subst (λ vs. AreLinked vs c.args.self.now.kin) (sym vars_are) (narrowed_linked c.args.self.now.vars c.args.self.now.kin c.args.x c.args.k c.requires.inside c.requires.decided.linked)

  numbers : AreFilled c.narrow.new.vars c.args.self.now.filled
  numbers = subst (λ vs. AreFilled vs c.args.self.now.filled) (sym vars_are) (numbers_still c.args.self.now.vars c.args.x c.args.k c.requires.inside c.args.self.now.filled c.requires.decided.filled)

pub greatest_narrowed-kind-requires-clause-order : goal.greatest_narrowed-kind-requires-clause-order
greatest_narrowed-kind-requires-clause-order c = order (goal.at.greatest_narrowed-kind-requires-clause-order c).In_ok-narrow

pub greatest_narrowed-kind-requires-clause-was : goal.greatest_narrowed-kind-requires-clause-was
greatest_narrowed-kind-requires-clause-was c =
    let was = c.args.self.now in
    subst (λ vs. WasGreatest vs was.best c.args.x) (sym c.in_ok-narrow.ensures) (was_greatest was.vars c.args.x c.args.k c.requires.inside was.best c.requires.decided.best)

pub settle_entries-requires-clause-order : goal.settle_entries-requires-clause-order
settle_entries-requires-clause-order c = order (goal.at.settle_entries-requires-clause-order c).In_ok-narrow

pub settle_entries-requires-clause-linked : goal.settle_entries-requires-clause-linked
settle_entries-requires-clause-linked c = linked (goal.at.settle_entries-requires-clause-linked c).In_ok-narrow

pub have_entries-have-requires-clause-order : goal.have_entries-have-requires-clause-order
have_entries-have-requires-clause-order c = order (goal.at.have_entries-have-requires-clause-order c).In_ok-narrow

pub have_entries-have-requires-clause-linked : goal.have_entries-have-requires-clause-linked
have_entries-have-requires-clause-linked c = linked (goal.at.have_entries-have-requires-clause-linked c).In_ok-narrow

pub have_entries-have-requires-clause-filled : goal.have_entries-have-requires-clause-filled
have_entries-have-requires-clause-filled c = numbers (goal.at.have_entries-have-requires-clause-filled c).In_ok-narrow

module _ (c : After-is_same) where
  abbrev new : List Variable
  new = narrowed c.args.self.now.vars c.args.x c.args.k

  are : c.narrow.new.vars ≡ new
  are = c.in_ok-narrow.ensures

  abbrev top : Kind
  top = c.greatest_narrowed-kind.result

  top_is : top ≡ best_of new c.args.self.now.best c.args.x
  top_is = c.greatest_narrowed-kind.ensures ∙ ap (λ vs. best_of vs c.args.self.now.best c.args.x) are

  fits_is : c.has-fits.result ≡ has (var_at new c.args.x).kinds top
  fits_is = c.has-fits.ensures ∙ ap (λ (v : Variable). has v.kinds top) c.var_at.ensures ∙ ap (λ vs. has (var_at vs c.args.x).kinds top) are

pub returns-then-is_same-clause-decided : goal.returns-then-is_same-clause-decided
returns-then-is_same-clause-decided c =
    let was = c.args.self.now in
    let at_same = (goal.at.returns-then-is_same-clause-decided c).After-is_same in
    let after : Lists = record { vars = c.narrow.new.vars; best = was.best; kin = was.kin; filled = was.filled; alive = (was.alive && c.has-fits.result) } in
    let here : kind_at was.best c.args.x ≡ c.greatest_narrowed-kind.result = sym c.kind_at.ensures ∙ c.is_same.ensures.0 c.if-is_same.true in
    narrowing_keeps was after c.args.x c.args.k c.requires.decided c.requires.inside c.in_ok-narrow.ensures refl refl c.greatest_narrowed-kind.result (top_is at_same) c.has-fits.result (fits_is at_same) here refl refl

pub returns-clause-decided : goal.returns-clause-decided
returns-clause-decided c =
    let was = c.args.self.now in
    let at_same = (goal.at.returns-clause-decided c).After-is_same in
    let vars = narrowed was.vars c.args.x c.args.k in
    let kind = c.greatest_narrowed-kind.result in
    let fits = c.has-fits.result in
    let below = c.in_ok-settled.settled.fits in
    let best = c.in_ok-settled.settled.best in
    let have = c.have_entries-have.result in
    let after : Lists = record { vars = c.narrow.new.vars; best = best; kin = was.kin; filled = was.filled; alive = ((was.alive && (fits && below)) && have) } in
    let fell : kind_at was.best c.args.x ≢ kind = λ e. let t = c.is_same.ensures.1 (c.kind_at.ensures ∙ e) in let f = c.if-is_same.false in let bad : true ≡ false = sym t ∙ f in cc in
    let settled : AreSettled vars c.args.x (set was.best c.args.x kind) best below = rw (c.in_ok-narrow.ensures, c.in_ok-best.ensures, c.in_ok-set_alone.ensures.ok) at c.in_ok-settled.ensures in
    let ih : IsTrue have ↔ HaveEntries vars best was.filled = rw c.in_ok-narrow.ensures at c.have_entries-have.ensures in
    narrowing_falls was after c.args.x c.args.k c.requires.decided c.requires.inside c.in_ok-narrow.ensures refl refl kind (top_is at_same) fits (fits_is at_same) fell best below settled have ih refl refl

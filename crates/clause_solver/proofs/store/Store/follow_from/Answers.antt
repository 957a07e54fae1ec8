use Rattle.std.proofs.Common.{◌≡◌, refl, sym, ◌∙◌, true, false, length}
use Rattle.clause_solver.specs.declared.store.Store.TheInside.{Inside}
use Rattle.clause_solver.specs.Adds.{AllInside}
use Rattle.clause_solver.proofs.Added.{nowhere_from, added_from, added_settled}
use Rattle.clause_solver.proofs.store.Store.follow_from.Goals as goal

pub returns-then-not-left : goal.returns-then-not-left
returns-then-not-left c =
    let inside : AllInside c.args.given.now (length c.self.inside.lists.vars) = rw (← c.self.view_is) at c.requires.known in
    rw (← c.self.view_is)
    (nowhere_from c.self.inside c.self.invariant c.args.given.now inside c.args.case.now c.requires.plain c.in_ok-draft.draft c.in_ok-draft.ensures c.place-current.result c.place-current.ensures
    (λ t. let bad : true ≡ false = sym t ∙ c.if-not-left.true in cc))

pub invariant_of-result : goal.invariant_of-result
invariant_of-result c =
    let inside : AllInside c.args.given.now (length c.self.inside.lists.vars) = rw (← c.self.view_is) at c.requires.known in
    let after : Inside = record { lists = c.in_ok-draft.draft.lists; current = c.place-current.result; alloc = c.self.inside.alloc } in
    added_settled c.self.inside c.self.invariant c.args.given.now inside c.args.case.now c.requires.plain c.in_ok-draft.draft c.in_ok-draft.ensures c.place-current.result c.place-current.ensures after refl refl

pub returns : goal.returns
returns c =
    let inside : AllInside c.args.given.now (length c.self.inside.lists.vars) = rw (← c.self.view_is) at c.requires.known in
    let after : Inside = record { lists = c.in_ok-draft.draft.lists; current = c.place-current.result; alloc = c.self.inside.alloc } in
    rw (← c.self.view_is)
    (added_from c.self.inside c.self.invariant c.args.given.now inside c.args.case.now c.requires.plain c.in_ok-draft.draft c.in_ok-draft.ensures c.place-current.result c.place-current.ensures after refl refl c.if-not-left.false)

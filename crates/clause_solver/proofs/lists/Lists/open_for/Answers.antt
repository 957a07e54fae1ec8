use Rattle.std.proofs.Common.{◌≡◌, ◌<◌, ◌∙◌, ap, inl, inr, [], set, length, subst, sym, IsTrue, Some, true, false}
use Rattle.clause_solver.specs.declared.variable.Variable.{Variable}
use Rattle.clause_solver.specs.Greatest.{HasEntryOutside, unfenced_if}
use Rattle.clause_solver.specs.Variables.{var_at}
use Rattle.clause_solver.specs.Opens.{mark_at, IsRoot}
use Rattle.clause_solver.proofs.HasEntries.{replaced_nothing}
use Rattle.clause_solver.proofs.Opens.{has_entry_any, has_entry_opened, mark_same, mark_set}
use Rattle.clause_solver.proofs.lists.Lists.open_for.Goals as goal

pub returns-then-has_entry_outside-clause-filled : goal.returns-then-has_entry_outside-clause-filled
returns-then-has_entry_outside-clause-filled c t =
    let filled = rw replaced_nothing at c.has_entry_outside.ensures in
    has_entry_any c.args.self.now.vars c.args.self.now.best c.args.marks.now (filled.0 c.if-has_entry_outside.true)

pub returns-in-None-clause-filled : goal.returns-in-None-clause-filled
returns-in-None-clause-filled c t =
    has_entry_opened c.args.self.now.vars c.args.self.now.best c.args.marks.now (c.requires.has_entry t) (λ r q. let e = c.root.ensures.root r q in let n = c.in-None.is in absurd (cc))

pub returns-clause-reasoned : goal.returns-clause-reasoned
returns-clause-reasoned c n t =
    let vars = c.args.self.now.vars in
    let best = c.args.self.now.best in
    elim (mark_set c.args.marks.now c.in-Some.r n t) [
      | inl b ↦ inl b
      | inr e ↦
          let root : IsRoot vars c.args.i c.in-Some.r = c.in-Some.ensures.found in
          let none : ¬ (HasEntryOutside vars best (unfenced_if vars false) c.args.i []) = λ h. let has = rw replaced_nothing at c.has_entry_outside.ensures in let t = has.1 h in let f = c.if-has_entry_outside.false in let bad : true ≡ false = sym t ∙ f in absurd (cc) in
          let filled : IsTrue (var_at vars c.args.i).not_empty = ap (λ (v : Variable). v.not_empty) (sym c.var_at.ensures) ∙ c.if-not-var_at.false in
          inr (rw e (record { known = c.requires.inside; root = root; filled = filled; none = none }))
    ]

pub returns-clause-filled : goal.returns-clause-filled
returns-clause-filled c t =
    let marks = c.args.marks.now in
    let r = c.in-Some.r in
    let inside : r < length marks = rw c.requires.marks c.in-Some.ensures.within in
    has_entry_opened c.args.self.now.vars c.args.self.now.best (set marks r true) (c.requires.has_entry t)
    (λ r' q.
    let found : c.root.result ≡ Some r' = c.root.ensures.root r' q in
    let is : c.root.result ≡ Some r = c.in-Some.is in
    let e : r ≡ r' = cc in
    subst (λ n. IsTrue (mark_at (set marks r true) n)) e (mark_same marks r inside))

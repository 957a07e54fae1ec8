use Rattle.std.proofs.Common.{◌≡◌, ◌≢◌, ◌∙◌, ℕ, ◌<◌, ◌↔◌, IsTrue, true, false, inl, inr, refl, [], length, sym, ap}
use Rattle.feature_trees.specs.declared.kind.Kind.TheVariants.{Absent}
use Rattle.feature_trees.specs.Kinds.{has}
use Rattle.clause_solver.specs.declared.variable.Variable.{Variable}
use Rattle.clause_solver.specs.Greatest.{IsPresentChild, kind_at}
use Rattle.clause_solver.specs.Plainest.{is_entry}
use Rattle.clause_solver.specs.Variables.{var_at}
use Rattle.clause_solver.proofs.HasEntries.{replaced_nothing}
use Rattle.clause_solver.proofs.Names.{bool_cases}
use Rattle.clause_solver.proofs.lists.Lists.is_spare.Goals as goal

pub returns : goal.returns
returns c =
    let a = c.args.self.now in
    let x = c.args.x in
    let place : IsTrue (is_entry (var_at a.vars x).definition) =
    ap is_entry (sym c.definition_at.ensures) ∙ sym c.is_entry.ensures ∙ c.if-not-is_entry.false in
    let may : IsTrue (has (var_at a.vars x).kinds Absent) =
    ap (λ (v : Variable). has v.kinds Absent) (sym c.var_at.ensures) ∙ sym c.has-may.ensures ∙ c.if-not-may.false in
    let there : kind_at a.best x ≢ Absent = λ e.
    let t = c.is_same.ensures.1 (c.kind_at.ensures ∙ e) in
    let f = c.if-is_same.false in
    let bad : true ≡ false = sym t ∙ f in cc in
    let some : IsTrue c.some_present_child.result ↔ ((m : ℕ) × (m < length a.vars) × IsPresentChild a.vars a.best x [] m) =
    rw replaced_nothing at c.some_present_child.ensures in (
      λ t. record {
        place = place;
        may = may;
        there = there;
        alone = λ m w p.
            let found = some.1 (m, w, p) in
            let bad : false ≡ true = rw found at t in cc;
      },
      λ s. elim (bool_cases c.some_present_child.result) [
        | inl found ↦ let m = some.0 found in absurd (s.alone m.0 m.1 m.2)
        | inr nothing ↦ rw nothing refl
      ],
    )

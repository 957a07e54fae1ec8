use Rattle.std.proofs.Common.{◌≡◌, ◌<◌, ◌↔◌, ◌∙◌, IsTrue, true, false, [], length, sym, arith, below_more}
use Rattle.clause_solver.specs.Decided.{number_at}
use Rattle.clause_solver.specs.Greatest.{HasEntryOutside, unfenced}
use Rattle.clause_solver.proofs.HasEntries.{replaced_nothing}
use Rattle.clause_solver.proofs.lists.have_entries.Goals as goal

pub returns-then-not-has : goal.returns-then-not-has
returns-then-not-has c =
    let entry : IsTrue c.has_entry_outside-has.result ↔ HasEntryOutside c.args.vars.now c.args.best.now (unfenced c.args.vars.now) (number_at c.args.filled.now c.loop-k.k) [] =
    rw (replaced_nothing, c.number_at-x.ensures) at c.has_entry_outside-has.ensures in
    let w : c.loop-k.k < length c.args.filled.now = omega arith in (
      λ t. let bad : false ≡ true = t in absurd (cc),
      λ all. sym c.if-not-has.true ∙ entry.1 (all c.loop-k.k w),
    )

pub loop-k-preserved : goal.loop-k-preserved
loop-k-preserved c =
    let entry : IsTrue c.has_entry_outside-has.result ↔ HasEntryOutside c.args.vars.now c.args.best.now (unfenced c.args.vars.now) (number_at c.args.filled.now c.loop-k.k) [] =
    rw (replaced_nothing, c.number_at-x.ensures) at c.has_entry_outside-has.ensures in
    below_more _ _ c.loop-k.invariant (entry.0 c.if-not-has.false)

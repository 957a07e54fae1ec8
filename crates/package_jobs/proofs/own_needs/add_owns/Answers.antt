use Rattle.std.proofs.Common.{◌≡◌, ap, sym, subst, ◌∙◌}
use Rattle.std.specs.Prelude.{◌++◌, OnOk}
use Rattle.std.proofs.lemmas.Bool.{eqb-true}
use Rattle.std.proofs.lemmas.List.{append-nil}
use Rattle.package_jobs.proofs.NeededSets.{own_needs_are, nothing_to_own, none_there}
use Rattle.package_jobs.proofs.own_needs.add_owns.Goals as goal

pub returns-then-is_empty : goal.returns-then-is_empty
returns-then-is_empty c =
    let none = sym c.as_slice.ensures ∙ none_there c.as_slice.result.now (eqb-true _ 0 (sym c.is_empty.ensures ∙ c.if-is_empty.true)) in
    sym (ap (λ needs. c.args.needs.now ++ needs) (nothing_to_own c.args.own c.args.base.now c.args.new.now c.args.old.now none)
    ∙ append-nil c.args.needs.now)

pub returns : goal.returns
returns c =
    subst (λ needs. OnOk c.add_own_entries.result (c.add_own_entries.new.needs ≡ c.args.needs.now ++ needs))
    (own_needs_are c.args.own c.args.base.now c.args.new.now c.args.old.now c.owner-entries.result.now c.as_slice-2.result.now c.in_ok-owning.owning
    c.in_ok-owning.ensures c.owner-entries.ensures c.as_slice-2.ensures)
    c.add_own_entries.ensures

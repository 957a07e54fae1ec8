use Rattle.std.proofs.Common.{ap, ◌∙◌}
use Rattle.checker_input.specs.declared.package.Package.{Package}
use Rattle.package_jobs.proofs.NeedByNeed.{needs_are, needs_met}
use Rattle.package_jobs.proofs.needs.needs_of.Goals as goal

pub returns : goal.returns
returns c =
    needs_met c.args.scenario c.args.packages.now c.add_plain.new.needs
    (needs_are c.args.scenario c.columns_of-columns.result c.args.packages.now c.as_slice.result.now c.as_slice-new.result.now c.as_slice-old.result.now
    c.new-needs.result c.add_base.new.needs c.add_before.new.needs c.add_fits.new.needs c.add_owns.new.needs c.add_gone.new.needs c.add_plain.new.needs
    c.columns_of-columns.ensures c.as_slice.ensures c.as_slice-new.ensures (c.as_slice-old.ensures ∙ ap (λ (p : Package). p.entries) c.old_package.ensures)
    c.new-needs.ensures c.in_ok-add_base.ensures c.in_ok-add_before.ensures c.in_ok-add_fits.ensures c.in_ok-add_owns.ensures c.in_ok-add_gone.ensures c.in_ok-add_plain.ensures)

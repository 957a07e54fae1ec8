use Rattle.std.proofs.Common.{◌≡◌, ◌++◌, subst}
use Rattle.package_lists.specs.PathSets.{has}
use Rattle.package_lists.specs.Entries.{EntryParts}
use Rattle.package_jobs.specs.Needed.{gone_needs}
use Rattle.package_jobs.proofs.NeededSets.{one_more}
use Rattle.package_jobs.proofs.gone_needs.add_gone_entries.Goals as goal

pub loop-entry-preserved : goal.loop-entry-preserved
loop-entry-preserved c =
    let f = gone_needs c.args.base.now (has c.in_ok-above.above) in
    one_more f c.args.new.now c.loop-entry.entry-index c.entry-item.result c.loop-entry-test.true c.args.needs.now c.loop-entry.needs c.add_gone_entry.new.needs
    c.loop-entry.invariant
    (subst (λ (e : EntryParts). c.add_gone_entry.new.needs ≡ c.loop-entry.needs ++ f e) c.entry-item.is c.in_ok-add_gone_entry.ensures)

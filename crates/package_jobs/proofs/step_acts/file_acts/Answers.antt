use Rattle.std.proofs.Common.{All, List, ◌+◌, ◌*◌, ◌≤◌, length, subst, sym}
use Rattle.utility_calls.specs.Acts.{IsPerformed}
use Rattle.utility_calls.specs.declared.acts.Act.{Act}
use Rattle.package_lists.specs.Entries.{HasName}
use Rattle.package_jobs.proofs.FilesFew.{acts_few}
use Rattle.package_jobs.specs.FileActs.{IsOfPackage}
use Rattle.package_jobs.proofs.FilesPerformed.{acts_performed, acts_named, acts_of_package}
use Rattle.scenario_runs.specs.Acts.{HasName as IsNamed}
use Rattle.package_jobs.proofs.step_acts.file_acts.Goals as goal

pub returns-clause-performed : goal.returns-clause-performed
returns-clause-performed c =
    subst (All IsPerformed) (sym c.in_ok-acts.ensures)
    (acts_performed c.args.scenario c.args.work c.args.new.now c.args.old.now c.args.base.now
    (subst (All HasName) c.as_slice.ensures c.entries_are_named.ensures)
    (subst (All HasName) c.as_slice-2.ensures c.entries_are_named-2.ensures))

pub returns-clause-named : goal.returns-clause-named
returns-clause-named c =
    subst (All IsNamed) (sym c.in_ok-acts.ensures)
    (acts_named c.args.scenario c.args.work c.args.new.now c.args.old.now c.args.base.now
    (subst (All HasName) c.as_slice.ensures c.entries_are_named.ensures)
    (subst (All HasName) c.as_slice-2.ensures c.entries_are_named-2.ensures))

pub returns-clause-of_package : goal.returns-clause-of_package
returns-clause-of_package c =
    subst (All IsOfPackage) (sym c.in_ok-acts.ensures)
    (acts_of_package c.args.scenario c.args.work c.args.new.now c.args.old.now c.args.base.now
    (subst (All HasName) c.as_slice.ensures c.entries_are_named.ensures)
    (subst (All HasName) c.as_slice-2.ensures c.entries_are_named-2.ensures))

pub returns-clause-few : goal.returns-clause-few
returns-clause-few c =
    subst (λ (acts : List Act). length acts ≤ 2 * (length c.args.new.now + length c.args.old.now)) (sym c.in_ok-acts.ensures)
    (acts_few c.args.scenario c.args.work c.args.new.now c.args.old.now c.args.base.now)

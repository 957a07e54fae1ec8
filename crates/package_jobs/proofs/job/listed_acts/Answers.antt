use Rattle.std.proofs.Common.{List, ◌≤◌, length, sym, subst}
use Rattle.package_lists.specs.Entries.{EntryParts}
use Rattle.package_lists.specs.FileLists.{MOST_ENTRIES}
use Rattle.package_jobs.proofs.FilesFew.{acts_few_enough}
use Rattle.package_jobs.proofs.job.listed_acts.Goals as goal

pub returns-clause-listed : goal.returns-clause-listed
returns-clause-listed c =
    let acts = c.in_ok-acts.acts in record {
      of_package = c.in_ok-acts.ensures.of_package;
      named = c.in_ok-acts.ensures.named;
      few = acts_few_enough acts c.list.result.now c.list-2.result.now c.in_ok-acts.ensures.few
          (subst (λ (l : List EntryParts). length l ≤ MOST_ENTRIES) (sym c.list.ensures.list) c.list.ensures.few)
          (subst (λ (l : List EntryParts). length l ≤ MOST_ENTRIES) (sym c.list-2.ensures.list) c.list-2.ensures.few);
    }

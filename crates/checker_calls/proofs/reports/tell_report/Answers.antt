use Rattle.checker_calls.specs.Reports.{chosen}
use Rattle.checker_calls.proofs.Accounts.{briefly_told}
use Rattle.checker_calls.proofs.reports.tell_report.Goals as goal

pub returns-in_ok-told-in-Briefly : goal.returns-in_ok-told-in-Briefly
returns-in_ok-told-in-Briefly g c =
    briefly_told c.args.packages.now c.args.turns c.args.limit (chosen c.args.scenario) c.args.telling
    c.in_ok-parts-in-Briefly.parts c.in_ok-told-in-Briefly.told c.in-Briefly.is c.in_ok-parts-in-Briefly.ensures
    c.in_ok-told-in-Briefly.ensures

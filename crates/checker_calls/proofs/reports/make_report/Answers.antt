use Rattle.checker_calls.specs.Reports.{chosen}
use Rattle.checker_calls.proofs.Accounts.{own_parts}
use Rattle.checker_calls.proofs.reports.make_report.Goals as goal

pub returns : goal.returns
returns g c =
    own_parts c.args.packages.now c.args.turns c.args.limit (chosen c.args.scenario) c.in_ok-parts.parts
    c.in_ok-parts.ensures

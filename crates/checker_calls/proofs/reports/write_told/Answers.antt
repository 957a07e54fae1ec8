use Rattle.checker_calls.specs.Reports.{chosen}
use Rattle.checker_calls.proofs.Rendered.{told_report}
use Rattle.checker_calls.proofs.reports.write_told.Goals as goal

pub returns : goal.returns
returns g c =
    told_report c.args.packages.now c.args.turns c.args.limit (chosen c.args.scenario) c.args.telling c.in_ok-told.told c.in_ok-text.text
    c.told_verdict-status.result c.in_ok-told.ensures c.in_ok-text.ensures (c.told_verdict-status.ensures c.args.telling)

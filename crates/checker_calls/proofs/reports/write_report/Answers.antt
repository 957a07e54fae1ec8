use Rattle.std.proofs.Common.{◌∙◌}
use Rattle.command_words.specs.declared.request.Layout.TheVariants.{Json}
use Rattle.checker_calls.specs.Reports.{chosen}
use Rattle.checker_calls.proofs.Rendered.{asked_report}
use Rattle.checker_calls.proofs.reports.write_report.Goals as goal

pub returns-in_ok-text-in-Json : goal.returns-in_ok-text-in-Json
returns-in_ok-text-in-Json g c =
    asked_report c.args.packages.now c.args.turns c.args.limit (chosen c.args.scenario) c.args.layout Json
    c.in_ok-report-in-Json.report c.written.result.text c.written.result.status c.in-Json.is
    c.in_ok-report-in-Json.ensures c.written.ensures.representable
    (c.written.ensures.text ∙ c.in_ok-text-in-Json.ensures) c.written.ensures.status

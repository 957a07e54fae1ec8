use Rattle.std.proofs.Common.{ap, ◌∙◌}
use Rattle.report_text.specs.Told.{told_verdict}
use Rattle.report_text.proofs.Joined.{verdict_so}
use Rattle.report_text.proofs.told_report.told_verdict.Goals as goal

pub returns : goal.returns
returns c = λ telling report are. c.verdict_on.ensures ∙ ap told_verdict c.as_slice.ensures ∙ verdict_so telling report c.args.told.now are

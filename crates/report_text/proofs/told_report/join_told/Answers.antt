use Rattle.std.proofs.Common.{ap, ◌∙◌}
use Rattle.report_text.specs.Told.{told_verdict}
use Rattle.report_text.proofs.Joined.{text_so}
use Rattle.report_text.proofs.told_report.join_told.Goals as goal

pub returns : goal.returns
returns c = λ report are.
    text_so c.args.telling report c.args.told c.in_ok-text.text c.put_verdict_line.new.text c.verdict_on-verdict.result are c.in_ok-text.ensures
    (c.verdict_on-verdict.ensures ∙ ap told_verdict c.as_slice.ensures) c.in_ok-put_verdict_line.ensures

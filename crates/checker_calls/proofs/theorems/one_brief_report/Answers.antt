use Rattle.checker_calls.proofs.OneText.{one_report_status, one_brief_text}
use Rattle.checker_calls.proofs.theorems.one_brief_report.Goals as goal

pub returns-clause-status : goal.returns-clause-status
returns-clause-status c = one_report_status

pub returns-clause-text : goal.returns-clause-text
returns-clause-text c = one_brief_text c.endings_tell_brief_texts.ensures

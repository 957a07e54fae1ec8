use Rattle.report_text.proofs.TextApart.{texts_tell}
use Rattle.report_text.proofs.theorems.texts_tell_reports.Goals as goal

pub returns : goal.returns
returns c = texts_tell

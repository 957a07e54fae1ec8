use Rattle.checker_calls.proofs.WholeReports.{plain_texts_tell}
use Rattle.checker_calls.proofs.theorems.plain_texts_tell_reports.Goals as goal

pub returns : goal.returns
returns c = plain_texts_tell c.texts_tell_reports.ensures

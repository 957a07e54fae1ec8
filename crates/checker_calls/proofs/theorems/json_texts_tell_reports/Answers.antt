use Rattle.checker_calls.proofs.WholeReports.{json_texts_tell}
use Rattle.checker_calls.proofs.theorems.json_texts_tell_reports.Goals as goal

pub returns : goal.returns
returns c = json_texts_tell c.json_tells_reports.ensures.texts

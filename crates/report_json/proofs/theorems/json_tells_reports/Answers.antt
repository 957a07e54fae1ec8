use Rattle.report_json.proofs.Told.{values_tell, versions_apart, texts_tell}
use Rattle.report_json.proofs.theorems.json_tells_reports.Goals as goal

pub returns-clause-values : goal.returns-clause-values
returns-clause-values c = values_tell

pub returns-clause-apart : goal.returns-clause-apart
returns-clause-apart c = versions_apart

pub returns-clause-texts : goal.returns-clause-texts
returns-clause-texts c = texts_tell

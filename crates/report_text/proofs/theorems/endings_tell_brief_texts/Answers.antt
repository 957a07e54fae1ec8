use Rattle.report_text.proofs.Briefs.{endings_tell}
use Rattle.report_text.proofs.theorems.endings_tell_brief_texts.Goals as goal

pub returns : goal.returns
returns c = endings_tell

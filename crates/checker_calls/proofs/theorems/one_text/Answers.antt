use Rattle.checker_calls.proofs.OneText.{one_status, one_text}
use Rattle.checker_calls.proofs.Works.{one_work}
use Rattle.checker_calls.proofs.theorems.one_text.Goals as goal

pub returns-clause-status : goal.returns-clause-status
returns-clause-status c = one_status one_work

pub returns-clause-text : goal.returns-clause-text
returns-clause-text c = one_text one_work c.endings_tell_brief_texts.ensures

use Rattle.system_base.proofs.Usual.{is_usual}
use Rattle.system_base.proofs.base.Base.usual.Goals as goal

pub returns-in-Ok-clause-usual : goal.returns-in-Ok-clause-usual
returns-in-Ok-clause-usual c = is_usual c.in-Ok.base c.in-Ok.ensures

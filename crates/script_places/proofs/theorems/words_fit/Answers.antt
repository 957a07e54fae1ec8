use Rattle.script_places.proofs.Fitting.{acts_fit, backs_fit}
use Rattle.script_places.proofs.theorems.words_fit.Goals as goal

pub returns-clause-acts : goal.returns-clause-acts
returns-clause-acts c = acts_fit

pub returns-clause-backs : goal.returns-clause-backs
returns-clause-backs c = backs_fit

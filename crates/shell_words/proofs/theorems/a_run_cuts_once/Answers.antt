use Rattle.shell_words.proofs.Cuts.{run-cuts-once}
use Rattle.shell_words.proofs.theorems.a_run_cuts_once.Goals as goal

pub returns : goal.returns
returns c = run-cuts-once

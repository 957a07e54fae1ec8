use Rattle.shell_rules.proofs.ClosedScopes.{subshells_close, outputs_close, functions_close, quiets_close}
use Rattle.shell_rules.proofs.theorems.scopes_close.Goals as goal

pub returns-clause-subshells : goal.returns-clause-subshells
returns-clause-subshells c = subshells_close

pub returns-clause-outputs : goal.returns-clause-outputs
returns-clause-outputs c = outputs_close

pub returns-clause-functions : goal.returns-clause-functions
returns-clause-functions c = functions_close

pub returns-clause-quiet : goal.returns-clause-quiet
returns-clause-quiet c = quiets_close

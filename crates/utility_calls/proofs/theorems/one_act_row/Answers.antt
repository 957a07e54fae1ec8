use Rattle.utility_calls.proofs.ActRow.{row_applies, no_other}
use Rattle.utility_calls.proofs.theorems.one_act_row.Goals as goal

pub returns-clause-applies : goal.returns-clause-applies
returns-clause-applies c act tree performed t = row_applies act tree performed t.dir

pub returns-clause-alone : goal.returns-clause-alone
returns-clause-alone c act tree n performed t a = no_other act tree performed t.dir a

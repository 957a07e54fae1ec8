use Rattle.token_laws.proofs.QuotedBytes.{quotes_one_part, quotes_cut}
use Rattle.token_laws.proofs.theorems.quotes_keep_bytes.Goals as goal

pub returns-clause-one_part : goal.returns-clause-one_part
returns-clause-one_part c = quotes_one_part

pub returns-clause-cut : goal.returns-clause-cut
returns-clause-cut c = quotes_cut

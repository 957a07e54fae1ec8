use Rattle.token_laws.proofs.PrintedQuotes.{quoted_is_one_part}
use Rattle.token_laws.proofs.printed.quoted_bytes_read_back.Goals as goal

pub returns : goal.returns
returns c = quoted_is_one_part

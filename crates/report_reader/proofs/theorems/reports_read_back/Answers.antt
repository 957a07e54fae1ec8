use Rattle.report_reader.proofs.ReadBack.{read_back}
use Rattle.report_reader.proofs.theorems.reports_read_back.Goals as goal

pub returns : goal.returns
returns c = read_back

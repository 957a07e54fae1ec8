use Rattle.checker_calls.proofs.WholeReports.{whole_reports}
use Rattle.checker_calls.proofs.theorems.reports_are_whole.Goals as goal

pub returns : goal.returns
returns c = whole_reports

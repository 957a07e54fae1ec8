use Rattle.dpkg_scenarios.proofs.Named.{scenario_read}
use Rattle.report_text.proofs.PieceReading.{result_read, trace_read, call_read}
use Rattle.report_text.proofs.theorems.pieces_read_back.Goals as goal

pub returns : goal.returns
returns c = record {
  scenarios = scenario_read;
  endings = result_read;
  traces = trace_read;
  calls = call_read;
}

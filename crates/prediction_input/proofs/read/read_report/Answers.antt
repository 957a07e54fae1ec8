use Rattle.std.specs.Prelude.{All}
use Rattle.checker_input.proofs.Files.{within_read, within_unread}
use Rattle.prediction_text.specs.PredictionText.{AreSolved}
use Rattle.prediction_input.specs.declared.read.TheConstants.{MOST_BYTES}
use Rattle.prediction_input.specs.PredictionInput.{ReportComes, report_in}
use Rattle.prediction_input.proofs.Solved.{came_solved}
use Rattle.prediction_input.proofs.read.read_report.Goals as goal

pub returns-in-Err-clause-reads : goal.returns-in-Err-clause-reads
unfolding report_in
returns-in-Err-clause-reads g c =
    within_unread MOST_BYTES ReportComes c.args.report.now (g.S.Shelf.state c.args.shelf.now) (g.S.Shelf.state c.read_file.new.shelf)
    c.in-Err.stop c.in-Err.ensures

pub returns-clause-reads : goal.returns-clause-reads
unfolding report_in
returns-clause-reads g c =
    within_read MOST_BYTES ReportComes c.args.report.now (g.S.Shelf.state c.args.shelf.now) (g.S.Shelf.state c.read_file.new.shelf)
    c.in-Ok.found c.named_report-came.result c.of_file.result c.in-Ok.ensures c.named_report-came.ensures c.of_file.ensures

pub returns-clause-solved : goal.returns-clause-solved
returns-clause-solved g c =
    came_solved c.in-Ok.found.name c.in-Ok.found.content c.named_report-came.result c.of_file.result c.named_report-came.ensures c.of_file.ensures

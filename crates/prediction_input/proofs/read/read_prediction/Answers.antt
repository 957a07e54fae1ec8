use Rattle.std.proofs.Common.{Ok, Err}
use Rattle.checker_io.proofs.Readings.{reads_done, reads_next, reads_stop}
use Rattle.prediction_input.specs.declared.prediction.Prediction.{Prediction}
use Rattle.prediction_input.specs.PredictionInput.{report_in, trees_in, predict_in}
use Rattle.prediction_input.proofs.Plans.{after_report, after_trees}
use Rattle.prediction_input.proofs.read.read_prediction.Goals as goal

pub returns-in-Err-clause-reads : goal.returns-in-Err-clause-reads
unfolding predict_in
returns-in-Err-clause-reads g c =
    reads_stop (λ n. n) (g.S.Shelf.state c.args.shelf.now) (g.S.Shelf.state c.read_report.new.shelf) (report_in c.args.report.now)
    (after_report c.args.trees.now) c.in-Err.stop c.in-Err.ensures.reads

pub returns-in-Err-read_trees-clause-reads : goal.returns-in-Err-read_trees-clause-reads
unfolding predict_in
returns-in-Err-read_trees-clause-reads g c =
    reads_next (λ n. n) (g.S.Shelf.state c.args.shelf.now) (g.S.Shelf.state c.read_report.new.shelf) (g.S.Shelf.state c.read_trees.new.shelf)
    (report_in c.args.report.now) (after_report c.args.trees.now) c.in-Ok.report (Err c.in-Err-read_trees.stop) c.in-Ok.ensures.reads
    (reads_stop (λ n. n) (g.S.Shelf.state c.read_report.new.shelf) (g.S.Shelf.state c.read_trees.new.shelf) (trees_in c.args.trees.now)
    (after_trees c.in-Ok.report) c.in-Err-read_trees.stop c.in-Err-read_trees.ensures)

pub returns-clause-reads : goal.returns-clause-reads
unfolding predict_in
returns-clause-reads g c =
    let value : Prediction = record { report = c.in-Ok.report; trees = c.in-Ok-read_trees.trees } in
    reads_next (λ n. n) (g.S.Shelf.state c.args.shelf.now) (g.S.Shelf.state c.read_report.new.shelf) (g.S.Shelf.state c.read_trees.new.shelf)
    (report_in c.args.report.now) (after_report c.args.trees.now) c.in-Ok.report (Ok value) c.in-Ok.ensures.reads
    (reads_next (λ n. n) (g.S.Shelf.state c.read_report.new.shelf) (g.S.Shelf.state c.read_trees.new.shelf) (g.S.Shelf.state c.read_trees.new.shelf)
    (trees_in c.args.trees.now) (after_trees c.in-Ok.report) c.in-Ok-read_trees.trees (Ok value) c.in-Ok-read_trees.ensures
    (reads_done (λ n. n) (g.S.Shelf.state c.read_trees.new.shelf) value))

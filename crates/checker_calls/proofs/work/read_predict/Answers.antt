use Rattle.std.proofs.Common.{Ok}
use Rattle.checker_io.proofs.Readings.{reads_done, reads_next, reads_stop}
use Rattle.prediction_input.specs.PredictionInput.{predict_in}
use Rattle.checker_calls.specs.declared.work.Work.TheVariants.{Predict}
use Rattle.checker_calls.proofs.Works.{of_prediction}
use Rattle.checker_calls.proofs.work.read_predict.Goals as goal

pub returns-in-Ok-clause-reads : goal.returns-in-Ok-clause-reads
returns-in-Ok-clause-reads g c =
    let s = g.S.Shelf.state c.args.shelf.now in
    let t = g.S.Shelf.state c.read_prediction.new.shelf in
    reads_next (λ n. n) s t t (predict_in c.args.report.now c.args.trees.now) of_prediction c.in-Ok.prediction
    (Ok (Predict c.in-Ok.prediction)) c.in-Ok.ensures.reads (reads_done (λ n. n) t (Predict c.in-Ok.prediction))

pub returns-in-Err-clause-reads : goal.returns-in-Err-clause-reads
returns-in-Err-clause-reads g c =
    let s = g.S.Shelf.state c.args.shelf.now in
    let t = g.S.Shelf.state c.read_prediction.new.shelf in
    reads_stop (λ n. n) s t (predict_in c.args.report.now c.args.trees.now) of_prediction c.in-Err.stop c.in-Err.ensures.reads

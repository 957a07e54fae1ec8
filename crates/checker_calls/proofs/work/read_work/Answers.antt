use Rattle.std.proofs.Common.{Ok}
use Rattle.checker_io.proofs.Readings.{reads_done, reads_next, reads_stop}
use Rattle.checker_input.specs.declared.asked.Asked.TheVariants as asked
use Rattle.checker_input.specs.Input.{input}
use Rattle.checker_calls.specs.declared.work.Work.TheVariants.{Task}
use Rattle.checker_calls.specs.Works.{work_of, work_in}
use Rattle.checker_calls.proofs.work.read_work.Goals as goal

pub returns-in-Ok-Task-clause-reads : goal.returns-in-Ok-Task-clause-reads
unfolding work_in
returns-in-Ok-Task-clause-reads g c =
    let s = g.S.Shelf.state c.args.shelf.now in
    let t = g.S.Shelf.state c.read_task.new.shelf in
    reads_next (λ n. n) s t t (input c.args.request.now) work_of (asked.Task c.in-Ok-Task.task) (Ok (Task c.in-Ok-Task.task))
    (rw c.in-Ok-Task.field-0-is at c.in-Ok-Task.ensures.reads) (reads_done (λ n. n) t (Task c.in-Ok-Task.task))

pub returns-in-Ok-Prediction-clause-reads : goal.returns-in-Ok-Prediction-clause-reads
unfolding work_in
returns-in-Ok-Prediction-clause-reads g c =
    let s = g.S.Shelf.state c.args.shelf.now in
    let t = g.S.Shelf.state c.read_task.new.shelf in
    let u = g.S.Shelf.state c.read_predict.new.shelf in
    reads_next (λ n. n) s t u (input c.args.request.now) work_of
    (asked.Prediction c.in-Ok-Prediction.report c.in-Ok-Prediction.trees) c.read_predict.result
    (rw c.in-Ok-Prediction.field-0-is at c.in-Ok-Prediction.ensures.reads) c.read_predict.ensures.reads

pub returns-in-Err-clause-reads : goal.returns-in-Err-clause-reads
unfolding work_in
returns-in-Err-clause-reads g c =
    let s = g.S.Shelf.state c.args.shelf.now in
    let t = g.S.Shelf.state c.read_task.new.shelf in
    reads_stop (λ n. n) s t (input c.args.request.now) work_of c.in-Err.stop c.in-Err.ensures.reads

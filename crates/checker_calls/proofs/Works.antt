-- What holds of tasks holds of work.
use Rattle.std.proofs.Common.{◌≡◌, ℕ, ◌≤◌, List, Result, Ok, arith}
use Rattle.checker_io.specs.Reading.{IsAnswer, IsSingle, done}
use Rattle.checker_io.specs.Shelf.{Files}
use Rattle.checker_io.proofs.Readings.{answer_once, single_next}
use Rattle.command_words.specs.declared.request.Request.{Request}
use Rattle.checker_input.specs.declared.asked.Asked.{Asked}
use Rattle.checker_input.specs.declared.asked.Asked.TheVariants as asked
use Rattle.checker_input.specs.declared.faults.InputRefusal.{InputRefusal}
use Rattle.checker_input.specs.Input.{Input, input}
use Rattle.checker_input.proofs.OneAnswer.{input_single}
use Rattle.prediction_input.specs.declared.prediction.Prediction.{Prediction}
use Rattle.prediction_input.specs.PredictionInput.{predict_in}
use Rattle.prediction_input.proofs.OnePrediction.{one_prediction}
use Rattle.checker_calls.specs.declared.faults.Refusal.{Refusal}
use Rattle.checker_calls.specs.declared.work.Work.{Work}
use Rattle.checker_calls.specs.declared.work.Work.TheVariants.{Task, Predict}
use Rattle.checker_calls.specs.Works.{work_of, work_in, IsTextOfWork, IsWorkRefusal, CanCompleteWork, MayEndWork}
use Rattle.checker_calls.proofs.Refused.{text_small, text_ends, text_or_refusal, refusal_or_complete}

-- work whose text was written is not refused
pub work_or_refusal : (work : Work) (text : List ℕ) (status : ℕ) (refusal : Refusal) → IsTextOfWork work text status
    → IsWorkRefusal work refusal → ⊥
work_or_refusal (Task task) text status refusal is against = text_or_refusal task text status refusal is against
work_or_refusal (Predict prediction) text status refusal is against = against

-- nor is work that can be completed
pub refused_or_complete : (work : Work) (refusal : Refusal) → IsWorkRefusal work refusal → CanCompleteWork work → ⊥
refused_or_complete (Task task) refusal against can = refusal_or_complete task refusal against can
refused_or_complete (Predict prediction) refusal against can = against

pub work_small : (work : Work) (text : List ℕ) (status : ℕ) → IsTextOfWork work text status → status ≤ 2
work_small (Task task) text status is = text_small task text status is
work_small (Predict prediction) text status is = let none = is.status_is in omega arith

-- the status of work's text is one with which the work may end
pub work_ends : (work : Work) (text : List ℕ) (status : ℕ) → IsTextOfWork work text status → MayEndWork work status
work_ends (Task task) text status is = text_ends task text status is
work_ends (Predict prediction) text status is = is.status_is

-- ---- what is read

-- what is read behind the files of a prediction: nothing
abbrev pub of_prediction : Prediction → Input Work
of_prediction prediction = done (Ok (Predict prediction))

further_single : (what : Asked) → IsSingle (work_of what)
further_single (asked.Task task) = tt
further_single (asked.Prediction report trees) =
    single_next (predict_in report trees) of_prediction (one_prediction report trees) (λ prediction. tt)

work_single : (request : Request) → IsSingle (work_in request)
unfolding work_in
work_single request = single_next (input request) work_of (input_single request) further_single

-- over files of the same contents a request comes to one work or to one refusal
abbrev pub OneWork : Type 0
OneWork =
    (request : Request) (files : Files) (one other : Result Work InputRefusal)
    → IsAnswer files (work_in request) one → IsAnswer files (work_in request) other → one ≡ other

pub one_work : OneWork
one_work request files one other x y = answer_once files (work_in request) one other (work_single request) x y

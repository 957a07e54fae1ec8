-- What a request comes to, and what is written of it: of a task, or of a prediction.
use Rattle.std.specs.Prelude.{◌≡◌, ℕ, All, List, Result, Ok, Err}
use Rattle.checker_io.specs.Reading.{done, and_then}
use Rattle.command_words.specs.declared.request.Request.{Request}
use Rattle.checker_input.specs.declared.asked.Asked.{Asked}
use Rattle.checker_input.specs.declared.asked.Asked.TheVariants as asked
use Rattle.checker_input.specs.Input.{Input, input, IsSound}
use Rattle.prediction_input.specs.declared.prediction.Prediction.{Prediction}
use Rattle.prediction_input.specs.PredictionInput.{predict_in}
use Rattle.prediction_text.specs.PredictionText.{AreSolved, IsPrediction}
use Rattle.checker_calls.specs.declared.faults.Refusal.{Refusal}
use Rattle.checker_calls.specs.declared.faults.TaskFault.{TaskFault}
use Rattle.checker_calls.specs.declared.faults.TaskFault.TheVariants.{Refused, Memory}
use Rattle.checker_calls.specs.declared.work.Work.{Work}
use Rattle.checker_calls.specs.declared.work.Work.TheVariants.{Task, Predict}
use Rattle.checker_calls.specs.declared.written.Written.{Written}
use Rattle.checker_calls.specs.Tasks.{IsTextOf, IsTaskRefusal, CanComplete, MayEnd}

-- ---- what is read

-- what is read behind what a request asks for: of a task nothing more, of a prediction its two files
abbrev pub work_of : Asked → Input Work
work_of (asked.Task task) = done (Ok (Task task))
work_of (asked.Prediction report trees) =
    and_then (predict_in report trees) (λ prediction. done (Ok (Predict prediction)))

-- all that a request reads
unfoldable pub work_in : Request → Input Work
work_in request = and_then (input request) work_of

-- what holds of work: a task is as it should be, and of a prediction each clause is in solved order
abbrev pub IsSoundWork : Work → Type 0
IsSoundWork (Task task) = IsSound task
IsSoundWork (Predict prediction) = All AreSolved prediction.report.parts

-- ---- what is written

-- the text says of each tree, for each scenario of the report, which outcome's clause is the first that covers it, and
-- how that outcome ends, or that no clause does; the status is 0
pub record IsPredictionOf (prediction : Prediction) (text : List ℕ) (status : ℕ) : Type 0 where
  pub is_text : IsPrediction prediction.report prediction.trees text
  pub status_is : status ≡ 0

-- the text of work, and the status that goes with it
abbrev pub IsTextOfWork : Work → List ℕ → ℕ → Type 0
IsTextOfWork (Task task) text status = IsTextOf task text status
IsTextOfWork (Predict prediction) text status = IsPredictionOf prediction text status

-- work is refused so; a prediction whose files were understood never is
abbrev pub IsWorkRefusal : Work → Refusal → Type 0
IsWorkRefusal (Task task) refusal = IsTaskRefusal task refusal
IsWorkRefusal (Predict prediction) refusal = ⊥

-- work is not refused
abbrev pub CanCompleteWork : Work → Type 0
CanCompleteWork (Task task) = CanComplete task
CanCompleteWork (Predict prediction) = Unit {0}

-- a status with which the text of work is written
abbrev pub MayEndWork : Work → ℕ → Type 0
MayEndWork (Task task) status = MayEnd task status
MayEndWork (Predict prediction) status = status ≡ 0

-- the text of work, or its refusal, or want of memory
abbrev pub WorkGives : Work → Result Written TaskFault → Type 0
WorkGives work (Ok written) = IsTextOfWork work written.text written.status
WorkGives work (Err (Refused refusal)) = IsWorkRefusal work refusal
WorkGives work (Err Memory) = Unit {0}

-- What a call answers, by its words, the shelf and the two sinks.
use Rattle.std.specs.Prelude.{◌≡◌, ◌⊎◌, ℕ, List, [], Option, Result, Ok, Err, IfSome}
use Rattle.script_names.specs.declared.memory.Memory.{Memory}
use Rattle.checker_io.specs.Faults.{Rose}
use Rattle.checker_io.specs.Shelf.{Files, ShelfState, IsQuiet}
use Rattle.checker_io.specs.Sink.{SinkState, Took, TookPrefix}
use Rattle.checker_io.specs.Reading.{Answers, Asks, IsAnswer}
use Rattle.command_words.specs.declared.request.Request.{Request}
use Rattle.command_words.specs.declared.request.Request.TheVariants as words
use Rattle.command_words.specs.Words.{form}
use Rattle.checker_input.specs.declared.faults.InputRefusal.{InputRefusal}
use Rattle.checker_calls.specs.declared.faults.Refusal.{Refusal}
use Rattle.checker_calls.specs.declared.faults.CallRefusal.{CallRefusal}
use Rattle.checker_calls.specs.declared.faults.CallRefusal.TheVariants.{Usage, Input, Task as OfTask}
use Rattle.checker_calls.specs.declared.work.Work.{Work}
use Rattle.checker_calls.specs.declared.deliver.TheConstants.{REFUSED, OUT_OF_MEMORY}
use Rattle.checker_calls.specs.declared.deliver.Reply.{Reply}
use Rattle.checker_calls.specs.declared.deliver.Reply.TheVariants.{Text, Refused, ReadFailed, NoMemory}
use Rattle.checker_calls.specs.Works.{work_in, IsTextOfWork, IsWorkRefusal, CanCompleteWork, MayEndWork}
use Rattle.checker_calls.specs.ErrorLines.{refusal_line, read_failed_line, write_failed_line, no_memory_line}

-- ---- what the files come to

-- where the shelf tells, the files of a request come to this work, or to this refusal; elsewhere they may
abbrev pub FilesGive : Request → Option Files → Result Work InputRefusal → Type 0
FilesGive request holds result = Answers (λ name. name) holds (work_in request) result

-- files of these contents, by their names, do
abbrev pub FilesGiveOver : Request → Files → Result Work InputRefusal → Type 0
FilesGiveOver request files result = IsAnswer files (work_in request) result

-- The refusal of a request, by what its files come to: one of them is refused; or else the work is that they come to.
abbrev pub IsRequestRefusal : Request → (Result Work InputRefusal → Type 0) → CallRefusal → Type 0
IsRequestRefusal request Gives refusal =
    ((fault : InputRefusal) × (refusal ≡ Input fault) × Gives (Err fault))
    ⊎ ((work : Work) × (own : Refusal) × (refusal ≡ OfTask own) × Gives (Ok work) × IsWorkRefusal work own)

-- ---- what is said

-- In what follows the words were understood as given: a request, or the number of the word at which they are no
-- command line.

-- the text and the status of the work that the request comes to
pub record IsAnswerText (given : Result Request ℕ) (holds : Option Files) (text : List ℕ) (status : ℕ) : Type 0 where
  pub request : Request
  pub spelled : given ≡ Ok request
  pub work : Work
  pub read : FilesGive request holds (Ok work)
  pub of_work : IsTextOfWork work text status

-- the refusal that the words, or else the request, are answered with
abbrev pub IsRefusal : Result Request ℕ → Option Files → CallRefusal → Type 0
IsRefusal (Err word) holds refusal = refusal ≡ Usage word
IsRefusal (Ok request) holds refusal = IsRequestRefusal request (FilesGive request holds) refusal

-- the line says why the words or the request are refused
pub record IsRefusalLine (given : Result Request ℕ) (holds : Option Files) (line : List ℕ) : Type 0 where
  pub refusal : CallRefusal
  pub is_refusal : IsRefusal given holds refusal
  pub line_is : line ≡ refusal_line refusal

-- the line says that a file which the words ask for was not read
pub record IsReadFailedLine (given : Result Request ℕ) (holds : Option Files) (failed line : List ℕ) : Type 0 where
  pub request : Request
  pub spelled : given ≡ Ok request
  pub file : List ℕ
  pub asked : Asks (λ name. name) holds (work_in request) file
  pub failed_is : failed ≡ file
  pub line_is : line ≡ read_failed_line file

-- what a call has to say
abbrev pub Replies : Result Request ℕ → ShelfState → ShelfState → Reply → Type 0
Replies given old new (Text text status) = IsQuiet old new × IsAnswerText given old.holds text status
Replies given old new (Refused line) = IsQuiet old new × IsRefusalLine given old.holds line
Replies given old new (ReadFailed line) = Rose old.faults new.faults × IsReadFailedLine given old.holds new.failed line
Replies given old new NoMemory = Unit {0}

-- the line of a refusal, where no read failed, or of a read that failed
abbrev pub IsReplyLine : Result Request ℕ → ShelfState → ShelfState → List ℕ → Type 0
IsReplyLine given old new line =
    (IsQuiet old new × IsRefusalLine given old.holds line)
    ⊎ (Rose old.faults new.faults × IsReadFailedLine given old.holds new.failed line)

-- a line that may be written in this call: such a line, or that of a write that failed, or of want of memory
abbrev pub IsLine : Result Request ℕ → ShelfState → ShelfState → SinkState → SinkState → List ℕ → Type 0
IsLine given old new out0 out1 line =
    IsReplyLine given old new line
    ⊎ ((Rose out0.faults out1.faults × (line ≡ write_failed_line)) ⊎ (line ≡ no_memory_line))

-- no write failed
pub record NoneFailed (out0 out1 err0 err1 : SinkState) : Type 0 where
  pub out : out1.faults ≡ out0.faults
  pub err : err1.faults ≡ err0.faults

-- Status 0, 1 or 2: no read and no write failed, the whole text was taken, and nothing else was written.
pub record Reported (given : Result Request ℕ) (shelf0 shelf1 : ShelfState)
    (out0 out1 err0 err1 : SinkState) (status : ℕ) : Type 0 where
  pub quiet : IsQuiet shelf0 shelf1
  pub written : NoneFailed out0 out1 err0 err1
  pub text : List ℕ
  pub is_text : IsAnswerText given shelf0.holds text status
  pub taken : Took out0.taken out1.taken text
  pub silent : Took err0.taken err1.taken []

-- Status 3: no read and no write failed, and the one line of the first refusal was taken.
pub record SaidRefusal (given : Result Request ℕ) (shelf0 shelf1 : ShelfState)
    (out0 out1 err0 err1 : SinkState) : Type 0 where
  pub quiet : IsQuiet shelf0 shelf1
  pub written : NoneFailed out0 out1 err0 err1
  pub line : List ℕ
  pub is_line : IsRefusalLine given shelf0.holds line
  pub nothing : Took out0.taken out1.taken []
  pub taken : Took err0.taken err1.taken line

-- Status 4: the shelf's count rose by a file that the words ask for, its line was taken, and no write failed.
pub record SaidReadFailed (given : Result Request ℕ) (shelf0 shelf1 : ShelfState)
    (out0 out1 err0 err1 : SinkState) : Type 0 where
  pub rose : Rose shelf0.faults shelf1.faults
  pub written : NoneFailed out0 out1 err0 err1
  pub line : List ℕ
  pub is_line : IsReadFailedLine given shelf0.holds shelf1.failed line
  pub nothing : Took out0.taken out1.taken []
  pub taken : Took err0.taken err1.taken line

-- Status 5, first case: the sink of the text failed, no refusal applies, and no read failed.
pub record TextFailed (given : Result Request ℕ) (shelf0 shelf1 : ShelfState)
    (out0 out1 err0 err1 : SinkState) : Type 0 where
  pub rose : Rose out0.faults out1.faults
  pub quiet : IsQuiet shelf0 shelf1
  pub text : List ℕ
  pub wanted : ℕ
  pub is_text : IsAnswerText given shelf0.holds text wanted
  pub part : TookPrefix out0.taken out1.taken text
  pub said : Took err0.taken err1.taken write_failed_line
      ⊎ (Rose err0.faults err1.faults × TookPrefix err0.taken err1.taken write_failed_line)

-- Status 5, second case: the sink of the lines failed, at the line of a refusal or of a read that failed.
pub record LineFailed (given : Result Request ℕ) (shelf0 shelf1 : ShelfState)
    (out0 out1 err0 err1 : SinkState) : Type 0 where
  pub rose : Rose err0.faults err1.faults
  pub line : List ℕ
  pub is_line : IsReplyLine given shelf0 shelf1 line
  pub nothing : Took out0.taken out1.taken []
  pub part : TookPrefix err0.taken err1.taken line

-- Status 5: one of the two
abbrev pub FailedToWrite : Result Request ℕ → ShelfState → ShelfState → SinkState → SinkState → SinkState → SinkState
    → Type 0
FailedToWrite given shelf0 shelf1 out0 out1 err0 err1 =
    TextFailed given shelf0 shelf1 out0 out1 err0 err1 ⊎ LineFailed given shelf0 shelf1 out0 out1 err0 err1

-- part of the text was taken, and no read failed
pub record TookText (given : Result Request ℕ) (shelf0 shelf1 : ShelfState)
    (out0 out1 : SinkState) : Type 0 where
  pub quiet : IsQuiet shelf0 shelf1
  pub text : List ℕ
  pub wanted : ℕ
  pub is_text : IsAnswerText given shelf0.holds text wanted
  pub part : TookPrefix out0.taken out1.taken text

-- Status 6: parts of a text and of a line were taken, perhaps nothing.
pub record RanOut (given : Result Request ℕ) (shelf0 shelf1 : ShelfState)
    (out0 out1 err0 err1 : SinkState) : Type 0 where
  pub text_part : Took out0.taken out1.taken [] ⊎ TookText given shelf0 shelf1 out0 out1
  pub line : List ℕ
  pub is_line : IsLine given shelf0 shelf1 out0 out1 line
  pub line_part : TookPrefix err0.taken err1.taken line

-- no count rose
pub record NoneRose (shelf0 shelf1 : ShelfState) (out0 out1 err0 err1 : SinkState) : Type 0 where
  pub shelf : Rose shelf0.faults shelf1.faults → ⊥
  pub out : Rose out0.faults out1.faults → ⊥
  pub err : Rose err0.faults err1.faults → ⊥

-- The statement holds over what the shelf holds, where it tells. A load reads no file: there it holds over any files,
-- whatever the shelf tells.
abbrev pub OverFiles : Request → Option Files → (Files → Type 0) → Type 0
OverFiles (words.Load number limit) holds P = (files : Files) → P files
OverFiles request holds P = IfSome holds P

-- Where no count rose, and the words and the files give work that is not refused, its text is written, or memory is
-- missing.
abbrev pub Completes : Result Request ℕ → ShelfState → ℕ → Type 0
Completes given shelf status = (request : Request) (work : Work) → given ≡ Ok request
    → OverFiles request shelf.holds (λ files. FilesGiveOver request files (Ok work) → CanCompleteWork work
    → MayEndWork work status ⊎ (status ≡ OUT_OF_MEMORY))

-- Where no count rose and a refusal applies, it is answered, or memory is missing.
abbrev pub Refuses : Result Request ℕ → ShelfState → ℕ → Type 0
Refuses given shelf status =
    ((word : ℕ) → given ≡ Err word → (status ≡ REFUSED) ⊎ (status ≡ OUT_OF_MEMORY))
    × ((request : Request) (refusal : CallRefusal) → given ≡ Ok request
    → OverFiles request shelf.holds (λ files. IsRequestRefusal request (FilesGiveOver request files) refusal
    → (status ≡ REFUSED) ⊎ (status ≡ OUT_OF_MEMORY)))

-- the words were had, and this holds of what they spell
abbrev pub OfWords : Result (List (List ℕ)) Memory → (Result Request ℕ → Type 0) → Type 0
OfWords (Ok words) P = P (form words)
OfWords (Err missing) P = ⊥

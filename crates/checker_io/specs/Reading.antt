-- What is read, file by file, and what comes of it. F are the files that may be asked for, R what is refused,
-- A the answer.
use Rattle.std.specs.Prelude.{◌≡◌, ◌⊎◌, ℕ, Bool, true, false, List, length, Option, Some, None, Result, Ok, Err}
use Rattle.std.specs.Prelude.{IfSome, nat_lt}
use Rattle.checker_io.specs.Faults.{Rose}
use Rattle.checker_io.specs.Shelf.{Files, ShelfState, IsQuiet}
use Rattle.checker_io.specs.declared.stop.Stop.{Stop}
use Rattle.checker_io.specs.declared.stop.Stop.TheVariants.{Refused, ReadFailed, NoMemory}

-- What a file comes to, by a relation: its content, None where there is no such file, with a value or a refusal.
abbrev pub Comes : Type 0 → Type 0 → Type 1
Comes V R = Option (List ℕ) → Result V R → Type 0

-- Reading is a tree: an answer or a refusal, or a file that is asked for, what it comes to, and what follows for each
-- value that it may come to. A refusal that it comes to is the answer.
pub data Asking (F R A : Type 0) : Type 1 where
  done : Result A R → Asking F R A
  ask : {V : Type 0} → F → (Option (List ℕ) → Result V R → Type 0) → (V → Asking F R A) → Asking F R A

-- one reading after another, unless the first one is refused
abbrev pub and_then : {F R A B : Type 0} → Asking F R A → (A → Asking F R B) → Asking F R B
and_then (done (Ok value)) more = more value
and_then (done (Err refusal)) more = done (Err refusal)
and_then (ask file comes next) more = ask file comes (λ value. and_then (next value) more)

-- where a content has more than max bytes, it is refused; else it comes to what it is said to come to
abbrev pub if_longer : {V R : Type 0} → Bool → R → (Result V R → Type 0) → Result V R → Type 0
if_longer true too_long comes result = result ≡ Err too_long
if_longer false too_long comes result = comes result

-- a content of at most max bytes comes to what it is said to come to, a longer one is refused
abbrev pub Within : {V R : Type 0} → ℕ → R → Comes V R → Comes V R
Within max too_long comes None result = comes None result
Within max too_long comes (Some bytes) result =
    if_longer (nat_lt max (length bytes)) too_long (comes (Some bytes)) result

-- one file, of at most max bytes, and what it comes to
abbrev pub file_of : {F R V : Type 0} → F → ℕ → R → Comes V R → Asking F R V
file_of file max too_long comes = ask file (Within max too_long comes) (λ value. done (Ok value))

-- what one file holds, if it is there, of at most max bytes
abbrev pub content : {F R : Type 0} → F → ℕ → R → Asking F R (Option (List ℕ))
content file max too_long = file_of file max too_long (λ found result. result ≡ Ok found)

-- a file comes to a value of which this holds, or to a refusal, which is the answer
abbrev pub Leads : {R V A : Type 0} → (Result V R → Type 0) → (V → Type 0) → Result A R → Type 0
Leads {R} {V} comes P result =
    ((value : V) × comes (Ok value) × P value) ⊎ ((refusal : R) × comes (Err refusal) × (result ≡ Err refusal))

module _ {F R A : Type 0} where
  -- an answer over files with these contents
  abbrev pub IsAnswer : (F → Option (List ℕ)) → Asking F R A → Result A R → Type 0
  IsAnswer contents (done given) result = given ≡ result
  IsAnswer contents (ask file comes next) result =
      Leads (comes (contents file)) (λ value. IsAnswer contents (next value) result) result

  -- a file that is asked for over these contents
  abbrev pub IsAsked : F → (F → Option (List ℕ)) → Asking F R A → Type 0
  IsAsked wanted contents (done given) = ⊥
  IsAsked wanted contents (ask {V} file comes next) =
      (wanted ≡ file)
      ⊎ ((value : V) × comes (contents file) (Ok value) × IsAsked wanted contents (next value))

  -- an answer that is given over some contents
  abbrev pub MayAnswer : Result A R → Asking F R A → Type 0
  MayAnswer result (done given) = given ≡ result
  MayAnswer result (ask file comes next) =
      (found : Option (List ℕ)) × Leads (comes found) (λ value. MayAnswer result (next value)) result

  -- a file that is asked for over some contents
  abbrev pub MayAsk : F → Asking F R A → Type 0
  MayAsk wanted (done given) = ⊥
  MayAsk wanted (ask {V} file comes next) =
      (wanted ≡ file)
      ⊎ ((found : Option (List ℕ)) × (value : V) × comes found (Ok value) × MayAsk wanted (next value))

  -- what the code answers where there is no file to read: a value or a refusal of which this holds, or want of memory
  abbrev pub Gives : (Result A R → Type 0) → Result A (Stop F R) → Type 0
  Gives P (Ok value) = P (Ok value)
  Gives P (Err (Refused refusal)) = P (Err refusal)
  Gives P (Err (ReadFailed file)) = ⊥
  Gives P (Err NoMemory) = Unit {0}

  -- where the shelf tells, a reading has this answer; elsewhere it may have it
  pub record Answers (name : F → List ℕ) (holds : Option Files) (plan : Asking F R A) (result : Result A R)
      : Type 0 where
    pub may : MayAnswer result plan
    pub told : IfSome holds (λ files. IsAnswer (λ file. files (name file)) plan result)

  -- where the shelf tells, a reading asks for this file; elsewhere it may ask for it
  pub record Asks (name : F → List ℕ) (holds : Option Files) (plan : Asking F R A) (file : F) : Type 0 where
    pub may : MayAsk file plan
    pub told : IfSome holds (λ files. IsAsked file (λ other. files (name other)) plan)

  -- How a reading ends on a shelf. With an answer or a refusal no count has changed. A failed read has raised the
  -- count, by a file that the reading asks for, whose name the shelf has left. Want of memory has no stated cause.
  abbrev pub ReadEnds : (F → List ℕ) → ShelfState → ShelfState → Asking F R A → Result A (Stop F R) → Type 0
  ReadEnds name old new plan (Ok value) = IsQuiet old new × Answers name old.holds plan (Ok value)
  ReadEnds name old new plan (Err (Refused refusal)) = IsQuiet old new × Answers name old.holds plan (Err refusal)
  ReadEnds name old new plan (Err (ReadFailed file)) =
      Rose old.faults new.faults × (new.failed ≡ name file) × Asks name old.holds plan file
  ReadEnds name old new plan (Err NoMemory) = IsQuiet old new

  -- a reading that was carried out on a shelf, whose files are named so; the shelf holds what it held
  pub record Reads (name : F → List ℕ) (old new : ShelfState) (plan : Asking F R A)
      (result : Result A (Stop F R)) : Type 0 where
    pub kept : new.holds ≡ old.holds
    pub ends : ReadEnds name old new plan result

  -- each file that is asked for comes to one value or refusal, whatever it holds
  abbrev pub IsSingle : Asking F R A → Type 0
  IsSingle (done given) = Unit {0}
  IsSingle (ask {V} file comes next) =
      ((found : Option (List ℕ)) (one other : Result V R) → comes found one → comes found other → one ≡ other)
      × ((value : V) → IsSingle (next value))

module _ {F R A B : Type 0} where
  -- where one reading ends without an answer, so does this one that goes on from it
  abbrev pub StopsBoth : Asking F R A → (A → Asking F R B) → Type 0
  StopsBoth plan next =
      (name : F → List ℕ) (old new : ShelfState) (stop : Stop F R)
      → Reads name old new plan (Err stop) → Reads name old new (and_then plan next) (Err stop)

  -- where one reading has an answer, and the one that goes on from that answer ends so on the same shelf, both end so
  abbrev pub GoesOn : Asking F R A → (A → Asking F R B) → Type 0
  GoesOn plan next =
      (name : F → List ℕ) (old middle new : ShelfState) (value : A) (result : Result B (Stop F R))
      → Reads name old middle plan (Ok value) → Reads name middle new (next value) result
      → Reads name old new (and_then plan next) result

-- a reading each of whose files comes to one value or refusal has one answer over the same contents
abbrev pub AnswersOnce : {F R A : Type 0} → Asking F R A → Type 0
AnswersOnce {F} {R} {A} plan =
    (contents : F → Option (List ℕ)) (one other : Result A R) → IsSingle plan
    → IsAnswer contents plan one → IsAnswer contents plan other → one ≡ other

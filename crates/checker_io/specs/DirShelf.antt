-- A shelf over the file system: its count, and what a read takes of a file.
use Rattle.std.specs.Prelude.{◌≡◌, ◌≢◌, ◌≤◌, ◌⊎◌, ◌+◌, ℕ, List, [], length, Option, Some, None, Result, Ok, Err}
use Rattle.std.specs.Io.KnownBytes.{Consumes, IsAtEnd}
use Rattle.std.specs.IoError.{error_kind}
use Rattle.std.specs.declared.io.Error.{Error}
use Rattle.std.specs.declared.io.ErrorKind.{ErrorKind}
use Rattle.std.specs.declared.io.ErrorKind.TheVariants.{NotFound, NotADirectory}
use Rattle.checker_io.specs.declared.shelf.ShelfFault.{ShelfFault}
use Rattle.checker_io.specs.declared.shelf.ShelfFault.TheVariants.{Missing, TooLong, Failed, Memory}
use Rattle.checker_io.specs.Faults.{one_more}
use Rattle.checker_io.specs.Shelf.{ShelfState}

-- what a shelf over the file system is seen as: how many reads failed, and the name of the last one that did,
-- empty before one did
pub record DirFaults : Type 0 where
  pub faults : ℕ
  pub failed : List ℕ

-- what any shelf is seen as, of a shelf over the file system: it tells no files, since no contract can say what a
-- disk holds. So clauses over it say that some contents give the answer
abbrev pub dir_state : DirFaults → ShelfState
dir_state shelf = record { holds = None; faults = shelf.faults; failed = shelf.failed }

-- the name of the last read that failed, empty before one did
abbrev pub name_or_empty : Option (List ℕ) → List ℕ
name_or_empty None = []
name_or_empty (Some name) = name

-- a failed read raises the count by one and leaves its name; no other answer changes either
abbrev pub DirCounts : DirFaults → DirFaults → List ℕ → Result (List ℕ) ShelfFault → Type 0
DirCounts old new name (Ok bytes) = new ≡ old
DirCounts old new name (Err Missing) = new ≡ old
DirCounts old new name (Err TooLong) = new ≡ old
DirCounts old new name (Err Failed) = new ≡ record { faults = one_more old.faults; failed = name }
DirCounts old new name (Err Memory) = new ≡ old

-- at most so many bytes were taken from a reader, if it tells what it has left
abbrev pub TakesAtMost : Option (List ℕ) → Option (List ℕ) → ℕ → Type 0
TakesAtMost old new most = (bytes : List ℕ) × Consumes old new bytes × (length bytes ≤ most)

-- What reading the rest of an open file takes from it. On Ok all of it, of at most max bytes; where it is too long
-- just one byte more than max; after a failure or for want of memory at most that.
abbrev pub RestTakes : Option (List ℕ) → Option (List ℕ) → ℕ → Result (List ℕ) ShelfFault → Type 0
RestTakes old new max (Ok bytes) = Consumes old new bytes × IsAtEnd new × (length bytes ≤ max)
RestTakes old new max (Err Missing) = ⊥
RestTakes old new max (Err TooLong) = (bytes : List ℕ) × Consumes old new bytes × (length bytes ≡ max + 1)
RestTakes old new max (Err Failed) = TakesAtMost old new (max + 1)
RestTakes old new max (Err Memory) = TakesAtMost old new (max + 1)

-- Why a file was not read that could not be opened: it is missing exactly where the system finds none of that name,
-- or finds something else than a directory where the name goes on below it.
abbrev pub NotOpened : ErrorKind → Result (List ℕ) ShelfFault → Type 0
NotOpened kind (Ok bytes) = ⊥
NotOpened kind (Err Missing) = (kind ≡ NotFound) ⊎ (kind ≡ NotADirectory)
NotOpened kind (Err TooLong) = ⊥
NotOpened kind (Err Failed) = (kind ≢ NotFound) × (kind ≢ NotADirectory)
NotOpened kind (Err Memory) = ⊥

-- What reading a file answers that was opened so, and what it takes from it.
abbrev pub OpenedGives : {F : Type 0} → (F → Option (List ℕ)) → Result F Error → Result F Error → ℕ
    → Result (List ℕ) ShelfFault → Type 0
OpenedGives remaining (Ok old) (Ok new) max result = RestTakes (remaining old) (remaining new) max result
OpenedGives remaining (Ok old) (Err fault) max result = ⊥
OpenedGives remaining (Err fault) new max result = NotOpened (error_kind fault) result

-- a file was opened so and left so, and its reading gave this
abbrev pub FileGives : {F : Type 0} → (F → Option (List ℕ)) → ℕ → Result (List ℕ) ShelfFault → Type 0
FileGives {F} remaining max result =
    (old : Result F Error) × (new : Result F Error) × OpenedGives remaining old new max result

-- this holds of an answer, or memory is missing
abbrev pub OrNoMemory : (Result (List ℕ) ShelfFault → Type 0) → Result (List ℕ) ShelfFault → Type 0
OrNoMemory P (Ok bytes) = P (Ok bytes)
OrNoMemory P (Err Missing) = P (Err Missing)
OrNoMemory P (Err TooLong) = P (Err TooLong)
OrNoMemory P (Err Failed) = P (Err Failed)
OrNoMemory P (Err Memory) = Unit {0}

-- What a read of a shelf answers, and what it says of the shelf's count.
use Rattle.std.specs.Prelude.{◌≡◌, ◌<◌, ◌≤◌, ℕ, List, length, Option, Some, None, Result, Ok, Err}
use Rattle.checker_io.specs.declared.shelf.ShelfFault.{ShelfFault}
use Rattle.checker_io.specs.declared.shelf.ShelfFault.TheVariants.{Missing, TooLong, Failed, Memory}
use Rattle.checker_io.specs.Faults.{Rose}

-- the files of a shelf: what stands under each name, if anything
abbrev pub Files : Type 0
Files = List ℕ → Option (List ℕ)

-- what a shelf is seen as: its files, where it tells them, its count of faults, and the name of the last read
-- that failed, empty before one did
pub record ShelfState : Type 0 where
  pub holds : Option Files
  pub faults : ℕ
  pub failed : List ℕ

-- what a read of at most max bytes answers of the file that stands under its name, if one does:
-- the whole file; that it is missing; that it is longer; a failure or want of memory say nothing of it
abbrev pub ReadGives : Option (List ℕ) → ℕ → Result (List ℕ) ShelfFault → Type 0
ReadGives file max (Ok bytes) = (file ≡ Some bytes) × (length bytes ≤ max)
ReadGives file max (Err Missing) = file ≡ None
ReadGives file max (Err TooLong) = (bytes : List ℕ) × (file ≡ Some bytes) × (max < length bytes)
ReadGives file max (Err Failed) = Unit {0}
ReadGives file max (Err Memory) = Unit {0}

-- neither the count of faults nor the name that failed has changed
pub record IsQuiet (old new : ShelfState) : Type 0 where
  pub count : new.faults ≡ old.faults
  pub name : new.failed ≡ old.failed

-- a failed read has raised the count and left its name; no other answer changes either
abbrev pub ReadCause : ShelfState → ShelfState → List ℕ → Result (List ℕ) ShelfFault → Type 0
ReadCause old new name (Ok bytes) = IsQuiet old new
ReadCause old new name (Err Missing) = IsQuiet old new
ReadCause old new name (Err TooLong) = IsQuiet old new
ReadCause old new name (Err Failed) = Rose old.faults new.faults × (new.failed ≡ name)
ReadCause old new name (Err Memory) = IsQuiet old new

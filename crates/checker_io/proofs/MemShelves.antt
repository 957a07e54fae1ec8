-- What a read of a shelf in memory that isn't to fail answers.
use Rattle.std.proofs.Common.{◌≡◌, ◌≢◌, ℕ, false, List, Result, Ok, Err, refl}
use Rattle.checker_io.specs.declared.shelf.ShelfFault.{ShelfFault}
use Rattle.checker_io.specs.declared.shelf.ShelfFault.TheVariants.{Missing, TooLong, Failed, Memory}
use Rattle.checker_io.specs.MemShelf.{MemFiles, MemReads, file_at, is_to_fail, after_read}
use Rattle.checker_io.specs.Shelf.{ReadGives}

pub answers_by_file : (old new : MemFiles) (name : List ℕ) (max : ℕ) (result : Result (List ℕ) ShelfFault) → is_to_fail old ≡ false → new ≡ after_read old
    → ReadGives (file_at old.files name) max result → result ≢ Err Failed → MemReads old new name max result
answers_by_file old new name max (Ok bytes) goes is gives never = (goes, gives.0, gives.1, is)
answers_by_file old new name max (Err Missing) goes is gives never = (goes, gives, is)
answers_by_file old new name max (Err TooLong) goes is gives never = (goes, gives, is)
answers_by_file old new name max (Err Failed) goes is gives never = absurd (never refl)
answers_by_file old new name max (Err Memory) goes is gives never = is

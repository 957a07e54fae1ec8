-- A shelf in memory: its files, and the reads that are to fail.
use Rattle.std.specs.Prelude.{◌≡◌, ◌<◌, ◌≤◌, ◌==◌, ℕ, Bool, true, false, List, length, Option, Some, None, Result, Ok}
use Rattle.std.specs.Prelude.{Err}
use Rattle.std.specs.Str.{bytes_eq}
use Rattle.std.specs.List.{list_any, find}
use Rattle.std.specs.Option.{option_map}
use Rattle.checker_io.specs.declared.mem_shelf.File.{File}
use Rattle.checker_io.specs.declared.shelf.ShelfFault.{ShelfFault}
use Rattle.checker_io.specs.declared.shelf.ShelfFault.TheVariants.{Missing, TooLong, Failed, Memory}
use Rattle.checker_io.specs.Faults.{one_more}
use Rattle.checker_io.specs.Shelf.{ShelfState}

-- what a shelf in memory is seen as: its files, the numbers of the reads that are to fail, how many reads there
-- were, how many failed, and the name of the last one that did, empty before one did
pub record MemFiles : Type 0 where
  pub files : List File
  pub failing : List ℕ
  pub reads : ℕ
  pub faults : ℕ
  pub failed : List ℕ

-- what stands under a name: the first file of that name counts
abbrev pub file_at : List File → List ℕ → Option (List ℕ)
file_at files name = option_map (λ file. file.bytes) (find (λ file. bytes_eq file.name name) files)

-- what any shelf is seen as, of a shelf in memory: it tells its files
abbrev pub shelf_state : MemFiles → ShelfState
shelf_state shelf = record { holds = Some (file_at shelf.files); faults = shelf.faults; failed = shelf.failed }

-- the number of the next read, counted from 1
abbrev pub next_read : MemFiles → ℕ
next_read shelf = one_more shelf.reads

-- the next read is to fail
abbrev pub is_to_fail : MemFiles → Bool
is_to_fail shelf = list_any (λ number. number == next_read shelf) shelf.failing

-- a shelf after one more read that didn't fail
abbrev pub after_read : MemFiles → MemFiles
after_read shelf = record shelf { reads = next_read shelf }

-- a shelf after one more read that failed, of that name
abbrev pub after_failed : MemFiles → List ℕ → MemFiles
after_failed shelf name =
    record shelf { reads = next_read shelf; faults = one_more shelf.faults; failed = name }

-- What the next read answers and leaves. It fails exactly where its number is to fail; else it answers by what stands
-- under the name. Want of memory may come in place of either.
abbrev pub MemReads : MemFiles → MemFiles → List ℕ → ℕ → Result (List ℕ) ShelfFault → Type 0
MemReads old new name max (Ok bytes) =
    (is_to_fail old ≡ false) × (file_at old.files name ≡ Some bytes) × (length bytes ≤ max) × (new ≡ after_read old)
MemReads old new name max (Err Missing) =
    (is_to_fail old ≡ false) × (file_at old.files name ≡ None) × (new ≡ after_read old)
MemReads old new name max (Err TooLong) =
    (is_to_fail old ≡ false) × ((bytes : List ℕ) × (file_at old.files name ≡ Some bytes) × (max < length bytes))
    × (new ≡ after_read old)
MemReads old new name max (Err Failed) = (is_to_fail old ≡ true) × (new ≡ after_failed old name)
MemReads old new name max (Err Memory) = new ≡ after_read old

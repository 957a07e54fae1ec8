-- What the sets beside the entries of a list have, and what the reading of lines answers.
use Rattle.std.specs.Prelude.{◌≡◌, ℕ, List, Result, Ok, Err}
use Rattle.package_lists.specs.declared.fault.LineFault.{LineFault}
use Rattle.package_lists.specs.declared.fault.LineFault.TheVariants.{Line, Memory}
use Rattle.package_lists.specs.declared.list.Index.{Index}
use Rattle.package_lists.specs.Entries.{EntryParts, is_any, is_link, has_at, has_below}
use Rattle.package_lists.specs.PathSets.{has}

-- the sets have the paths of the entries, those of links, and the folders on the way to each
pub record IsIndex (index : Index) : Type 0 where
  pub named : (path : List ℕ) → has index.named path ≡ has_at is_any index.entries path
  pub links : (path : List ℕ) → has index.links path ≡ has_at is_link index.entries path
  pub above : (path : List ℕ) → has index.above path ≡ has_below index.entries path

-- the entries that were wanted, with their sets, but for want of memory
abbrev pub Continues : Result (List EntryParts) LineFault → Result Index LineFault → Type 0
Continues wanted (Ok index) = (wanted ≡ Ok index.entries) × IsIndex index
Continues wanted (Err (Line n why)) = wanted ≡ Err (Line n why)
Continues wanted (Err Memory) = Unit {0}

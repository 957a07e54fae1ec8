-- What the reading of the lines of configuration files answers: the set of their paths.
use Rattle.std.specs.Prelude.{◌≡◌, ℕ, List, [], Result, Ok, Err}
use Rattle.package_lists.specs.declared.fault.LineFault.{LineFault}
use Rattle.package_lists.specs.declared.fault.LineFault.TheVariants.{Line, Memory}
use Rattle.package_lists.specs.declared.path_set.PathSet.{PathSet}
use Rattle.package_lists.specs.Conffiles.{with_confs}
use Rattle.package_lists.specs.Paths.{Paths, is_among}
use Rattle.package_lists.specs.PathSets.{has}

-- the set of the paths that the lines are, where none is at fault; but for want of memory
abbrev pub IsNamed : Paths → List (List ℕ) → Result PathSet LineFault → Type 0
IsNamed files lines (Ok named) =
    (with_confs 1 files [] lines ≡ Ok lines) × ((path : List ℕ) → has named path ≡ is_among lines path)
IsNamed files lines (Err (Line n why)) = with_confs 1 files [] lines ≡ Err (Line n why)
IsNamed files lines (Err Memory) = Unit {0}

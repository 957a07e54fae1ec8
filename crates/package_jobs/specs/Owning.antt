-- What is gone by for the folders that hold no foreign entry.
use Rattle.std.specs.Prelude.{◌≡◌, ℕ, List}
use Rattle.system_base.specs.declared.base.Base.{Base}
use Rattle.system_base.specs.Bases.{is_base}
use Rattle.package_lists.specs.Entries.{is_any, has_at}
use Rattle.package_lists.specs.Below.{names_below}
use Rattle.package_lists.specs.FolderNames.{names_at}
use Rattle.package_lists.specs.PathSets.{has}
use Rattle.package_jobs.specs.declared.own_needs.Owning.{Owning}
use Rattle.package_jobs.specs.StartTrees.{Entries, own_paths, entry_places}

-- for these entries of the package that `own` speaks of: the paths that its lines name, those that the new package
-- lists, the directories of the base, and the names that the entries have below each path
pub record GoesBy (base : Base) (new entries : Entries) (owning : Owning) : Type 0 where
  pub paths : (path : List ℕ) → has owning.paths path ≡ own_paths base path
  pub listed : (path : List ℕ) → has owning.listed path ≡ has_at is_any new path
  pub based : (path : List ℕ) → has owning.based path ≡ is_base base path
  pub names : (path : List ℕ) → names_at owning.names path ≡ names_below (entry_places base.links entries) path

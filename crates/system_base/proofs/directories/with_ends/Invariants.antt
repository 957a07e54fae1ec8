use Rattle.std.proofs.Common.{◌≡◌, ◌||◌, ℕ, List, take}
use Rattle.std.specs.List.{list_any}
use Rattle.system_base.specs.Bases.{is_end_at}
use Rattle.package_lists.specs.PathSets.{has}
use Rattle.system_base.proofs.directories.with_ends.Given as goal

abbrev pub invariant-loop-link : goal.invariant-loop-link
invariant-loop-link l =
    (path : List ℕ) → has l.set path ≡ (has l.fn.paths path || list_any (is_end_at l.links path) (take l.link-index l.links))

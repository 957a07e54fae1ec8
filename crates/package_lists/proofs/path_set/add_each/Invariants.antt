use Rattle.std.proofs.Common.{◌≡◌, ℕ, List, take}
use Rattle.std.specs.Prelude.{◌||◌}
use Rattle.std.specs.List.{list_any}
use Rattle.std.specs.Str.{bytes_eq}
use Rattle.package_lists.specs.PathSets.{has}
use Rattle.package_lists.proofs.path_set.add_each.Given as goal

abbrev pub invariant-loop-path : goal.invariant-loop-path
invariant-loop-path l =
    (other : List ℕ) → has l.set other ≡ (list_any (λ path. bytes_eq path other) (take l.path-index l.paths) || has l.initial.set other)

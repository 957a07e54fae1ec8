-- What a set of paths has.
use Rattle.std.specs.Prelude.{ℕ, Bool, List}
use Rattle.std.specs.BTreeSet.{contains_by}
use Rattle.std.specs.Ordering.{nat_cmp}
use Rattle.std.specs.Cmp.Lexicographic.{slice_cmp}
use Rattle.package_lists.specs.declared.path_set.PathSet.{PathSet}

-- whether the set has the path that is written so
abbrev pub has : PathSet → List ℕ → Bool
has set path = contains_by (λ key. slice_cmp nat_cmp path key.items) set.paths

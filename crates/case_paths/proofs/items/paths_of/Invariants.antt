use Rattle.std.proofs.Common.{◌≡◌, ◌++◌, length}
use Rattle.case_paths.specs.Items.{path_items, ended_count}
use Rattle.case_paths.proofs.items.paths_of.Given as goal

abbrev pub invariant-items : goal.invariant-items
invariant-items g l = record {
  ended : ended_count l.items ≡ length l.items;
  same : path_items l.paths ++ l.items ≡ l.fn.items;
}

abbrev pub decreases-items : goal.decreases-items
decreases-items g l = length l.items

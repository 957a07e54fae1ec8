use Rattle.std.proofs.Common.{◌≡◌, ◌++◌}
use Rattle.feature_trees.specs.Drafts.{seen_drafts}
use Rattle.feature_trees.specs.View.{seen, AllThere}
use Rattle.feature_trees.proofs.draft.+making.Given as goal

abbrev pub invariant-make_items-loop-bytes : goal.invariant-make_items-loop-bytes
invariant-make_items-loop-bytes l = record {
  there : AllThere l.items.items;
  done : seen l.items.items ++ seen_drafts l.bytes-iterator ≡ seen_drafts l.drafts.entries;
}

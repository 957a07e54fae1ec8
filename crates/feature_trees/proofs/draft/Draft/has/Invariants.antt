use Rattle.std.proofs.Common.{◌≡◌, drop}
use Rattle.feature_trees.specs.Drafts.{draft_value}
use Rattle.feature_trees.specs.Tree.{at}
use Rattle.feature_trees.proofs.draft.Draft.has.Given as goal

abbrev pub invariant-loop-f : goal.invariant-loop-f
invariant-loop-f l = at (draft_value l.here) (drop l.f-index l.names) ≡ at (draft_value l.self) l.names

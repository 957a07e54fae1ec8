use Rattle.std.proofs.Common.{◌≡◌, ◌+◌, [], map, drop}
use Rattle.feature_trees.specs.declared.kind.Kind.TheVariants as kind
use Rattle.feature_trees.specs.declared.value.Value.TheVariants.{Dir}
use Rattle.feature_trees.specs.Drafts.{draft_value}
use Rattle.feature_trees.specs.Tree.{kind_of}
use Rattle.feature_trees.specs.TreeLines.{with_lines}
use Rattle.feature_trees.proofs.read.read_lines.Given as goal

abbrev pub invariant-loop-line : goal.invariant-loop-line
invariant-loop-line l = record {
  rest : with_lines (l.number + 1) (draft_value l.tree) (map (λ line. line.now) (drop l.line-index l.lines)) ≡ with_lines 1 (Dir []) (map (λ line. line.now) l.lines);
  dir : kind_of (draft_value l.tree) ≡ kind.Dir;
  counted : l.number ≡ l.line-index;
}

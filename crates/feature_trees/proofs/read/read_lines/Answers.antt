use Rattle.std.proofs.Common.{◌+◌, ap}
use Rattle.feature_trees.specs.Drafts.{draft_value}
use Rattle.feature_trees.proofs.ReadLines.{one_more, dir_more}
use Rattle.feature_trees.proofs.read.read_lines.Goals as goal

pub loop-line-preserved : goal.loop-line-preserved
loop-line-preserved c = record {
  rest = one_more (c.loop-line.number + 1) (draft_value c.loop-line.tree) c.args.lines.now c.loop-line.line-index _ c.loop-line-test.true (draft_value c.add_line.new.tree) _ c.in-Ok.ensures c.loop-line.invariant.rest;
  dir = dir_more (c.loop-line.number + 1) (draft_value c.loop-line.tree) c.args.lines.now c.loop-line.line-index _ c.loop-line-test.true (draft_value c.add_line.new.tree) c.in-Ok.ensures c.loop-line.invariant.dir;
  counted = ap (λ n. n + 1) c.loop-line.invariant.counted;
}

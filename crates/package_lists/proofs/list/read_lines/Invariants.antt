use Rattle.std.proofs.Common.{◌≡◌, ◌+◌, [], map, drop}
use Rattle.package_lists.specs.Indexes.{IsIndex}
use Rattle.package_lists.specs.Lists.{with_lines}
use Rattle.package_lists.proofs.list.read_lines.Given as goal

abbrev pub invariant-loop-line : goal.invariant-loop-line
invariant-loop-line l = record {
  rest : with_lines (l.number + 1) l.index.entries (map (λ line. line.now) (drop l.line-index l.lines)) ≡ with_lines 1 [] (map (λ line. line.now) l.lines);
  index : IsIndex l.index;
  counted : l.number ≡ l.line-index;
}

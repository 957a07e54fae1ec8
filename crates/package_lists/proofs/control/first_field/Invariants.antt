use Rattle.std.proofs.Common.{◌≡◌, ◌+◌, map, drop}
use Rattle.package_lists.specs.Control.{first_field}
use Rattle.package_lists.proofs.control.first_field.Given as goal

abbrev pub invariant-loop-line : goal.invariant-loop-line
invariant-loop-line l = record {
  rest : first_field l.field (l.number + 1) (map (λ line. line.now) (drop l.line-index l.lines)) ≡ first_field l.field 1 (map (λ line. line.now) l.lines);
  counted : l.number ≡ l.line-index;
}

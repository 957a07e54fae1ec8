use Rattle.std.proofs.Common.{◌≡◌, ◌+◌, map, drop}
use Rattle.system_base.specs.Bases.{nothing_known, with_lines}
use Rattle.system_base.specs.Read.{AreNames}
use Rattle.system_base.proofs.reading.read_base.Given as goal

abbrev pub invariant-loop-text : goal.invariant-loop-text
invariant-loop-text l = record {
  reads : with_lines (l.number + 1) l.base (map (λ line. line.now) (drop l.text-index l.text-items))
      ≡ with_lines 1 nothing_known (map (λ line. line.now) l.text-items);
  names : AreNames l.names l.base.calls;
  counted : l.number ≡ l.text-index;
}

use Rattle.std.proofs.Common.{◌≡◌, ◌+◌, ◌-◌, ◌++◌, length}
use Rattle.act_cases.specs.Cases.{link_cases}
use Rattle.act_cases.proofs.making.add_links.Given as goal

abbrev pub invariant-loop-k : goal.invariant-loop-k
invariant-loop-k l = l.cases ++ link_cases l.names (l.k + 1) (length l.names - 1 - l.k) ≡ l.fn.cases ++ link_cases l.names 1 (length l.names - 1)

use Rattle.std.proofs.Common.{◌≡◌, ◌+◌, ◌-◌, ◌++◌, length}
use Rattle.act_cases.specs.BackCases.{link_backs}
use Rattle.act_cases.proofs.backs.add_link_backs.Given as goal

abbrev pub invariant-loop-k : goal.invariant-loop-k
invariant-loop-k l = l.cases ++ link_backs l.names (l.k + 1) (length l.names - 1 - l.k) ≡ l.fn.cases ++ link_backs l.names 1 (length l.names - 1)

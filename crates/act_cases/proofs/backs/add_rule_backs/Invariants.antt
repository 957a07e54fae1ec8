use Rattle.std.proofs.Common.{◌≡◌, ◌++◌, map, take}
use Rattle.act_cases.specs.BackCases.{rule_back}
use Rattle.act_cases.proofs.backs.add_rule_backs.Given as goal

abbrev pub invariant-loop-rule : goal.invariant-loop-rule
invariant-loop-rule l = l.cases ≡ l.fn.cases ++ map (rule_back l.names) (take l.rule-index l.rules)

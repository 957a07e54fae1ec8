use Rattle.std.proofs.Common.{◌≡◌, ◌++◌, map, take}
use Rattle.act_cases.specs.Moves.{move_rule_case}
use Rattle.act_cases.proofs.making.add_move_rows.Given as goal

abbrev pub invariant-loop-rule : goal.invariant-loop-rule
invariant-loop-rule l = l.cases ≡ l.fn.cases ++ map (move_rule_case l.act) (take l.rule-index l.rules)

use Rattle.std.proofs.Common.{◌≡◌, drop}
use Rattle.utility_calls.specs.Table.{first_row}
use Rattle.utility_calls.proofs.table.first_row.Given as goal

abbrev pub invariant-loop-rule : goal.invariant-loop-rule
invariant-loop-rule l = first_row (drop l.rule-index l.rules) l.source l.seen ≡ first_row l.rules l.source l.seen

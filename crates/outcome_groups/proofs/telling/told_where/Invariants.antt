use Rattle.std.proofs.Common.{◌≡◌, ◌++◌, drop}
use Rattle.outcome_groups.specs.Groups.{decides, told_where}
use Rattle.outcome_groups.proofs.telling.told_where.Given as goal

abbrev pub invariant-loop-k : goal.invariant-loop-k
invariant-loop-k l =
    l.facts ++ told_where l.wanted (decides l.rows l.pairs l.end) l.k l.left (drop l.k l.columns)
    ≡ told_where l.wanted (decides l.rows l.pairs l.end) 0 l.row l.columns

use Rattle.shell_printing.proofs.Longest.{cut_long}
use Rattle.shell_printing.proofs.theorems.cut_runs_are_longest.Goals as goal

pub returns : goal.returns
returns c = cut_long c.runs_are_longest.ensures.plain c.parts_are_spelled.ensures.outside c.parts_are_spelled.ensures.inside

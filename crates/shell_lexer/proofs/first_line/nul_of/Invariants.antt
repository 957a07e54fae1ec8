use Rattle.std.proofs.Common.{◌≡◌, drop}
use Rattle.shell_lexer.specs.FirstLine as table
use Rattle.shell_lexer.proofs.first_line.nul_of.Given as goal

abbrev pub invariant-loop-i : goal.invariant-loop-i
invariant-loop-i l = table.nul_from l.i (drop l.i l.text) ≡ table.nul_of l.text

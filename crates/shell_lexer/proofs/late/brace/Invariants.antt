use Rattle.std.proofs.Common.{◌≡◌, drop}
use Rattle.shell_lexer.specs.Late as table
use Rattle.shell_lexer.proofs.late.brace.Given as goal

abbrev pub invariant-loop-i : goal.invariant-loop-i
invariant-loop-i l = table.brace (drop l.i l.notes) ≡ table.brace l.notes

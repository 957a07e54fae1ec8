use Rattle.std.proofs.Common.{◌≡◌, drop}
use Rattle.shell_lexer.specs.FirstLine as table
use Rattle.shell_lexer.proofs.first_line.after_blanks.Given as goal

abbrev pub invariant-loop-i : goal.invariant-loop-i
invariant-loop-i l = table.after_blanks (drop l.i l.line) ≡ table.after_blanks l.line

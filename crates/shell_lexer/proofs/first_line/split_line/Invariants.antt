use Rattle.std.proofs.Common.{◌≡◌, ◌++◌, take, drop}
use Rattle.shell_lexer.specs.FirstLine as table
use Rattle.shell_lexer.proofs.first_line.split_line.Given as goal

abbrev pub invariant-loop-i : goal.invariant-loop-i
invariant-loop-i l = record { line : table.first_line l.text ≡ take l.i l.text ++ table.first_line (drop l.i l.text); behind : table.behind_line (drop l.i l.text) ≡ table.behind_line l.text }

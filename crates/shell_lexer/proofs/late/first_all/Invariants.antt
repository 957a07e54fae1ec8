use Rattle.std.proofs.Common.{◌≡◌, drop}
use Rattle.shell_lexer.specs.Late as table
use Rattle.shell_lexer.proofs.late.first_all.Given as goal

abbrev pub invariant-loop-note : goal.invariant-loop-note
invariant-loop-note l = table.first_all (drop l.note-index l.notes) ≡ table.first_all l.notes

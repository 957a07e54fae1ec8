use Rattle.std.proofs.Common.{◌≡◌, drop, true}
use Rattle.shell_lexer.specs.Late as table
use Rattle.shell_lexer.proofs.late.tilde.Given as goal

abbrev pub invariant-loop-note : goal.invariant-loop-note
invariant-loop-note l = table.tilde l.may (drop l.note-index l.notes) ≡ table.tilde true l.notes

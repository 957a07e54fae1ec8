use Rattle.std.proofs.Common.{◌≡◌, drop, false}
use Rattle.shell_lexer.specs.Late as table
use Rattle.shell_lexer.proofs.late.has_list.Given as goal

abbrev pub invariant-loop-note : goal.invariant-loop-note
invariant-loop-note l = table.has_list l.dot (drop l.note-index l.notes) ≡ table.has_list false l.notes

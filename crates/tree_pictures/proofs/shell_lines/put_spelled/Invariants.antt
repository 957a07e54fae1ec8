use Rattle.std.proofs.Common.{◌≡◌, ◌++◌, take}
use Rattle.std.specs.List.{flat_map}
use Rattle.tree_pictures.specs.ShellLines.{spelled_byte}
use Rattle.tree_pictures.proofs.shell_lines.put_spelled.Given as goal

abbrev pub invariant-loop-byte : goal.invariant-loop-byte
invariant-loop-byte l = l.text ≡ l.initial.text ++ flat_map spelled_byte (take l.byte-index l.word)

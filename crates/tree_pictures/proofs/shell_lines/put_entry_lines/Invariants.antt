use Rattle.std.proofs.Common.{◌≡◌, ◌++◌, take}
use Rattle.std.specs.List.{flat_map}
use Rattle.tree_pictures.specs.ShellLines.{entry_line}
use Rattle.tree_pictures.proofs.shell_lines.put_entry_lines.Given as goal

abbrev pub invariant-loop-place : goal.invariant-loop-place
invariant-loop-place l = l.text ≡ l.initial.text ++ flat_map entry_line (take l.place-index l.places)

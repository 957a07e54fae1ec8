use Rattle.std.proofs.Common.{◌≡◌, ◌++◌, take}
use Rattle.std.specs.List.{flat_map}
use Rattle.tree_pictures.specs.ShellLines.{dir_line}
use Rattle.tree_pictures.proofs.shell_lines.put_dir_lines.Given as goal

abbrev pub invariant-loop-place : goal.invariant-loop-place
invariant-loop-place l = l.text ≡ l.initial.text ++ flat_map (dir_line l.places) (take l.place-index l.places)

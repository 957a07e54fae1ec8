use Rattle.std.proofs.Common.{◌≡◌, ◌++◌, take}
use Rattle.std.specs.List.{flat_map}
use Rattle.tree_pictures.specs.Pictures.{whole_line}
use Rattle.tree_pictures.proofs.pictures.put_whole_lines.Given as goal

abbrev pub invariant-loop-place : goal.invariant-loop-place
invariant-loop-place l = l.text ≡ l.initial.text ++ flat_map whole_line (take l.place-index l.places)

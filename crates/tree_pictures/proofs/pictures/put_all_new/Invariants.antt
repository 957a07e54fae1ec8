use Rattle.std.proofs.Common.{◌≡◌, ◌++◌, take}
use Rattle.std.specs.List.{flat_map}
use Rattle.tree_pictures.specs.Pictures.{new_line}
use Rattle.tree_pictures.proofs.pictures.put_all_new.Given as goal

abbrev pub invariant-loop-place : goal.invariant-loop-place
invariant-loop-place l = l.text ≡ l.initial.text ++ flat_map (new_line l.marked l.old l.new) (take l.place-index l.new)

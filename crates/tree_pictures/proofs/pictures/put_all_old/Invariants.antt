use Rattle.std.proofs.Common.{◌≡◌, ◌++◌, take}
use Rattle.std.specs.List.{flat_map}
use Rattle.tree_pictures.specs.Pictures.{old_line}
use Rattle.tree_pictures.proofs.pictures.put_all_old.Given as goal

abbrev pub invariant-loop-place : goal.invariant-loop-place
invariant-loop-place l = l.text ≡ l.initial.text ++ flat_map (old_line l.marked l.old l.new) (take l.place-index l.old)

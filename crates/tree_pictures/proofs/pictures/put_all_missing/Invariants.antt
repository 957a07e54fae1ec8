use Rattle.std.proofs.Common.{◌≡◌, ◌++◌, take}
use Rattle.std.specs.List.{flat_map}
use Rattle.tree_pictures.specs.Pictures.{missing_line}
use Rattle.tree_pictures.proofs.pictures.put_all_missing.Given as goal

abbrev pub invariant-loop-path : goal.invariant-loop-path
invariant-loop-path l = l.text ≡ l.initial.text ++ flat_map (missing_line l.old l.new) (take l.path-index l.marked)

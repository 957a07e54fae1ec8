use Rattle.std.proofs.Common.{◌≡◌, length}
use Rattle.tree_pictures.specs.Pictures.{standing_at}
use Rattle.tree_pictures.proofs.pictures.standing_at.Given as goal

abbrev pub invariant-loop-left : goal.invariant-loop-left
invariant-loop-left l = standing_at l.path l.left ≡ standing_at l.path l.places

abbrev pub decreases-loop-left : goal.decreases-loop-left
decreases-loop-left l = length l.left

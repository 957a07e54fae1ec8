use Rattle.std.proofs.Common.{◌+◌, ◌*◌, length}
use Rattle.feature_trees.proofs.put.+putting.Given as goal

abbrev pub decreases-put_below : goal.decreases-put_below
decreases-put_below l = 2 * length l.rest.now + 1

abbrev pub decreases-put_among : goal.decreases-put_among
decreases-put_among l = 2 * length l.rest.now

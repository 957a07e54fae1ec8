use Rattle.std.proofs.Common.{◌≡◌, ◌++◌, length}
use Rattle.case_paths.specs.Items.{stage_items}
use Rattle.case_paths.proofs.items.put_stages.Given as goal

abbrev pub invariant-stages : goal.invariant-stages
invariant-stages g l = l.items ++ stage_items l.stages ≡ l.initial.items ++ stage_items l.fn.stages

abbrev pub decreases-stages : goal.decreases-stages
decreases-stages g l = length l.stages

use Rattle.std.proofs.Common.{◌≡◌, ◌++◌, drop, take}
use Rattle.shell_rules.specs.Calls.{cut_at_equals}
use Rattle.colis_interp.proofs.names.equals_at.Given as goal

abbrev pub invariant-loop-at : goal.invariant-loop-at
invariant-loop-at l =
    cut_at_equals l.field ≡ (take l.at l.field ++ (cut_at_equals (drop l.at l.field)).0, (cut_at_equals (drop l.at l.field)).1)

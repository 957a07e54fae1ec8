use Rattle.std.proofs.Common.{◌≡◌, [], take, drop}
use Rattle.colis_syntax.specs.WellFormed.{defs_pass}
use Rattle.colis_syntax.proofs.well_formed.defs_pass.Given as goal

abbrev pub invariant-loop-i : goal.invariant-loop-i
invariant-loop-i l = defs_pass (take l.i l.defs) (drop l.i l.defs) ≡ defs_pass [] l.defs

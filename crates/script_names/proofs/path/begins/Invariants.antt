use Rattle.std.proofs.Common.{◌≡◌, take}
use Rattle.script_names.proofs.path.begins.Given as goal

abbrev pub invariant-loop-i : goal.invariant-loop-i
invariant-loop-i l = take l.i l.longer ≡ take l.i l.names

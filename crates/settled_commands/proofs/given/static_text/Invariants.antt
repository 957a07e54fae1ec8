use Rattle.std.proofs.Common.{◌≡◌, drop, Some}
use Rattle.settled_commands.specs.Joined.{joined, all_joined}
use Rattle.settled_commands.specs.Given.{literal}
use Rattle.settled_commands.proofs.given.static_text.Given as goal

abbrev pub invariant-loop-part : goal.invariant-loop-part
invariant-loop-part l = joined (Some l.text) (all_joined literal (drop l.part-index l.parts)) ≡ all_joined literal l.parts

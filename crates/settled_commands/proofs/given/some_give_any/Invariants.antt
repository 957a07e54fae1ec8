use Rattle.std.proofs.Common.{◌≡◌, false, take}
use Rattle.std.specs.List.{list_any}
use Rattle.settled_commands.specs.Given.{gives_any}
use Rattle.settled_commands.proofs.given.some_give_any.Given as goal

abbrev pub invariant-loop-command : goal.invariant-loop-command
invariant-loop-command l = list_any gives_any (take l.command-index l.commands) ≡ false

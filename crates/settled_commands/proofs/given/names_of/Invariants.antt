use Rattle.std.proofs.Common.{◌≡◌, take}
use Rattle.std.specs.List.{flat_map}
use Rattle.settled_commands.specs.Given.{names_given}
use Rattle.settled_commands.proofs.given.names_of.Given as goal

abbrev pub invariant-loop-command : goal.invariant-loop-command
invariant-loop-command l = l.names ≡ flat_map names_given (take l.command-index l.commands)

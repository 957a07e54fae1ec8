use Rattle.std.proofs.Common.{◌≡◌, ◌++◌, take}
use Rattle.std.specs.List.{flat_map}
use Rattle.shell_syntax.specs.PrintedParts.{escaped}
use Rattle.shell_syntax.proofs.printed_parts.put_all_escaped.Given as goal

abbrev pub invariant-loop-byte : goal.invariant-loop-byte
invariant-loop-byte l = l.text ≡ l.initial.text ++ flat_map escaped (take l.byte-index l.bytes)

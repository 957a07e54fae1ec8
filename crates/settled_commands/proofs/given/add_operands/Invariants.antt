use Rattle.std.proofs.Common.{◌≡◌, ◌++◌, take}
use Rattle.std.specs.List.{flat_map}
use Rattle.settled_commands.specs.Given.{operand_name, static_text}
use Rattle.settled_commands.proofs.given.add_operands.Given as goal

abbrev pub invariant-loop-word : goal.invariant-loop-word
invariant-loop-word l = l.names ≡ l.initial.names ++ flat_map (λ word. operand_name (static_text word)) (take l.word-index l.operands)

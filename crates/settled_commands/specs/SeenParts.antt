-- What is seen of lists of parts, each by what is seen of its own parts.
use Rattle.std.specs.Prelude.{List, ◌++◌, map}
use Rattle.std.specs.List.{flat_map}
use Rattle.shell_syntax.specs.declared.syntax.Assign.{Assign}
use Rattle.shell_syntax.specs.declared.syntax.CaseArm.{CaseArm, out-CaseArm}
use Rattle.shell_syntax.specs.declared.syntax.IfArm.{IfArm}
use Rattle.shell_syntax.specs.declared.syntax.Link.{Link}
use Rattle.shell_syntax.specs.declared.syntax.Word.{Word}
use Rattle.settled_commands.specs.declared.seen.SeenCommand.{SeenCommand}
use Rattle.settled_commands.specs.declared.seen.SeenPart.{SeenPart}
use Rattle.settled_commands.specs.Seen.{Seen, commands_in, word_seen}

-- the commands in words
abbrev pub words_commands : List Word → Seen
words_commands words = flat_map (λ word. (word_seen word).commands) words

-- what the parts of words say
abbrev pub words_parts : List Word → List (List SeenPart)
words_parts words = map (λ word. (word_seen word).parts) words

-- the commands in the values of assignments
abbrev pub assigns_commands : List Assign → Seen
assigns_commands assigns = flat_map (λ assign. (word_seen assign.value).commands) assigns

-- the commands behind `&&` and `||`
abbrev pub links_commands : List Link → Seen
links_commands links = flat_map (λ link. commands_in link.command) links

-- the commands in arms of `if`
abbrev pub arms_commands : List IfArm → Seen
arms_commands arms = flat_map (λ arm. commands_in arm.cond ++ commands_in arm.body) arms

-- the commands in an arm of `case`
abbrev pub arm_commands : CaseArm → Seen
arm_commands arm = words_commands (out-CaseArm arm).patterns ++ commands_in (out-CaseArm arm).body

-- the commands in arms of `case`
abbrev pub case_arms_commands : List CaseArm → Seen
case_arms_commands arms = flat_map arm_commands arms

-- a simple command of these assignments and words
abbrev pub simple_of : List Assign → List Word → SeenCommand
simple_of assigns words = record { assigned = map (λ assign. assign.name) assigns; words = words_parts words }

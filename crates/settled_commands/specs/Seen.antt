-- The simple commands of a script, with those in its functions and substitutions, by what their words say before any
-- expansion (POSIX.1-2017, XCU 2.9.1 Simple Commands).
use Rattle.std.specs.Prelude.{ℕ, Bool, true, false, List, [], ◌∷◌, ◌++◌, map, Option, Some, None}
use Rattle.std.specs.List.{flat_map}
use Rattle.shell_syntax.specs.declared.key.Key.{Key}
use Rattle.shell_syntax.specs.declared.key.Key.TheVariants as key
use Rattle.shell_syntax.specs.declared.syntax.Command.{Command}
use Rattle.shell_syntax.specs.declared.syntax.Part.{Part}
use Rattle.shell_syntax.specs.declared.syntax.Assign.{Assign}
use Rattle.shell_syntax.specs.declared.syntax.CaseArm.{CaseArm}
use Rattle.shell_syntax.specs.declared.syntax.IfArm.{IfArm}
use Rattle.shell_syntax.specs.declared.syntax.Link.{Link}
use Rattle.shell_syntax.specs.declared.syntax.Word.{Word}
use Rattle.shell_syntax.specs.declared.syntax.Command.TheOpen as o
use Rattle.shell_syntax.specs.declared.syntax.Command.TheFolds.{fold-Command, fold-Part, fold-Assign, fold-CaseArm}
use Rattle.shell_syntax.specs.declared.syntax.Command.TheFolds.{fold-IfArm, fold-Link, fold-Word}
use Rattle.settled_commands.specs.declared.seen.SeenCommand.{SeenCommand}
use Rattle.settled_commands.specs.declared.seen.SeenPart.{SeenPart}
use Rattle.settled_commands.specs.declared.seen.SeenPart.TheVariants.{Literal, Variable, Unknown}

-- ---- what is seen of the parts of the syntax

-- the commands, in the order in which they stand, those of a substitution before the one whose word it is
abbrev pub Seen : Type 0
Seen = List SeenCommand

-- a part of a word: what it says, and the commands in it
pub record PartSeen : Type 0 where
  pub part : SeenPart
  pub commands : Seen

-- a word: what its parts say, and the commands in it
pub record WordSeen : Type 0 where
  pub parts : List SeenPart
  pub commands : Seen

-- an assignment: the variable's name, and the commands in its value
pub record AssignSeen : Type 0 where
  pub name : List ℕ
  pub commands : Seen

-- the commands in several, one behind another
abbrev pub all_of : List Seen → Seen
all_of parts = flat_map (λ part. part) parts

-- the commands in words
abbrev pub in_words : List WordSeen → Seen
in_words words = flat_map (λ word. word.commands) words

-- the commands in the values of assignments
abbrev pub in_assigns : List AssignSeen → Seen
in_assigns assigns = flat_map (λ assign. assign.commands) assigns

-- the commands in the words of a `for`, where it has any
abbrev pub in_some : Option (List WordSeen) → Seen
in_some None = []
in_some (Some words) = in_words words

-- the commands behind `else`, where it stands
abbrev pub in_otherwise : Option Seen → Seen
in_otherwise None = []
in_otherwise (Some body) = body

-- ---- the syntax, layer by layer

-- a simple command behind the commands in its words
abbrev pub simple : List AssignSeen → List WordSeen → Seen
simple assigns words =
    in_assigns assigns
    ++ (in_words words
    ++ record { assigned = map (λ assign. assign.name) assigns; words = map (λ word. word.parts) words } ∷ [])

-- the head of a `for`, which gives its variable a value (XCU 2.9.4.2 The for Loop)
abbrev pub head : List ℕ → SeenCommand
head name = record { assigned = name ∷ []; words = [] }

-- the commands in a command
abbrev pub command_layer : o.Command-F Seen PartSeen AssignSeen Seen Seen Seen WordSeen → Seen
command_layer (o.Simple at assigns words) = simple assigns words
command_layer (o.Redirected at body redirects) = body
command_layer (o.Pipe at parts) = all_of parts
command_layer (o.Not at body) = body
command_layer (o.Chain first rest) = first ++ all_of rest
command_layer (o.Seq parts) = all_of parts
command_layer (o.If at arms otherwise) = all_of arms ++ in_otherwise otherwise
command_layer (o.For at name words body) = head name ∷ (in_some words ++ body)
command_layer (o.While at until cond body) = cond ++ body
command_layer (o.Case at subject arms) = subject.commands ++ all_of arms
command_layer (o.Sub at body) = body
command_layer (o.Define at name body) = body

-- a default, which is empty where there is none
abbrev pub default_of : Option (List ℕ) → List ℕ
default_of None = []
default_of (Some bytes) = bytes

-- the expansion of a parameter
abbrev pub expansion : Key → Option (List ℕ) → Bool → SeenPart
expansion (key.Named name) default quoted = Variable name (default_of default) quoted
expansion (key.Arg number) default quoted = Unknown
expansion key.Count default quoted = Unknown

-- a part that no command stands in
abbrev pub alone : SeenPart → PartSeen
alone part = record { part = part; commands = [] }

-- a part of a word
abbrev pub part_layer : o.Part-F Seen PartSeen AssignSeen Seen Seen Seen WordSeen → PartSeen
part_layer (o.Plain bytes) = alone (Literal bytes false)
part_layer (o.Quoted bytes) = alone (Literal bytes true)
part_layer (o.Param key default quoted) = alone (expansion key default quoted)
part_layer o.All = alone Unknown
part_layer (o.Run at body quoted) = record { part = Unknown; commands = body }

-- an assignment
abbrev pub assign_layer : o.Assign-F Seen PartSeen AssignSeen Seen Seen Seen WordSeen → AssignSeen
assign_layer assign = record { name = assign.name; commands = assign.value.commands }

-- the commands in an arm of `case`
abbrev pub case_arm_layer : o.CaseArm-F Seen PartSeen AssignSeen Seen Seen Seen WordSeen → Seen
case_arm_layer arm = in_words arm.patterns ++ arm.body

-- the commands in an arm of `if`
abbrev pub if_arm_layer : o.IfArm-F Seen PartSeen AssignSeen Seen Seen Seen WordSeen → Seen
if_arm_layer arm = arm.cond ++ arm.body

-- the commands behind `&&` or `||`
abbrev pub link_layer : o.Link-F Seen PartSeen AssignSeen Seen Seen Seen WordSeen → Seen
link_layer link = link.command

-- a word
abbrev pub word_layer : o.Word-F Seen PartSeen AssignSeen Seen Seen Seen WordSeen → WordSeen
word_layer word = record {
  parts = map (λ part. part.part) word.parts;
  commands = flat_map (λ part. part.commands) word.parts;
}

-- ---- the whole syntax

-- the simple commands in a command
abbrev pub commands_in : Command → Seen
commands_in =
    fold-Command Seen PartSeen AssignSeen Seen Seen Seen WordSeen
    command_layer part_layer assign_layer case_arm_layer if_arm_layer link_layer word_layer

-- what is seen of a part of a word
abbrev pub part_seen : Part → PartSeen
part_seen =
    fold-Part Seen PartSeen AssignSeen Seen Seen Seen WordSeen
    command_layer part_layer assign_layer case_arm_layer if_arm_layer link_layer word_layer

-- what is seen of an assignment
abbrev pub assign_seen : Assign → AssignSeen
assign_seen =
    fold-Assign Seen PartSeen AssignSeen Seen Seen Seen WordSeen
    command_layer part_layer assign_layer case_arm_layer if_arm_layer link_layer word_layer

-- the commands in an arm of `case`
abbrev pub case_arm_seen : CaseArm → Seen
case_arm_seen =
    fold-CaseArm Seen PartSeen AssignSeen Seen Seen Seen WordSeen
    command_layer part_layer assign_layer case_arm_layer if_arm_layer link_layer word_layer

-- the commands in an arm of `if`
abbrev pub if_arm_seen : IfArm → Seen
if_arm_seen =
    fold-IfArm Seen PartSeen AssignSeen Seen Seen Seen WordSeen
    command_layer part_layer assign_layer case_arm_layer if_arm_layer link_layer word_layer

-- the commands behind `&&` or `||`
abbrev pub link_seen : Link → Seen
link_seen =
    fold-Link Seen PartSeen AssignSeen Seen Seen Seen WordSeen
    command_layer part_layer assign_layer case_arm_layer if_arm_layer link_layer word_layer

-- what is seen of a word
abbrev pub word_seen : Word → WordSeen
word_seen =
    fold-Word Seen PartSeen AssignSeen Seen Seen Seen WordSeen
    command_layer part_layer assign_layer case_arm_layer if_arm_layer link_layer word_layer

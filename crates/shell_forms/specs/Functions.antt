-- The functions that a script defines, wherever the definitions stand.
use Rattle.std.specs.Prelude.{ℕ, List, [], ◌∷◌, ◌++◌, Option, Some, None, min, if◌then◌else◌}
use Rattle.std.specs.List.{flat_map}
use Rattle.std.specs.Str.{bytes_eq}
use Rattle.shell_syntax.specs.declared.syntax.Command.{Command}
use Rattle.shell_syntax.specs.declared.syntax.Part.{Part}
use Rattle.shell_syntax.specs.declared.syntax.Assign.{Assign}
use Rattle.shell_syntax.specs.declared.syntax.CaseArm.{CaseArm}
use Rattle.shell_syntax.specs.declared.syntax.IfArm.{IfArm}
use Rattle.shell_syntax.specs.declared.syntax.Link.{Link}
use Rattle.shell_syntax.specs.declared.syntax.Word.{Word}
use Rattle.shell_syntax.specs.declared.syntax.Command.TheOpen as o
use Rattle.shell_syntax.specs.declared.syntax.Command.TheFolds.{fold-Command, fold-Part, fold-Assign, fold-CaseArm}
use Rattle.shell_syntax.specs.declared.syntax.Command.TheFolds.{fold-IfArm, fold-Link, fold-Word}
use Rattle.shell_forms.specs.Names.{Text}

-- definitions, each as the name of its function and the byte offset at which it stands
abbrev pub Definitions : Type 0
Definitions = List (Text × ℕ)

-- the definitions in lists of parts, in order
abbrev pub of_all : List Definitions → Definitions
of_all parts = flat_map (λ part. part) parts

-- the definitions in a part that may be left out
abbrev pub of_some : {A : Type 0} → (A → Definitions) → Option A → Definitions
of_some f None = []
of_some f (Some x) = f x

-- the definitions in a command, from those in its parts
abbrev pub command_layer :
    o.Command-F Definitions Definitions Definitions Definitions Definitions Definitions Definitions
    → Definitions
command_layer (o.Simple at assigns words) = of_all assigns ++ of_all words
command_layer (o.Redirected at body redirects) = body
command_layer (o.Pipe at parts) = of_all parts
command_layer (o.Not at body) = body
command_layer (o.Chain head rest) = head ++ of_all rest
command_layer (o.Seq parts) = of_all parts
command_layer (o.If at arms otherwise) = of_all arms ++ of_some (λ body. body) otherwise
command_layer (o.For at name words body) = of_some of_all words ++ body
command_layer (o.While at until cond body) = cond ++ body
command_layer (o.Case at subject arms) = subject ++ of_all arms
command_layer (o.Sub at body) = body
command_layer (o.Define at name body) = (name, at) ∷ body

-- those in a part of a word: in the command of a substitution
abbrev pub part_layer :
    o.Part-F Definitions Definitions Definitions Definitions Definitions Definitions Definitions
    → Definitions
part_layer (o.Plain bytes) = []
part_layer (o.Quoted bytes) = []
part_layer (o.Param key default quoted) = []
part_layer o.All = []
part_layer (o.Run at body quoted) = body

-- those in the value of an assignment
abbrev pub assign_layer :
    o.Assign-F Definitions Definitions Definitions Definitions Definitions Definitions Definitions
    → Definitions
assign_layer assign = assign.value

-- those in an arm of `case`
abbrev pub case_arm_layer :
    o.CaseArm-F Definitions Definitions Definitions Definitions Definitions Definitions Definitions
    → Definitions
case_arm_layer arm = of_all arm.patterns ++ arm.body

-- those in an arm of `if`
abbrev pub if_arm_layer :
    o.IfArm-F Definitions Definitions Definitions Definitions Definitions Definitions Definitions
    → Definitions
if_arm_layer arm = arm.cond ++ arm.body

-- those in a command behind `&&` or `||`
abbrev pub link_layer :
    o.Link-F Definitions Definitions Definitions Definitions Definitions Definitions Definitions
    → Definitions
link_layer link = link.command

-- those in a word
abbrev pub word_layer :
    o.Word-F Definitions Definitions Definitions Definitions Definitions Definitions Definitions
    → Definitions
word_layer word = of_all word.parts

-- the definitions in a command
abbrev pub definitions : Command → Definitions
definitions =
    fold-Command Definitions Definitions Definitions Definitions Definitions Definitions Definitions
    command_layer part_layer assign_layer case_arm_layer if_arm_layer link_layer word_layer

-- those in a part of a word
abbrev pub part_definitions : Part → Definitions
part_definitions =
    fold-Part Definitions Definitions Definitions Definitions Definitions Definitions Definitions
    command_layer part_layer assign_layer case_arm_layer if_arm_layer link_layer word_layer

-- those in an assignment
abbrev pub assign_definitions : Assign → Definitions
assign_definitions =
    fold-Assign Definitions Definitions Definitions Definitions Definitions Definitions Definitions
    command_layer part_layer assign_layer case_arm_layer if_arm_layer link_layer word_layer

-- those in an arm of `case`
abbrev pub case_arm_definitions : CaseArm → Definitions
case_arm_definitions =
    fold-CaseArm Definitions Definitions Definitions Definitions Definitions Definitions Definitions
    command_layer part_layer assign_layer case_arm_layer if_arm_layer link_layer word_layer

-- those in an arm of `if`
abbrev pub if_arm_definitions : IfArm → Definitions
if_arm_definitions =
    fold-IfArm Definitions Definitions Definitions Definitions Definitions Definitions Definitions
    command_layer part_layer assign_layer case_arm_layer if_arm_layer link_layer word_layer

-- those in a command behind `&&` or `||`
abbrev pub link_definitions : Link → Definitions
link_definitions =
    fold-Link Definitions Definitions Definitions Definitions Definitions Definitions Definitions
    command_layer part_layer assign_layer case_arm_layer if_arm_layer link_layer word_layer

-- those in a word
abbrev pub word_definitions : Word → Definitions
word_definitions =
    fold-Word Definitions Definitions Definitions Definitions Definitions Definitions Definitions
    command_layer part_layer assign_layer case_arm_layer if_arm_layer link_layer word_layer

-- the lesser of two offsets, where there are two
abbrev pub lesser : Option ℕ → Option ℕ → Option ℕ
lesser None other = other
lesser (Some one) None = Some one
lesser (Some one) (Some other) = Some (min one other)

-- the offset of the first definition of a name
abbrev pub first_of : Definitions → Text → Option ℕ
first_of [] name = None
first_of (definition ∷ rest) name =
    lesser (if bytes_eq definition.0 name then Some definition.1 else None) (first_of rest name)

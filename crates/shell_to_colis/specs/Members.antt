-- The members of a script's list, and the functions that they define (POSIX.1-2017, XCU 2.9.3 Lists, 2.9.5 Function
-- Definition Command).
use Rattle.std.specs.Prelude.{List, [], ◌∷◌, Option, Some, None}
use Rattle.shell_syntax.specs.declared.syntax.Command.{Command, out-Command}
use Rattle.shell_syntax.specs.declared.syntax.Part.{Part}
use Rattle.shell_syntax.specs.declared.syntax.Assign.{Assign}
use Rattle.shell_syntax.specs.declared.syntax.CaseArm.{CaseArm}
use Rattle.shell_syntax.specs.declared.syntax.IfArm.{IfArm}
use Rattle.shell_syntax.specs.declared.syntax.Link.{Link}
use Rattle.shell_syntax.specs.declared.syntax.Word.{Word}
use Rattle.shell_syntax.specs.declared.syntax.Command.TheOpen as o
use Rattle.shell_forms.specs.Names.{Text}

-- the name and the body of the function that a command defines
abbrev pub layer_defines :
    o.Command-F Command Part Assign CaseArm IfArm Link Word → Option (Text × Command)
layer_defines (o.Define at name body) = Some (name, body)
layer_defines (o.Simple at assigns words) = None
layer_defines (o.Redirected at body redirects) = None
layer_defines (o.Pipe at parts) = None
layer_defines (o.Not at body) = None
layer_defines (o.Chain first rest) = None
layer_defines (o.Seq parts) = None
layer_defines (o.If at arms otherwise) = None
layer_defines (o.For at name words body) = None
layer_defines (o.While at until cond body) = None
layer_defines (o.Case at subject arms) = None
layer_defines (o.Sub at body) = None

-- the name and the body of the function that a command defines, if it is a definition
abbrev pub defined_by : Command → Option (Text × Command)
defined_by command = layer_defines (out-Command command)

-- the members of a list; another command is the one member
abbrev pub layer_members :
    Command → o.Command-F Command Part Assign CaseArm IfArm Link Word → List Command
layer_members command (o.Seq parts) = parts
layer_members command (o.Define at name body) = command ∷ []
layer_members command (o.Simple at assigns words) = command ∷ []
layer_members command (o.Redirected at body redirects) = command ∷ []
layer_members command (o.Pipe at parts) = command ∷ []
layer_members command (o.Not at body) = command ∷ []
layer_members command (o.Chain first rest) = command ∷ []
layer_members command (o.If at arms otherwise) = command ∷ []
layer_members command (o.For at name words body) = command ∷ []
layer_members command (o.While at until cond body) = command ∷ []
layer_members command (o.Case at subject arms) = command ∷ []
layer_members command (o.Sub at body) = command ∷ []

-- the members of a script, by its body
abbrev pub members_of : Command → List Command
members_of body = layer_members body (out-Command body)

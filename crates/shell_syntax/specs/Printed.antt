-- The text that a script is printed as (POSIX.1-2017, XCU 2.9 Shell Commands, 2.10.2 Shell Grammar Rules). Each token
-- has one blank or newline before it, and a list has no separator at its end but where one must be there; so the last
-- word of a script has nothing behind it.
use Rattle.std.specs.Prelude.{ℕ, Bool, true, false, if◌then◌else◌, nat_le, List, [], ◌∷◌, ◌++◌, Option, Some, None}
use Rattle.std.specs.Prelude.{codes}
use Rattle.std.specs.List.{flat_map}
use Rattle.script_names.specs.Ascii.{space}
use Rattle.shell_syntax.specs.declared.redirect.Redirect.{Redirect}
use Rattle.shell_syntax.specs.declared.redirect.Redirect.TheVariants.{OutNull, ErrNull, InNull, OutToErr, ErrToOut}
use Rattle.shell_syntax.specs.declared.level.Level.{Level}
use Rattle.shell_syntax.specs.declared.level.Level.TheVariants as level
use Rattle.shell_syntax.specs.declared.script.Script.{Script}
use Rattle.shell_syntax.specs.declared.syntax.Command.{Command}
use Rattle.shell_syntax.specs.declared.syntax.Part.{Part}
use Rattle.shell_syntax.specs.declared.syntax.Assign.{Assign}
use Rattle.shell_syntax.specs.declared.syntax.CaseArm.{CaseArm}
use Rattle.shell_syntax.specs.declared.syntax.IfArm.{IfArm}
use Rattle.shell_syntax.specs.declared.syntax.Link.{Link}
use Rattle.shell_syntax.specs.declared.syntax.Word.{Word}
use Rattle.shell_syntax.specs.declared.syntax.Command.TheOpen as o
use Rattle.shell_syntax.specs.declared.syntax.Command.TheFolds.{fold-Command, fold-Part, fold-Assign, fold-CaseArm}
use Rattle.shell_syntax.specs.declared.syntax.Command.TheFolds.{fold-IfArm, fold-Link, fold-Word}
use Rattle.shell_syntax.specs.PrintedParts.{Text, quoted_text, param_text, run_text}

-- ---- where a command may stand without braces

-- the place of a level in the order of what may stand where: what a list may be made of, an and-or list may be, and
-- so on down to a simple command
abbrev pub rank : Level → ℕ
rank level.Simple = 0
rank level.Compound = 1
rank level.Command = 2
rank level.PipeSequence = 3
rank level.Pipeline = 4
rank level.AndOr = 5
rank level.List = 6

-- A command as it is printed: the name of the grammar that its text is, and that text.
pub record Printed : Type 0 where
  pub level : Level
  pub text : Text

-- a brace group (XCU 2.9.4.1 Grouping Commands)
unfoldable pub braced : Text → Text
braced text = codes " {" ++ text ++ codes "\n }"

-- a command where the grammar has this name: braces stand round what the name does not cover
abbrev pub placed : Level → Printed → Text
placed place command = if nat_le (rank command.level) (rank place) then command.text else braced command.text

-- ---- lists

-- texts, one after another, with something between each two
abbrev pub between : {A : Type 0} → Text → (A → Text) → List A → Text
between separator text [] = []
between separator text (x ∷ xs) = text x ++ flat_map (λ y. separator ++ text y) xs

-- a word behind its blank
abbrev pub spaced : Text → Text
spaced word = space ∷ word

-- ---- redirections (XCU 2.7)

-- a redirection behind its blank
abbrev pub redirect_text : Redirect → Text
redirect_text OutNull = codes " >/dev/null"
redirect_text ErrNull = codes " 2>/dev/null"
redirect_text InNull = codes " </dev/null"
redirect_text OutToErr = codes " >&2"
redirect_text ErrToOut = codes " 2>&1"

-- whether redirections stand before the command: before a simple one, whose first word may look like a reserved word
-- behind them alone; else they stand behind it
abbrev pub is_simple : Level → Bool
is_simple level.Simple = true
is_simple _ = false

-- a command and its redirections
unfoldable pub redirected_text : Printed → Text → Text
redirected_text body redirects =
    if is_simple body.level then redirects ++ body.text else placed level.Compound body ++ redirects

-- ---- commands, from the texts of what they are made of

-- `&&`, or `||` (XCU 2.9.3)
abbrev pub link_word : Bool → Text
link_word true = codes " &&"
link_word false = codes " ||"

-- a command behind `&&` or `||`
unfoldable pub link_text : Bool → Text → Text
link_text is_and command = link_word is_and ++ command

-- a condition and its body, behind `if` or `elif` (XCU 2.9.4.4)
unfoldable pub if_arm_text : Text → Text → Text
if_arm_text cond body = cond ++ codes "\n then" ++ body

-- the conditions and their bodies
unfoldable pub if_head : Text → Text
if_head arms = codes " if" ++ arms

-- the body of `else`, if there is one, and the end
unfoldable pub else_text : Text → Text
else_text body = codes "\n else" ++ body ++ codes "\n fi"

-- the end of an `if`, behind its `else` where it has one
abbrev pub if_end : Option Printed → Text
if_end None = codes "\n fi"
if_end (Some body) = else_text body.text

-- the name of `for` (XCU 2.9.4.2)
unfoldable pub for_head : Text → Text
for_head name = codes " for " ++ name

-- its words, if it has `in`
unfoldable pub in_words : Text → Text
in_words words = codes " in" ++ words

-- the words of `for`, where it has `in`
abbrev pub in_text : Option (List Text) → Text
in_text None = []
in_text (Some words) = in_words (flat_map spaced words)

-- the condition of `while`, or of `until` (XCU 2.9.4.5, 2.9.4.6)
abbrev pub loop_word : Bool → Text
loop_word true = codes " until"
loop_word false = codes " while"

-- `while` or `until` with its condition
unfoldable pub loop_head : Bool → Text → Text
loop_head until cond = loop_word until ++ cond

-- the body of a loop
unfoldable pub do_text : Text → Text
do_text body = codes "\n do" ++ body ++ codes "\n done"

-- the patterns of an arm of `case`, with its `(` (XCU 2.9.4.3)
unfoldable pub arm_head : Text → Text
arm_head patterns = codes "\n (" ++ patterns

-- the body of an arm of `case`
unfoldable pub arm_body : Text → Text
arm_body body = codes " )" ++ body ++ codes " ;;"

-- the word of `case`
unfoldable pub case_head : Text → Text
case_head subject = codes " case " ++ subject

-- the arms of a `case`, from `in` to `esac`
unfoldable pub arms_text : Text → Text
arms_text arms = codes " in" ++ arms ++ codes "\n esac"

-- a subshell (XCU 2.9.4.1)
unfoldable pub sub_text : Text → Text
sub_text body = codes " (" ++ body ++ codes " )"

-- a function's definition (XCU 2.9.5)
unfoldable pub define_text : Text → Text → Text
define_text name body = codes " " ++ name ++ codes " ( ) {" ++ body ++ codes "\n }"

-- the name, `=` and the value (XCU 2.9.1)
unfoldable pub assign_text_of : Text → Text → Text
assign_text_of name value = name ++ codes "=" ++ value

-- ---- one layer of the syntax, from what is printed for the members

-- a command
abbrev pub command_layer : o.Command-F Printed Text Text Text Text Text Text → Printed
command_layer (o.Simple at assigns words) =
    record { level = level.Simple; text = flat_map spaced assigns ++ flat_map spaced words }
command_layer (o.Redirected at body redirects) =
    record { level = level.Command; text = redirected_text body (flat_map redirect_text redirects) }
command_layer (o.Pipe at parts) =
    record { level = level.PipeSequence; text = between (codes " |") (placed level.Command) parts }
command_layer (o.Not at body) = record { level = level.Pipeline; text = codes " !" ++ placed level.PipeSequence body }
command_layer (o.Chain first rest) =
    record { level = level.AndOr; text = placed level.Pipeline first ++ flat_map (λ link. link) rest }
command_layer (o.Seq parts) = record { level = level.List; text = between (codes "\n") (placed level.AndOr) parts }
command_layer (o.If at arms otherwise) =
    record { level = level.Compound; text = if_head (between (codes "\n elif") (λ arm. arm) arms) ++ if_end otherwise }
command_layer (o.For at name words body) =
    record { level = level.Compound; text = for_head name ++ (in_text words ++ do_text body.text) }
command_layer (o.While at until cond body) =
    record { level = level.Compound; text = loop_head until cond.text ++ do_text body.text }
command_layer (o.Case at subject arms) =
    record { level = level.Compound; text = case_head subject ++ arms_text (flat_map (λ arm. arm) arms) }
command_layer (o.Sub at body) = record { level = level.Compound; text = sub_text body.text }
command_layer (o.Define at name body) = record { level = level.Command; text = define_text name body.text }

-- a part of a word
abbrev pub part_layer : o.Part-F Printed Text Text Text Text Text Text → Text
part_layer (o.Plain bytes) = bytes
part_layer (o.Quoted bytes) = quoted_text bytes
part_layer (o.Param key default quoted) = param_text key default quoted
part_layer o.All = codes "\"$@\""
part_layer (o.Run at body quoted) = run_text body.text quoted

-- an assignment
abbrev pub assign_layer : o.Assign-F Printed Text Text Text Text Text Text → Text
assign_layer assign = assign_text_of assign.name assign.value

-- an arm of `case`
abbrev pub case_arm_layer : o.CaseArm-F Printed Text Text Text Text Text Text → Text
case_arm_layer arm = arm_head (between (codes " |") spaced arm.patterns) ++ arm_body arm.body.text

-- an arm of `if`
abbrev pub if_arm_layer : o.IfArm-F Printed Text Text Text Text Text Text → Text
if_arm_layer arm = if_arm_text arm.cond.text arm.body.text

-- a command behind `&&` or `||`
abbrev pub link_layer : o.Link-F Printed Text Text Text Text Text Text → Text
link_layer link = link_text link.and (placed level.Pipeline link.command)

-- a word
abbrev pub word_layer : o.Word-F Printed Text Text Text Text Text Text → Text
word_layer word = flat_map (λ part. part) word.parts

-- ---- the whole syntax

-- a command as it is printed
abbrev pub printed : Command → Printed
printed =
    fold-Command Printed Text Text Text Text Text Text
    command_layer part_layer assign_layer case_arm_layer if_arm_layer link_layer word_layer

-- the text of a part
abbrev pub part_text : Part → Text
part_text =
    fold-Part Printed Text Text Text Text Text Text
    command_layer part_layer assign_layer case_arm_layer if_arm_layer link_layer word_layer

-- the text of an assignment
abbrev pub assign_text : Assign → Text
assign_text =
    fold-Assign Printed Text Text Text Text Text Text
    command_layer part_layer assign_layer case_arm_layer if_arm_layer link_layer word_layer

-- the text of an arm of `case`
abbrev pub arm_text : CaseArm → Text
arm_text =
    fold-CaseArm Printed Text Text Text Text Text Text
    command_layer part_layer assign_layer case_arm_layer if_arm_layer link_layer word_layer

-- the text of a condition of `if` and its body
abbrev pub condition_text : IfArm → Text
condition_text =
    fold-IfArm Printed Text Text Text Text Text Text
    command_layer part_layer assign_layer case_arm_layer if_arm_layer link_layer word_layer

-- the text of a command behind `&&` or `||`
abbrev pub further_text : Link → Text
further_text =
    fold-Link Printed Text Text Text Text Text Text
    command_layer part_layer assign_layer case_arm_layer if_arm_layer link_layer word_layer

-- the text of a word
abbrev pub word_text : Word → Text
word_text =
    fold-Word Printed Text Text Text Text Text Text
    command_layer part_layer assign_layer case_arm_layer if_arm_layer link_layer word_layer

-- the texts of commands that stand where the grammar has one name, with a separator between each two
abbrev pub members_text : Text → Level → List Command → Text
members_text separator place commands = between separator (λ command. placed place (printed command)) commands

-- the same with a separator before each
abbrev pub further_members_text : Text → Level → List Command → Text
further_members_text separator place commands =
    flat_map (λ command. separator ++ placed place (printed command)) commands

-- the texts of conditions of `if` and their bodies
abbrev pub conditions_text : List IfArm → Text
conditions_text arms = between (codes "\n elif") condition_text arms

-- the texts of patterns
abbrev pub patterns_text : List Word → Text
patterns_text words = between (codes " |") (λ word. spaced (word_text word)) words

-- the texts of redirections
abbrev pub redirects_text : List Redirect → Text
redirects_text redirects = flat_map redirect_text redirects

-- the first line, which names the interpreter
abbrev pub first_line : Bool → Text
first_line true = codes "#!/bin/sh -e\n"
first_line false = codes "#!/bin/sh\n"

-- the text of a script
abbrev pub script_text : Script → Text
script_text script = first_line script.strict ++ (printed script.body).text

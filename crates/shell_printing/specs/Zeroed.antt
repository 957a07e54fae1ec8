-- Scripts and tokens with every byte offset 0: two are the same but for their offsets where these are equal.
use Rattle.std.specs.Prelude.{List, map}
use Rattle.shell_syntax.specs.declared.syntax.Command.{Command}
use Rattle.shell_syntax.specs.declared.syntax.Command.TheVariants as c
use Rattle.shell_syntax.specs.declared.syntax.Command.TheOpen as o
use Rattle.shell_syntax.specs.declared.syntax.Command.TheFolds.{fold-Command, fold-Part, fold-Assign, fold-CaseArm}
use Rattle.shell_syntax.specs.declared.syntax.Command.TheFolds.{fold-IfArm, fold-Link, fold-Word}
use Rattle.shell_syntax.specs.declared.syntax.Part.{Part}
use Rattle.shell_syntax.specs.declared.syntax.Part.TheVariants as part
use Rattle.shell_syntax.specs.declared.syntax.Assign.{Assign, roll-Assign}
use Rattle.shell_syntax.specs.declared.syntax.CaseArm.{CaseArm, roll-CaseArm}
use Rattle.shell_syntax.specs.declared.syntax.IfArm.{IfArm, roll-IfArm}
use Rattle.shell_syntax.specs.declared.syntax.Link.{Link, roll-Link}
use Rattle.shell_syntax.specs.declared.syntax.Word.{Word, roll-Word}
use Rattle.shell_lexer.specs.declared.token.Token.{Token}
use Rattle.shell_lexer.specs.declared.token.TokenKind.{TokenKind}
use Rattle.shell_lexer.specs.declared.token.TokenKind.TheVariants as token
use Rattle.shell_lexer.specs.declared.token.RawPart.{RawPart}
use Rattle.shell_lexer.specs.declared.token.RawPart.TheVariants as raw
use Rattle.shell_lexer.specs.declared.token.RawPart.TheOpen as seen
use Rattle.shell_lexer.specs.declared.token.RawPart.TheFolds.{fold-RawPart, fold-TokenKind, fold-Token}
use Rattle.shell_lexer.specs.Reading.{token_at}

-- ---- one layer of the syntax, whose members' offsets are 0 already

-- a command
abbrev pub command_layer : o.Command-F Command Part Assign CaseArm IfArm Link Word → Command
command_layer (o.Simple at assigns words) = c.Simple 0 assigns words
command_layer (o.Redirected at body redirects) = c.Redirected 0 body redirects
command_layer (o.Pipe at parts) = c.Pipe 0 parts
command_layer (o.Not at body) = c.Not 0 body
command_layer (o.Chain first rest) = c.Chain first rest
command_layer (o.Seq parts) = c.Seq parts
command_layer (o.If at arms otherwise) = c.If 0 arms otherwise
command_layer (o.For at name words body) = c.For 0 name words body
command_layer (o.While at until cond body) = c.While 0 until cond body
command_layer (o.Case at subject arms) = c.Case 0 subject arms
command_layer (o.Sub at body) = c.Sub 0 body
command_layer (o.Define at name body) = c.Define 0 name body

-- a part of a word
abbrev pub part_layer : o.Part-F Command Part Assign CaseArm IfArm Link Word → Part
part_layer (o.Plain bytes) = part.Plain bytes
part_layer (o.Quoted bytes) = part.Quoted bytes
part_layer (o.Param key default quoted) = part.Param key default quoted
part_layer o.All = part.All
part_layer (o.Run at body quoted) = part.Run 0 body quoted

-- an assignment
abbrev pub assign_layer : o.Assign-F Command Part Assign CaseArm IfArm Link Word → Assign
assign_layer assign = roll-Assign (record { name = assign.name; value = assign.value })

-- an arm of `case`
abbrev pub case_arm_layer : o.CaseArm-F Command Part Assign CaseArm IfArm Link Word → CaseArm
case_arm_layer arm = roll-CaseArm (record { patterns = arm.patterns; body = arm.body })

-- an arm of `if`
abbrev pub if_arm_layer : o.IfArm-F Command Part Assign CaseArm IfArm Link Word → IfArm
if_arm_layer arm = roll-IfArm (record { cond = arm.cond; body = arm.body })

-- a command behind `&&` or `||`
abbrev pub link_layer : o.Link-F Command Part Assign CaseArm IfArm Link Word → Link
link_layer link = roll-Link (record { and = link.and; command = link.command })

-- a word
abbrev pub word_layer : o.Word-F Command Part Assign CaseArm IfArm Link Word → Word
word_layer word = roll-Word (record { at = 0; parts = word.parts })

-- ---- the whole syntax

-- a command
abbrev pub zeroed : Command → Command
zeroed =
    fold-Command Command Part Assign CaseArm IfArm Link Word
    command_layer part_layer assign_layer case_arm_layer if_arm_layer link_layer word_layer

-- a part of a word
abbrev pub zeroed_part : Part → Part
zeroed_part =
    fold-Part Command Part Assign CaseArm IfArm Link Word
    command_layer part_layer assign_layer case_arm_layer if_arm_layer link_layer word_layer

-- an assignment
abbrev pub zeroed_assign : Assign → Assign
zeroed_assign =
    fold-Assign Command Part Assign CaseArm IfArm Link Word
    command_layer part_layer assign_layer case_arm_layer if_arm_layer link_layer word_layer

-- an arm of `case`
abbrev pub zeroed_case_arm : CaseArm → CaseArm
zeroed_case_arm =
    fold-CaseArm Command Part Assign CaseArm IfArm Link Word
    command_layer part_layer assign_layer case_arm_layer if_arm_layer link_layer word_layer

-- an arm of `if`
abbrev pub zeroed_if_arm : IfArm → IfArm
zeroed_if_arm =
    fold-IfArm Command Part Assign CaseArm IfArm Link Word
    command_layer part_layer assign_layer case_arm_layer if_arm_layer link_layer word_layer

-- a command behind `&&` or `||`
abbrev pub zeroed_link : Link → Link
zeroed_link =
    fold-Link Command Part Assign CaseArm IfArm Link Word
    command_layer part_layer assign_layer case_arm_layer if_arm_layer link_layer word_layer

-- a word
abbrev pub zeroed_word : Word → Word
zeroed_word =
    fold-Word Command Part Assign CaseArm IfArm Link Word
    command_layer part_layer assign_layer case_arm_layer if_arm_layer link_layer word_layer

-- ---- tokens, likewise

-- a part of a word
abbrev pub raw_layer : seen.RawPart-F RawPart TokenKind Token → RawPart
raw_layer (seen.Plain bytes) = raw.Plain bytes
raw_layer (seen.Quoted bytes) = raw.Quoted bytes
raw_layer (seen.Param key default quoted) = raw.Param key default quoted
raw_layer seen.All = raw.All
raw_layer (seen.Run at tokens quoted) = raw.Run 0 tokens quoted

-- what kind of token it is
abbrev pub kind_layer : seen.TokenKind-F RawPart TokenKind Token → TokenKind
kind_layer (seen.Word parts) = token.Word parts
kind_layer seen.Newline = token.Newline
kind_layer seen.Semi = token.Semi
kind_layer seen.DoubleSemi = token.DoubleSemi
kind_layer seen.AndAnd = token.AndAnd
kind_layer seen.OrOr = token.OrOr
kind_layer seen.Bar = token.Bar
kind_layer seen.LeftParen = token.LeftParen
kind_layer seen.RightParen = token.RightParen
kind_layer (seen.Redirect which) = token.Redirect which

-- a token
abbrev pub token_layer : seen.Token-F RawPart TokenKind Token → Token
token_layer t = token_at 0 t.kind

-- a part of a word
abbrev pub zeroed_raw : RawPart → RawPart
zeroed_raw = fold-RawPart RawPart TokenKind Token raw_layer kind_layer token_layer

-- what kind of token it is
abbrev pub zeroed_kind : TokenKind → TokenKind
zeroed_kind = fold-TokenKind RawPart TokenKind Token raw_layer kind_layer token_layer

-- a token
abbrev pub zeroed_token : Token → Token
zeroed_token = fold-Token RawPart TokenKind Token raw_layer kind_layer token_layer

-- tokens, in order
abbrev pub zeroed_tokens : List Token → List Token
zeroed_tokens tokens = map zeroed_token tokens

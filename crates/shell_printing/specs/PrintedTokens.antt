-- The tokens of what a command is printed as (POSIX.1-2017, XCU 2.9 Shell Commands, 2.10.2 Shell Grammar Rules), each
-- at the offset 0. A command has a level of the grammar, and braces stand round it where a place does not cover that.
use Rattle.std.specs.Prelude.{Bool, true, false, if◌then◌else◌, nat_le, List, [], ◌∷◌, ◌++◌, map, Option, Some, None}
use Rattle.std.specs.Prelude.{codes}
use Rattle.std.specs.List.{flat_map}
use Rattle.script_names.specs.Ascii.{equals}
use Rattle.shell_syntax.specs.declared.redirect.Redirect.{Redirect}
use Rattle.shell_syntax.specs.declared.level.Level.{Level}
use Rattle.shell_syntax.specs.declared.level.Level.TheVariants as level
use Rattle.shell_syntax.specs.declared.syntax.Command.{Command}
use Rattle.shell_syntax.specs.declared.syntax.Command.TheOpen as o
use Rattle.shell_syntax.specs.declared.syntax.Command.TheFolds.{fold-Command, fold-Part, fold-Assign, fold-CaseArm}
use Rattle.shell_syntax.specs.declared.syntax.Command.TheFolds.{fold-IfArm, fold-Link, fold-Word}
use Rattle.shell_syntax.specs.declared.syntax.Part.{Part}
use Rattle.shell_syntax.specs.declared.syntax.Assign.{Assign}
use Rattle.shell_syntax.specs.declared.syntax.CaseArm.{CaseArm}
use Rattle.shell_syntax.specs.declared.syntax.IfArm.{IfArm}
use Rattle.shell_syntax.specs.declared.syntax.Link.{Link}
use Rattle.shell_syntax.specs.declared.syntax.Word.{Word}
use Rattle.shell_syntax.specs.Printed.{rank, is_simple}
use Rattle.shell_lexer.specs.declared.token.Token.{Token}
use Rattle.shell_lexer.specs.declared.token.TokenKind.{TokenKind}
use Rattle.shell_lexer.specs.declared.token.TokenKind.TheVariants as token
use Rattle.shell_lexer.specs.declared.token.RawPart.{RawPart, out-RawPart}
use Rattle.shell_lexer.specs.declared.token.RawPart.TheVariants as raw
use Rattle.shell_lexer.specs.declared.token.RawPart.TheOpen as seen
use Rattle.shell_lexer.specs.Reading.{token_at}
use Rattle.shell_grammar.specs.Look.{Text, Tokens}

-- ---- single tokens

-- a word of these parts
abbrev pub word_token : List RawPart → Token
word_token parts = token_at 0 (token.Word parts)

-- a word of plain bytes alone, as a reserved word or a name is
abbrev pub plain_token : Text → Token
plain_token bytes = word_token (raw.Plain bytes ∷ [])

-- an operator
abbrev pub operator : TokenKind → Token
operator which = token_at 0 which

-- a newline
abbrev pub line : Token
line = operator token.Newline

-- a redirection
abbrev pub redirect_token : Redirect → Token
redirect_token which = operator (token.Redirect which)

-- ---- where a command may stand without braces

-- A command as it is printed: the name of the grammar that its tokens are, and these.
pub record Phrase : Type 0 where
  pub level : Level
  pub tokens : Tokens

-- a brace group (XCU 2.9.4.1 Grouping Commands)
abbrev pub braced : Tokens → Tokens
braced tokens = plain_token (codes "{") ∷ (tokens ++ line ∷ plain_token (codes "}") ∷ [])

-- a command where the grammar has this name
abbrev pub placed : Level → Phrase → Tokens
placed place phrase = if nat_le (rank phrase.level) (rank place) then phrase.tokens else braced phrase.tokens

-- ---- pieces

-- tokens, one after another, with something between each two
abbrev pub between : {A : Type 0} → Tokens → (A → Tokens) → List A → Tokens
between separator tokens [] = []
between separator tokens (x ∷ xs) = tokens x ++ flat_map (λ y. separator ++ tokens y) xs

-- a command and its redirections, which stand before a simple command and behind any other (XCU 2.7)
abbrev pub redirected_tokens : Phrase → Tokens → Tokens
redirected_tokens body redirects =
    if is_simple body.level then redirects ++ body.tokens else placed level.Compound body ++ redirects

-- `&&`, or `||` (XCU 2.9.3)
abbrev pub link_token : Bool → Token
link_token true = operator token.AndAnd
link_token false = operator token.OrOr

-- the end of an `if`, behind its `else` where it has one (XCU 2.9.4.4)
abbrev pub if_end : Option Phrase → Tokens
if_end None = line ∷ plain_token (codes "fi") ∷ []
if_end (Some body) =
    line ∷ plain_token (codes "else") ∷ (body.tokens ++ line ∷ plain_token (codes "fi") ∷ [])

-- the words of a `for`, where it has `in` (XCU 2.9.4.2)
abbrev pub in_tokens : Option (List (List RawPart)) → Tokens
in_tokens None = []
in_tokens (Some words) = plain_token (codes "in") ∷ map word_token words

-- the body of a loop
abbrev pub do_tokens : Tokens → Tokens
do_tokens body = line ∷ plain_token (codes "do") ∷ (body ++ line ∷ plain_token (codes "done") ∷ [])

-- the word of a loop (XCU 2.9.4.5, 2.9.4.6)
abbrev pub loop_token : Bool → Token
loop_token true = plain_token (codes "until")
loop_token false = plain_token (codes "while")

-- the parts of a word that begins with a name and `=`, from those behind it: its first bytes are one plain part
abbrev pub assign_seen : Text → seen.RawPart-F RawPart TokenKind Token → RawPart → List RawPart → List RawPart
assign_seen name (seen.Plain bytes) part parts = raw.Plain (name ++ equals ∷ bytes) ∷ parts
assign_seen name _ part parts = raw.Plain (name ++ equals ∷ []) ∷ part ∷ parts

-- the parts of an assignment (XCU 2.9.1)
abbrev pub assign_parts : Text → List RawPart → List RawPart
assign_parts name [] = raw.Plain (name ++ equals ∷ []) ∷ []
assign_parts name (part ∷ parts) = assign_seen name (out-RawPart part) part parts

-- ---- one layer of the syntax, from what is printed for the members

-- a command
abbrev pub command_layer : o.Command-F Phrase RawPart (List RawPart) Tokens Tokens Tokens (List RawPart) → Phrase
command_layer (o.Simple at assigns words) =
    record { level = level.Simple; tokens = map word_token assigns ++ map word_token words }
command_layer (o.Redirected at body redirects) =
    record { level = level.Command; tokens = redirected_tokens body (map redirect_token redirects) }
command_layer (o.Pipe at parts) =
    record { level = level.PipeSequence; tokens = between (operator token.Bar ∷ []) (placed level.Command) parts }
command_layer (o.Not at body) =
    record { level = level.Pipeline; tokens = plain_token (codes "!") ∷ placed level.PipeSequence body }
command_layer (o.Chain first rest) =
    record { level = level.AndOr; tokens = placed level.Pipeline first ++ flat_map (λ link. link) rest }
command_layer (o.Seq parts) =
    record { level = level.List; tokens = between (line ∷ []) (placed level.AndOr) parts }
command_layer (o.If at arms otherwise) = record {
  level = level.Compound;
  tokens = plain_token (codes "if")
      ∷ (between (line ∷ plain_token (codes "elif") ∷ []) (λ arm. arm) arms ++ if_end otherwise);
}
command_layer (o.For at name words body) = record {
  level = level.Compound;
  tokens = plain_token (codes "for") ∷ plain_token name ∷ (in_tokens words ++ do_tokens body.tokens);
}
command_layer (o.While at until cond body) =
    record { level = level.Compound; tokens = loop_token until ∷ (cond.tokens ++ do_tokens body.tokens) }
command_layer (o.Case at subject arms) = record {
  level = level.Compound;
  tokens = plain_token (codes "case") ∷ word_token subject ∷ plain_token (codes "in")
      ∷ (flat_map (λ arm. arm) arms ++ line ∷ plain_token (codes "esac") ∷ []);
}
command_layer (o.Sub at body) = record {
  level = level.Compound;
  tokens = operator token.LeftParen ∷ (body.tokens ++ operator token.RightParen ∷ []);
}
command_layer (o.Define at name body) = record {
  level = level.Command;
  tokens = plain_token name ∷ operator token.LeftParen ∷ operator token.RightParen ∷ braced body.tokens;
}

-- a part of a word
abbrev pub part_layer : o.Part-F Phrase RawPart (List RawPart) Tokens Tokens Tokens (List RawPart) → RawPart
part_layer (o.Plain bytes) = raw.Plain bytes
part_layer (o.Quoted bytes) = raw.Quoted bytes
part_layer (o.Param key default quoted) = raw.Param key default quoted
part_layer o.All = raw.All
part_layer (o.Run at body quoted) = raw.Run 0 body.tokens quoted

-- an assignment
abbrev pub assign_layer : o.Assign-F Phrase RawPart (List RawPart) Tokens Tokens Tokens (List RawPart) → List RawPart
assign_layer assign = assign_parts assign.name assign.value

-- an arm of `case`
abbrev pub case_arm_layer : o.CaseArm-F Phrase RawPart (List RawPart) Tokens Tokens Tokens (List RawPart) → Tokens
case_arm_layer arm =
    line ∷ operator token.LeftParen
    ∷ (between (operator token.Bar ∷ []) (λ word. word_token word ∷ []) arm.patterns
    ++ operator token.RightParen ∷ (arm.body.tokens ++ operator token.DoubleSemi ∷ []))

-- an arm of `if`
abbrev pub if_arm_layer : o.IfArm-F Phrase RawPart (List RawPart) Tokens Tokens Tokens (List RawPart) → Tokens
if_arm_layer arm = arm.cond.tokens ++ line ∷ plain_token (codes "then") ∷ arm.body.tokens

-- a command behind `&&` or `||`
abbrev pub link_layer : o.Link-F Phrase RawPart (List RawPart) Tokens Tokens Tokens (List RawPart) → Tokens
link_layer link = link_token link.and ∷ placed level.Pipeline link.command

-- a word
abbrev pub word_layer : o.Word-F Phrase RawPart (List RawPart) Tokens Tokens Tokens (List RawPart) → List RawPart
word_layer word = word.parts

-- ---- the whole syntax

-- a command as it is printed
abbrev pub phrase : Command → Phrase
phrase =
    fold-Command Phrase RawPart (List RawPart) Tokens Tokens Tokens (List RawPart)
    command_layer part_layer assign_layer case_arm_layer if_arm_layer link_layer word_layer

-- a part of a word
abbrev pub raw_of : Part → RawPart
raw_of =
    fold-Part Phrase RawPart (List RawPart) Tokens Tokens Tokens (List RawPart)
    command_layer part_layer assign_layer case_arm_layer if_arm_layer link_layer word_layer

-- the parts of an assignment, name and value
abbrev pub assign_raws : Assign → List RawPart
assign_raws =
    fold-Assign Phrase RawPart (List RawPart) Tokens Tokens Tokens (List RawPart)
    command_layer part_layer assign_layer case_arm_layer if_arm_layer link_layer word_layer

-- the tokens of an arm of `case`
abbrev pub arm_tokens : CaseArm → Tokens
arm_tokens =
    fold-CaseArm Phrase RawPart (List RawPart) Tokens Tokens Tokens (List RawPart)
    command_layer part_layer assign_layer case_arm_layer if_arm_layer link_layer word_layer

-- the tokens of a condition of `if` and its body
abbrev pub condition_tokens : IfArm → Tokens
condition_tokens =
    fold-IfArm Phrase RawPart (List RawPart) Tokens Tokens Tokens (List RawPart)
    command_layer part_layer assign_layer case_arm_layer if_arm_layer link_layer word_layer

-- the tokens of a command behind `&&` or `||`
abbrev pub further_tokens : Link → Tokens
further_tokens =
    fold-Link Phrase RawPart (List RawPart) Tokens Tokens Tokens (List RawPart)
    command_layer part_layer assign_layer case_arm_layer if_arm_layer link_layer word_layer

-- the parts of a word
abbrev pub word_raws : Word → List RawPart
word_raws =
    fold-Word Phrase RawPart (List RawPart) Tokens Tokens Tokens (List RawPart)
    command_layer part_layer assign_layer case_arm_layer if_arm_layer link_layer word_layer

-- the tokens of a script's body
abbrev pub script_tokens : Command → Tokens
script_tokens body = (phrase body).tokens

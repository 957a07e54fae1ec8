-- What the first token makes of a command (POSIX.1-2017, XCU 2.9 Shell Commands).
use Rattle.std.specs.Prelude.{Bool, true, false, Option, Some, None}
use Rattle.shell_syntax.specs.declared.redirect.Redirect.{Redirect}
use Rattle.shell_grammar.specs.declared.form.CommandForm.{CommandForm}
use Rattle.shell_grammar.specs.declared.form.CommandForm.TheVariants as command
use Rattle.shell_grammar.specs.declared.form.CompoundForm.{CompoundForm}
use Rattle.shell_grammar.specs.declared.form.CompoundForm.TheVariants as compound
use Rattle.shell_grammar.specs.declared.form.Item.{Item}
use Rattle.shell_grammar.specs.declared.form.Item.TheVariants as an
use Rattle.shell_grammar.specs.declared.look.Look.{Look}
use Rattle.shell_grammar.specs.declared.look.Look.TheVariants.{AtEnd, Newline, Semi, DoubleSemi, AndAnd, OrOr}
use Rattle.shell_grammar.specs.declared.look.Look.TheVariants.{LeftParen, Redirection, Keyword, Name}
use Rattle.shell_grammar.specs.declared.look.Look.TheVariants.{Assignment, Other}
use Rattle.shell_grammar.specs.declared.look.Reserved.TheVariants.{Open, Close, Bang, If, For}
use Rattle.shell_grammar.specs.declared.look.Reserved.TheVariants.{While, Until, Case, Esac}

-- a compound command begins with `(` or one of the reserved words `{ if while until for case`; a command of another
-- form begins with a word that is not reserved, or with a redirection; no command begins otherwise
abbrev pub command_form : Look → Option CommandForm
command_form LeftParen = Some command.Compound
command_form (Keyword Open) = Some command.Compound
command_form (Keyword If) = Some command.Compound
command_form (Keyword While) = Some command.Compound
command_form (Keyword Until) = Some command.Compound
command_form (Keyword For) = Some command.Compound
command_form (Keyword Case) = Some command.Compound
command_form Name = Some command.Named
command_form (Redirection which) = Some command.Simple
command_form Assignment = Some command.Simple
command_form Other = Some command.Simple
command_form _ = None

-- the form of a compound command; what begins no other is wanted to be `{`
abbrev pub compound_form : Look → CompoundForm
compound_form LeftParen = compound.Subshell
compound_form (Keyword If) = compound.If
compound_form (Keyword For) = compound.For
compound_form (Keyword Case) = compound.Case
compound_form (Keyword While) = compound.Loop false
compound_form (Keyword Until) = compound.Loop true
compound_form _ = compound.Braces

-- what a token is to a simple command, before its first word, or behind it: there, an assignment is a word; a
-- reserved word is a word at either place; no other token belongs to it
abbrev pub item : Bool → Look → Option Item
item false Assignment = Some an.Assignment
item true Assignment = Some an.Word
item behind_word (Redirection which) = Some (an.Redirection which)
item behind_word (Keyword which) = Some an.Word
item behind_word Name = Some an.Word
item behind_word Other = Some an.Word
item behind_word _ = None

-- whether a simple command has a word once it has this, too
abbrev pub has_word : Bool → Item → Bool
has_word behind_word an.Word = true
has_word behind_word _ = behind_word

-- there is one
abbrev pub is_some : {A : Type 0} → Option A → Bool
is_some (Some form) = true
is_some None = false

-- whether a pipeline may begin so
abbrev pub starts : Look → Bool
starts (Keyword Bang) = true
starts l = is_some (command_form l)

-- the reserved word of a loop
abbrev pub loop_word : Bool → Look
loop_word true = Keyword Until
loop_word false = Keyword While

-- what may be the name behind `for`: a name, which may be a reserved word
abbrev pub is_name_word : Look → Bool
is_name_word Name = true
is_name_word (Keyword Open) = false
is_name_word (Keyword Close) = false
is_name_word (Keyword Bang) = false
is_name_word (Keyword which) = true
is_name_word _ = false

-- a word, whether reserved or not
abbrev pub is_word : Look → Bool
is_word (Keyword which) = true
is_word Name = true
is_word Assignment = true
is_word Other = true
is_word _ = false

-- a separator of commands
abbrev pub is_separator : Look → Bool
is_separator Semi = true
is_separator Newline = true
is_separator _ = false

-- `&&`, or `||` where that is false
abbrev pub link_and : Look → Option Bool
link_and AndAnd = Some true
link_and OrOr = Some false
link_and _ = None

-- the redirection that stands there, if one does
abbrev pub redirection : Look → Option Redirect
redirection (Redirection which) = Some which
redirection _ = None

-- where an arm of `case` has no command
abbrev pub ends_arm : Look → Bool
ends_arm AtEnd = true
ends_arm DoubleSemi = true
ends_arm (Keyword Esac) = true
ends_arm _ = false

-- not the tokens' end
abbrev pub is_token : Look → Bool
is_token AtEnd = false
is_token _ = true

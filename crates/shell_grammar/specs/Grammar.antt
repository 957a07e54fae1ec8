-- The grammar: what each of its names is made of, by the first token (POSIX.1-2017, XCU 2.10.2 Shell Grammar Rules).
use Rattle.std.specs.Prelude.{ℕ, Bool, true, false, List, [], ◌∷◌, Option, Some, None}
use Rattle.shell_syntax.specs.declared.redirect.Redirect.{Redirect}
use Rattle.shell_syntax.specs.declared.syntax.Command.{Command}
use Rattle.shell_syntax.specs.declared.syntax.Command.TheVariants as c
use Rattle.shell_syntax.specs.declared.syntax.Word.{Word}
use Rattle.shell_syntax.specs.declared.syntax.Link.{Link}
use Rattle.shell_syntax.specs.declared.syntax.IfArm.{IfArm}
use Rattle.shell_syntax.specs.declared.syntax.CaseArm.{CaseArm}
use Rattle.shell_grammar.specs.declared.form.CommandForm.{CommandForm}
use Rattle.shell_grammar.specs.declared.form.CommandForm.TheVariants as command
use Rattle.shell_grammar.specs.declared.form.CompoundForm.{CompoundForm}
use Rattle.shell_grammar.specs.declared.form.CompoundForm.TheVariants as compound
use Rattle.shell_grammar.specs.declared.form.Item.{Item}
use Rattle.shell_grammar.specs.declared.form.Item.TheVariants as an
use Rattle.shell_grammar.specs.declared.items.Items.{Items}
use Rattle.shell_grammar.specs.declared.look.Look.{Look}
use Rattle.shell_grammar.specs.declared.look.Look.TheVariants.{AtEnd, Newline, Semi, DoubleSemi, Bar}
use Rattle.shell_grammar.specs.declared.look.Look.TheVariants.{LeftParen, RightParen, Redirection, Keyword}
use Rattle.shell_grammar.specs.declared.look.Reserved.TheVariants.{Open, Close, Bang, If, Then, Elif, Else, Fi, For}
use Rattle.shell_grammar.specs.declared.look.Reserved.TheVariants.{In, Do, Done, Case, Esac}
use Rattle.shell_grammar.specs.Look.{Text}
use Rattle.shell_grammar.specs.Forms.{command_form, compound_form, item, starts, loop_word, is_name_word}
use Rattle.shell_grammar.specs.Forms.{is_word, is_separator, link_and, redirection, ends_arm}
use Rattle.shell_grammar.specs.Trees.{seq_of, pipe_of, chain_of, redirected, link, if_arm, case_arm, no_items}
use Rattle.shell_grammar.specs.Trees.{an_assign, a_word, a_redirect, joined, simple, word_text, assigned, Tail}
use Rattle.shell_grammar.specs.Trees.{Defines, Continues, named}

-- the grammar's names, each with what stands for it
pub data Rule : Type 0 where
  -- all tokens
  Script : Rule
  -- a script's list, which may be missing
  Body : Rule
  -- newlines, perhaps none
  Newlines : Rule
  -- a list behind newlines
  Block : Rule
  -- a list: and-or lists with separators between them, and perhaps one at its end
  Members : Rule
  -- a separator and what follows it, or nothing
  More : Rule
  -- what follows a separator: further members, or nothing
  Behind : Rule
  -- pipelines with `&&` and `||` between them
  AndOr : Rule
  -- the further pipelines of an and-or list
  Links : Rule
  -- commands with `|` between them, perhaps behind `!`
  Pipeline : Rule
  -- the same without `!`
  Piped : Rule
  -- the further commands of a pipeline
  Bars : Rule
  -- a command
  ACommand : Rule
  -- a compound command without its redirections
  Compound : Rule
  -- an `if` behind its first word, up to its `fi`; likewise behind `elif`
  Clause : Rule
  -- what follows a body of `if`: `elif`, `else` or nothing
  Arms : Rule
  -- a `while` or `until` behind its first word, up to its `done`
  Loop : Rule
  -- a `for` behind its first word, up to its `done`
  ForRest : Rule
  -- its name
  ForName : Rule
  -- `in` with its words and a separator, or perhaps a `;`
  ForWords : Rule
  -- words, perhaps none
  Each : Rule
  -- a separator that must be there
  Apart : Rule
  -- a `case` behind its first word, up to its `esac`
  CaseRest : Rule
  -- its arms
  CaseArms : Rule
  -- `;;` and further arms, or nothing
  CaseMore : Rule
  -- an arm
  OneArm : Rule
  -- an arm behind its `(`
  ArmRest : Rule
  -- patterns with `|` between them
  Patterns : Rule
  -- the further ones
  MorePatterns : Rule
  -- an arm's list, which may be missing
  ArmBody : Rule
  -- a list in `{` and `}`
  Braces : Rule
  -- a function's definition behind its name, or a simple command behind its first word
  Named : Rule
  -- the items of a simple command, before its first word or behind it
  SimpleItems : (behind_word : Bool) → Rule
  -- redirections, perhaps none
  Redirects : Rule

-- what a rule is made of
pub data Sign : Type 0 where
  -- the token that looks so; at the tokens' end, that they end
  Is : Look → Sign
  -- the token that looks so, which opens a level
  Opens : Look → Sign
  -- a word, however it looks
  AWord : Sign
  -- nothing: the offset of what comes next
  Here : Sign
  -- what no token is
  Never : Sign
  -- what a rule gives
  Of : Rule → Sign
  -- what a rule gives, one level further in
  Inside : Rule → Sign

-- what a rule gives
abbrev pub Tree : Rule → Type 0
Tree Newlines = Unit {0}
Tree More = List Command
Tree Behind = List Command
Tree Links = List Link
Tree Bars = List Command
Tree Clause = List IfArm × Option Command
Tree Arms = List IfArm × Option Command
Tree Loop = Command × Command
Tree ForRest = Text × Option (List Word) × Command
Tree ForName = Text
Tree ForWords = Option (List Word)
Tree Each = List Word
Tree Apart = Unit {0}
Tree CaseRest = Word × List CaseArm
Tree CaseArms = List CaseArm
Tree CaseMore = List CaseArm
Tree OneArm = CaseArm
Tree ArmRest = CaseArm
Tree Patterns = List Word
Tree MorePatterns = List Word
Tree Named = Tail
Tree (SimpleItems behind_word) = Items
Tree Redirects = List Redirect
Tree _ = Command

-- what a sign gives: a token its offset, a word itself
abbrev pub Value : Sign → Type 0
Value (Is l) = ℕ
Value (Opens l) = ℕ
Value AWord = Word
Value Here = ℕ
Value Never = Unit {0}
Value (Of n) = Tree n
Value (Inside n) = Tree n

-- what signs give, one after another
abbrev pub Values : List Sign → Type 0
Values [] = Unit {0}
Values (s ∷ ss) = Value s × Values ss

-- what a rule is made of, in order, and its tree from what those give
pub record Production (n : Rule) : Type 0 where
  pub signs : List Sign
  pub tree : Values signs → Tree n

-- ---- productions that a form or a test chooses

-- behind a separator (XCU 2.10.2 term, list)
abbrev pub production_behind : (starts : Bool) → Production Behind
production_behind true = record { signs = Of AndOr ∷ Of More ∷ []; tree = λ v. v.0 ∷ v.1.0 }
production_behind false = record { signs = []; tree = λ v. [] }

-- a command (XCU 2.10.2 command; 2.9.1 Simple Commands, 2.9.4 Compound Commands, 2.9.5 Function Definition Command)
abbrev pub production_command : Option CommandForm → Production ACommand
production_command (Some command.Compound) =
    record { signs = Here ∷ Of Compound ∷ Of Redirects ∷ []; tree = λ v. redirected v.0 v.1.0 v.1.1.0 }
production_command (Some command.Named) =
    record { signs = Here ∷ AWord ∷ Of Named ∷ []; tree = λ v. named v.0 v.1.0 v.1.1.0 }
production_command (Some command.Simple) =
    record { signs = Here ∷ Of (SimpleItems false) ∷ []; tree = λ v. simple v.0 v.1.0 }
production_command None = record { signs = Never ∷ []; tree = λ v. c.Seq [] }

-- a compound command (XCU 2.10.2 compound_command; 2.9.4.1 Grouping Commands, 2.9.4.2 The for Loop, 2.9.4.3 Case
-- Conditional Construct, 2.9.4.4 The if Conditional Construct, 2.9.4.5 The while Loop, 2.9.4.6 The until Loop)
abbrev pub production_compound : CompoundForm → Production Compound
production_compound compound.Subshell =
    record { signs = Opens LeftParen ∷ Inside Block ∷ Is RightParen ∷ []; tree = λ v. c.Sub v.0 v.1.0 }
production_compound compound.If =
    record { signs = Opens (Keyword If) ∷ Inside Clause ∷ Is (Keyword Fi) ∷ []; tree = λ v. c.If v.0 v.1.0.0 v.1.0.1 }
production_compound compound.For =
    record {
      signs = Opens (Keyword For) ∷ Inside ForRest ∷ Is (Keyword Done) ∷ [];
      tree = λ v. c.For v.0 v.1.0.0 v.1.0.1 v.1.0.2;
    }
production_compound compound.Case =
    record {
      signs = Opens (Keyword Case) ∷ Inside CaseRest ∷ Is (Keyword Esac) ∷ [];
      tree = λ v. c.Case v.0 v.1.0.0 v.1.0.1;
    }
production_compound (compound.Loop until) =
    record {
      signs = Opens (loop_word until) ∷ Inside Loop ∷ Is (Keyword Done) ∷ [];
      tree = λ v. c.While v.0 until v.1.0.0 v.1.0.1;
    }
production_compound compound.Braces = record { signs = Of Braces ∷ []; tree = λ v. v.0 }

-- the name of a `for` (XCU 2.10.2 name)
abbrev pub production_name : (is_name : Bool) → Production ForName
production_name true = record { signs = AWord ∷ []; tree = λ v. word_text v.0 }
production_name false = record { signs = Never ∷ []; tree = λ v. [] }

-- the words of a `for` (XCU 2.10.2 wordlist)
abbrev pub production_each : (is_word : Bool) → Production Each
production_each true = record { signs = AWord ∷ Of Each ∷ []; tree = λ v. v.0 ∷ v.1.0 }
production_each false = record { signs = []; tree = λ v. [] }

-- the list of an arm of `case` (XCU 2.10.2 case_item)
abbrev pub production_arm_body : (ends : Bool) → Production ArmBody
production_arm_body true = record { signs = []; tree = λ v. c.Seq [] }
production_arm_body false = record { signs = Of Members ∷ []; tree = λ v. v.0 }

-- the items of a simple command (XCU 2.10.2 simple_command, cmd_prefix, cmd_suffix)
abbrev pub production_items : (behind_word : Bool) → Option Item → Production (SimpleItems behind_word)
production_items behind_word (Some an.Assignment) =
    record { signs = AWord ∷ Of (SimpleItems behind_word) ∷ []; tree = λ v. joined (an_assign (assigned v.0)) v.1.0 }
production_items behind_word (Some (an.Redirection which)) =
    record {
      signs = Is (Redirection which) ∷ Of (SimpleItems behind_word) ∷ [];
      tree = λ v. joined (a_redirect which) v.1.0;
    }
production_items behind_word (Some an.Word) =
    record { signs = AWord ∷ Of (SimpleItems true) ∷ []; tree = λ v. joined (a_word v.0) v.1.0 }
production_items behind_word None = record { signs = []; tree = λ v. no_items }

-- further pipelines (XCU 2.10.2 and_or; 2.9.3 Lists)
abbrev pub production_links : Look → (is_and : Option Bool) → Production Links
production_links l (Some is_and) =
    record { signs = Is l ∷ Of Newlines ∷ Of Pipeline ∷ Of Links ∷ []; tree = λ v. link is_and v.1.1.0 ∷ v.1.1.1.0 }
production_links l None = record { signs = []; tree = λ v. [] }

-- a separator and what follows it (XCU 2.10.2 separator, newline_list)
abbrev pub production_more : Look → (separates : Bool) → Production More
production_more l true = record { signs = Is l ∷ Of Newlines ∷ Of Behind ∷ []; tree = λ v. v.1.1.0 }
production_more l false = record { signs = []; tree = λ v. [] }

-- a separator that must be there (XCU 2.10.2 sequential_sep)
abbrev pub production_apart : Look → (separates : Bool) → Production Apart
production_apart l true = record { signs = Is l ∷ Of Newlines ∷ []; tree = λ v. tt }
production_apart l false = record { signs = Never ∷ []; tree = λ v. tt }

-- redirections (XCU 2.10.2 redirect_list)
abbrev pub production_redirects : Option Redirect → Production Redirects
production_redirects (Some which) =
    record { signs = Is (Redirection which) ∷ Of Redirects ∷ []; tree = λ v. which ∷ v.1.0 }
production_redirects None = record { signs = []; tree = λ v. [] }

-- ---- the table

-- the production of a rule, by what stands first among the tokens
abbrev pub production : (n : Rule) → Look → Production n
-- XCU 2.10.2 program, linebreak, complete_commands, compound_list; 2.9.3 Lists
production Script l = record { signs = Of Newlines ∷ Of Body ∷ Is AtEnd ∷ []; tree = λ v. v.1.0 }
production Body AtEnd = record { signs = []; tree = λ v. c.Seq [] }
production Body l = record { signs = Of Members ∷ []; tree = λ v. v.0 }
production Newlines Newline = record { signs = Is Newline ∷ Of Newlines ∷ []; tree = λ v. tt }
production Newlines l = record { signs = []; tree = λ v. tt }
production Block l = record { signs = Of Newlines ∷ Of Members ∷ []; tree = λ v. v.1.0 }
production Members l = record { signs = Of AndOr ∷ Of More ∷ []; tree = λ v. seq_of (v.0 ∷ v.1.0) }
production More l = production_more l (is_separator l)
production Behind l = production_behind (starts l)
-- XCU 2.10.2 and_or, pipeline, pipe_sequence, command; 2.9.2 Pipelines, 2.9.3 Lists; 2.4 for `!`
production AndOr l = record { signs = Of Pipeline ∷ Of Links ∷ []; tree = λ v. chain_of v.0 v.1.0 }
production Links l = production_links l (link_and l)
production Pipeline (Keyword Bang) = record { signs = Is (Keyword Bang) ∷ Of Piped ∷ []; tree = λ v. c.Not v.0 v.1.0 }
production Pipeline l = record { signs = Of Piped ∷ []; tree = λ v. v.0 }
production Piped l = record { signs = Here ∷ Of ACommand ∷ Of Bars ∷ []; tree = λ v. pipe_of v.0 (v.1.0 ∷ v.1.1.0) }
production Bars Bar =
    record { signs = Is Bar ∷ Of Newlines ∷ Of ACommand ∷ Of Bars ∷ []; tree = λ v. v.1.1.0 ∷ v.1.1.1.0 }
production Bars l = record { signs = []; tree = λ v. [] }
production ACommand l = production_command (command_form l)
production Compound l = production_compound (compound_form l)
-- XCU 2.10.2 if_clause, else_part, while_clause, until_clause, do_group; 2.9.4.4 The if Conditional Construct, 2.9.4.5
-- The while Loop, 2.9.4.6 The until Loop; 2.4 for their reserved words
production Clause l =
    record {
      signs = Of Block ∷ Is (Keyword Then) ∷ Of Block ∷ Of Arms ∷ [];
      tree = λ v. (if_arm v.0 v.1.1.0 ∷ v.1.1.1.0.0, v.1.1.1.0.1);
    }
production Arms (Keyword Elif) = record { signs = Is (Keyword Elif) ∷ Of Clause ∷ []; tree = λ v. v.1.0 }
production Arms (Keyword Else) = record { signs = Is (Keyword Else) ∷ Of Block ∷ []; tree = λ v. ([], Some v.1.0) }
production Arms l = record { signs = []; tree = λ v. ([], None) }
production Loop l = record { signs = Of Block ∷ Is (Keyword Do) ∷ Of Block ∷ []; tree = λ v. (v.0, v.1.1.0) }
-- XCU 2.10.2 for_clause, name, in, wordlist, sequential_sep, do_group; 2.9.4.2 The for Loop; 2.4 for `in`, `do`
production ForRest l =
    record {
      signs = Of ForName ∷ Of Newlines ∷ Of ForWords ∷ Is (Keyword Do) ∷ Of Block ∷ [];
      tree = λ v. (v.0, v.1.1.0, v.1.1.1.1.0);
    }
production ForName l = production_name (is_name_word l)
production ForWords (Keyword In) =
    record { signs = Is (Keyword In) ∷ Of Each ∷ Of Apart ∷ []; tree = λ v. Some v.1.0 }
production ForWords Semi = record { signs = Is Semi ∷ Of Newlines ∷ []; tree = λ v. None }
production ForWords l = record { signs = []; tree = λ v. None }
production Each l = production_each (is_word l)
production Apart l = production_apart l (is_separator l)
-- XCU 2.10.2 case_clause, case_list, case_list_ns, case_item, case_item_ns, pattern; 2.9.4.3 Case Conditional
-- Construct; 2.4 for `in`, `esac`
production CaseRest l =
    record {
      signs = AWord ∷ Of Newlines ∷ Is (Keyword In) ∷ Of Newlines ∷ Of CaseArms ∷ [];
      tree = λ v. (v.0, v.1.1.1.1.0);
    }
production CaseArms (Keyword Esac) = record { signs = []; tree = λ v. [] }
production CaseArms l = record { signs = Of OneArm ∷ Of CaseMore ∷ []; tree = λ v. v.0 ∷ v.1.0 }
production CaseMore DoubleSemi =
    record { signs = Is DoubleSemi ∷ Of Newlines ∷ Of CaseArms ∷ []; tree = λ v. v.1.1.0 }
production CaseMore l = record { signs = []; tree = λ v. [] }
production OneArm LeftParen = record { signs = Is LeftParen ∷ Of ArmRest ∷ []; tree = λ v. v.1.0 }
production OneArm l = record { signs = Of ArmRest ∷ []; tree = λ v. v.0 }
production ArmRest l =
    record { signs = Of Patterns ∷ Is RightParen ∷ Of Newlines ∷ Of ArmBody ∷ []; tree = λ v. case_arm v.0 v.1.1.1.0 }
production Patterns l = record { signs = AWord ∷ Of MorePatterns ∷ []; tree = λ v. v.0 ∷ v.1.0 }
production MorePatterns Bar = record { signs = Is Bar ∷ AWord ∷ Of MorePatterns ∷ []; tree = λ v. v.1.0 ∷ v.1.1.0 }
production MorePatterns l = record { signs = []; tree = λ v. [] }
production ArmBody l = production_arm_body (ends_arm l)
-- XCU 2.10.2 brace_group, function_definition, function_body, simple_command, redirect_list; 2.9.1 Simple Commands,
-- 2.9.4.1 Grouping Commands, 2.9.5 Function Definition Command; 2.4 for `{`, `}`
production Braces l =
    record { signs = Opens (Keyword Open) ∷ Inside Block ∷ Is (Keyword Close) ∷ []; tree = λ v. v.1.0 }
production Named LeftParen =
    record { signs = Is LeftParen ∷ Is RightParen ∷ Of Newlines ∷ Of Braces ∷ []; tree = λ v. Defines v.1.1.1.0 }
production Named l = record { signs = Of (SimpleItems true) ∷ []; tree = λ v. Continues v.0 }
production (SimpleItems behind_word) l = production_items behind_word (item behind_word l)
production Redirects l = production_redirects (redirection l)

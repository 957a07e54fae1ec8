-- What a script does: of each construct of the shell, from what its parts do (POSIX.1-2017, XCU 2.9 Shell Commands).
-- The rules are those of shell_rules, one for each construct.
use Rattle.std.specs.Prelude.{ℕ, nat_le, Bool, true, false, ◌&&◌, List, [], ◌∷◌, ◌++◌, map, Option, Some, None, codes}
use Rattle.std.specs.Prelude.{is_some, if◌then◌else◌}
use Rattle.std.specs.List.{list_any}
use Rattle.std.specs.Str.{bytes_eq}
use Rattle.script_names.specs.declared.mark.Mark.{Mark}
use Rattle.script_names.specs.declared.reason.Reason.TheVariants as reason
use Rattle.feature_trees.specs.declared.value.Value.{Value}
use Rattle.shell_words.specs.Pieces.{PieceParts}
use Rattle.shell_syntax.specs.declared.key.Key.{Key}
use Rattle.shell_syntax.specs.declared.key.Key.TheVariants as key
use Rattle.shell_syntax.specs.declared.redirect.Redirect.{Redirect}
use Rattle.shell_syntax.specs.declared.redirect.Redirect.TheVariants as redirect
use Rattle.shell_syntax.specs.declared.script.Script.{Script}
use Rattle.shell_syntax.specs.declared.syntax.Command.{Command}
use Rattle.shell_syntax.specs.declared.syntax.Part.{Part}
use Rattle.shell_syntax.specs.declared.syntax.Assign.{Assign}
use Rattle.shell_syntax.specs.declared.syntax.CaseArm.{CaseArm}
use Rattle.shell_syntax.specs.declared.syntax.IfArm.{IfArm}
use Rattle.shell_syntax.specs.declared.syntax.Link.{Link}
use Rattle.shell_syntax.specs.declared.syntax.Word.{Word}
use Rattle.shell_syntax.specs.declared.syntax.Command.TheOpen as o
use Rattle.shell_syntax.specs.declared.syntax.Command.TheFolds.{fold-Command, fold-Part, fold-Assign, fold-CaseArm}
use Rattle.shell_syntax.specs.declared.syntax.Command.TheFolds.{fold-IfArm, fold-Link, fold-Word}
use Rattle.shell_forms.specs.Words.{both_bytes}
use Rattle.shell_rules.specs.declared.state.Conc.{Conc}
use Rattle.shell_rules.specs.State.{Text, Doing, Action, Funs, Does, with, with_status}
use Rattle.shell_rules.specs.Expansion as word
use Rattle.shell_rules.specs.Commands as rule
use Rattle.shell_rules.specs.Loops as loops
use Rattle.shell_rules.specs.Cases as cases
use Rattle.shell_rules.specs.Calls as calls
use Rattle.shell_rules.specs.Whole.{Ended, whole_run}
use Rattle.shell_to_colis.specs.Members.{defined_by, members_of}

-- ---- what the parts of the syntax do, where functions are defined

-- What a part of a word does.
pub record PartDoes : Type 0 where
  -- the bytes that it stands for, quoted or not
  pub bytes : Option Text
  -- whether it is `"$@"`
  pub is_all : Bool
  -- its value
  pub value : Funs → Doing Text
  -- its value, as a piece of a word that is split into fields
  pub piece : Funs → Doing PieceParts

-- what a word does is said by its parts
abbrev pub WordDoes : Type 0
WordDoes = List PartDoes

-- what an assignment does: its name, and its value under the functions that are there
abbrev pub AssignDoes : Type 0
AssignDoes = Funs → Text × Doing Text

-- what an arm of `case` does: its patterns, and its body
abbrev pub CaseArmDoes : Type 0
CaseArmDoes = Funs → List (List (Doing PieceParts)) × Action

-- what an arm of `if` does: its condition, and its body
abbrev pub IfArmDoes : Type 0
IfArmDoes = Funs → Action × Action

-- what a further pipeline of an and-or list does: whether it stands behind `&&`, and the pipeline
abbrev pub LinkDoes : Type 0
LinkDoes = Funs → Bool × Action

-- ---- words (XCU 2.6 Word Expansions)

-- the bytes of a word without any expansion in it; such a word is static
abbrev pub static : WordDoes → Option Text
static [] = Some []
static (part ∷ parts) = both_bytes part.bytes (static parts)

-- whether a word is static: it is of plain and quoted parts alone
abbrev pub is_static : WordDoes → Bool
is_static parts = is_some (static parts)

-- the pieces of a word; of a pattern too
abbrev pub pieces : WordDoes → Funs → List (Doing PieceParts)
pieces parts f = map (λ (part : PartDoes). part.piece f) parts

-- a word that is not split: a value that is assigned, the word of a `case`
abbrev pub joined : WordDoes → Funs → Doing Text
joined parts f = word.do_join (map (λ (part : PartDoes). part.value f) parts)

-- whether a word is `"$@"` and nothing else
abbrev pub is_arguments : WordDoes → Bool
is_arguments [] = false
is_arguments (part ∷ []) = part.is_all
is_arguments (part ∷ other ∷ parts) = false

-- the fields of a word (XCU 2.6.5 Field Splitting); `"$@"` gives all arguments (XCU 2.5.2 Special Parameters)
abbrev pub fields_of : WordDoes → Funs → Doing (List Text)
fields_of parts f = if is_arguments parts then word.do_arguments else word.do_word (pieces parts f)

-- the fields of words
abbrev pub fields : List WordDoes → Funs → List (Doing (List Text))
fields words f = map (λ parts. fields_of parts f) words

-- the value of a parameter (XCU 2.5.1 Positional Parameters, 2.5.2, 2.5.3); arguments have the numbers 1 to 9, and
-- another number is read nowhere
abbrev pub is_digit : ℕ → Bool
is_digit number = nat_le 1 number && nat_le number 9

-- the value of a parameter (XCU 2.5 Parameters and Variables)
abbrev pub parameter : Key → Doing Text
parameter (key.Named name) = word.do_variable name
parameter (key.Arg number) = if is_digit number then word.do_argument number else word.do_join []
parameter key.Count = word.do_count

-- the value, or its default where it is empty (XCU 2.6.2 Parameter Expansion)
abbrev pub or_default : Option Text → Doing Text → Doing Text
or_default None value = value
or_default (Some bytes) value = word.do_default value bytes

-- an expansion inside of double quotes is quoted, another one is split
abbrev pub expanded : Bool → Doing Text → Doing PieceParts
expanded quoted value = if quoted then word.do_quoted value else word.do_split value

-- ---- simple commands (XCU 2.9.1 Simple Commands)

-- assignments alone; a command of redirections alone has none, and succeeds
abbrev pub assigns_alone : ℕ → List (Text × Doing Text) → Action
assigns_alone at [] = rule.do_skip
assigns_alone at (assign ∷ assigns) = calls.do_set at (assign ∷ assigns)

-- `set -e` and `set +e`, by the static operand
abbrev pub set_static : Option Text → Action
set_static None = rule.do_lax
set_static (Some flag) = if bytes_eq flag (codes "-e") then rule.do_strict else rule.do_lax

-- `set` has the one operand `-e` or `+e` (XCU 2.14 set)
abbrev pub set_flag : List WordDoes → Action
set_flag [] = rule.do_lax
set_flag (operand ∷ operands) = set_static (static operand)

-- A command that calls no function of the script: its fields come to a call, and it matters to that which of its words
-- are static.
abbrev pub utility : ℕ → List WordDoes → Does
utility at words f = calls.do_call at (map is_static words) (fields words f)

-- a function that is defined before the command is called with the operands; else the name is that of a utility, where
-- the script defines a function of it behind the command too (XCU 2.9.1.1 Command Search and Execution)
abbrev pub called : ℕ → Option Action → WordDoes → List WordDoes → Does
called at None first operands f = utility at (first ∷ operands) f
called at (Some body) first operands f = calls.do_function at (Some body) (fields operands f)

-- a command with a static name: a special built-in (XCU 2.14), a function, or a utility
abbrev pub named : ℕ → Text → WordDoes → List WordDoes → Does
named at name first operands f =
    if bytes_eq name (codes "set") then set_flag operands
    else (if bytes_eq name (codes "exit") then calls.do_exit at (fields operands f)
    else (if bytes_eq name (codes "return") then calls.do_return at (fields operands f)
    else (if bytes_eq name (codes "break") then loops.do_break
    else (if bytes_eq name (codes "continue") then loops.do_continue
    else (if bytes_eq name (codes "export") then calls.do_export at (fields operands f)
    else (if bytes_eq name (codes "unset") then calls.do_unset at (fields operands f)
    else called at (calls.found name f) first operands f))))))

-- a command by the static text of its first word; a computed name calls no function, and one that is a function's stops
-- the run
abbrev pub command_named : ℕ → Option Text → WordDoes → List WordDoes → Does
command_named at None first operands f = utility at (first ∷ operands) f
command_named at (Some name) first operands f = named at name first operands f

-- a simple command; assignments before a command's name are dropped
abbrev pub simple : ℕ → List AssignDoes → List WordDoes → Does
simple at assigns [] f = assigns_alone at (with f assigns)
simple at assigns (first ∷ operands) f = command_named at (static first) first operands f

-- ---- redirections (XCU 2.7 Redirection)

-- a command under one redirection
abbrev pub under : ℕ → Redirect → Action → Action
under at redirect.OutNull body = rule.do_quiet body
under at redirect.OutToErr body = rule.do_quiet body
under at redirect.ErrToOut body = rule.do_error_joined at body
under at redirect.ErrNull body = body
under at redirect.InNull body = body

-- a command under redirections, which are done from left to right
abbrev pub redirected : ℕ → List Redirect → Action → Action
redirected at [] body = body
redirected at (first ∷ redirects) body = under at first (redirected at redirects body)

-- ---- compound commands (XCU 2.9.4 Compound Commands)

-- the branch behind `else`; without it nothing is done, with success
abbrev pub otherwise_does : Option Does → Does
otherwise_does None f = rule.do_skip
otherwise_does (Some body) f = body f

-- what a `for` goes over: its words, or all arguments
abbrev pub list_does : Option (List WordDoes) → Funs → List (Doing (List Text))
list_does None f = word.do_arguments ∷ []
list_does (Some words) f = fields words f

-- a command that begins with a failure
abbrev pub failed_before : Action → Action
failed_before body p s = body p (with_status false s)

-- `until` is a loop while its condition fails; its body begins with the status of the condition, a failure
-- (XCU 2.9.4.6 The until Loop)
abbrev pub loop : ℕ → Bool → Action → Action → Action
loop at until condition body =
    if until then loops.do_while at (rule.do_not condition) (failed_before body) else loops.do_while at condition body

-- ---- the syntax, layer by layer

-- a command
abbrev pub command_layer :
    o.Command-F Does PartDoes AssignDoes CaseArmDoes IfArmDoes LinkDoes WordDoes → Does
command_layer (o.Simple at assigns words) f = simple at assigns words f
command_layer (o.Redirected at body redirects) f = redirected at redirects (body f)
-- what is piped has no meaning here
command_layer (o.Pipe at parts) f = rule.do_stop at reason.Pipe
command_layer (o.Not at body) f = rule.do_not (body f)
command_layer (o.Chain first rest) f = rule.do_chain (first f) (with f rest)
command_layer (o.Seq parts) f = rule.do_all (with f parts)
command_layer (o.If at arms otherwise) f = rule.do_if (with f arms) (otherwise_does otherwise f)
command_layer (o.For at name words body) f = loops.do_for at name (list_does words f) (body f)
command_layer (o.While at until condition body) f = loop at until (condition f) (body f)
command_layer (o.Case at subject arms) f = cases.do_case at (joined subject f) (with f arms)
command_layer (o.Sub at body) f = rule.do_subshell at (body f)
-- a definition succeeds (XCU 2.9.5 Function Definition Command)
command_layer (o.Define at name body) f = rule.do_skip

-- a part of a word; `"$@"` stands alone in its word, elsewhere it has no bytes
abbrev pub part_layer : o.Part-F Does PartDoes AssignDoes CaseArmDoes IfArmDoes LinkDoes WordDoes → PartDoes
part_layer (o.Plain bytes) = record {
  bytes = Some bytes;
  is_all = false;
  value = λ f. word.do_literal bytes;
  piece = λ f. word.do_plain (word.do_literal bytes);
}
part_layer (o.Quoted bytes) = record {
  bytes = Some bytes;
  is_all = false;
  value = λ f. word.do_literal bytes;
  piece = λ f. word.do_quoted (word.do_literal bytes);
}
part_layer (o.Param key default quoted) = record {
  bytes = None;
  is_all = false;
  value = λ f. or_default default (parameter key);
  piece = λ f. expanded quoted (or_default default (parameter key));
}
part_layer o.All = record {
  bytes = None;
  is_all = true;
  value = λ f. word.do_join [];
  piece = λ f. word.do_quoted (word.do_join []);
}
part_layer (o.Run at body quoted) = record {
  bytes = None;
  is_all = false;
  value = λ f. word.do_output (body f);
  piece = λ f. expanded quoted (word.do_output (body f));
}

-- an assignment
abbrev pub assign_layer : o.Assign-F Does PartDoes AssignDoes CaseArmDoes IfArmDoes LinkDoes WordDoes → AssignDoes
assign_layer assign f = (assign.name, joined assign.value f)

-- the patterns and the body of an arm of `case`
abbrev pub case_arm_layer :
    o.CaseArm-F Does PartDoes AssignDoes CaseArmDoes IfArmDoes LinkDoes WordDoes → CaseArmDoes
case_arm_layer arm f = (map (λ pattern. pieces pattern f) arm.patterns, arm.body f)

-- the condition and the body of an arm of `if`
abbrev pub if_arm_layer : o.IfArm-F Does PartDoes AssignDoes CaseArmDoes IfArmDoes LinkDoes WordDoes → IfArmDoes
if_arm_layer arm f = (arm.cond f, arm.body f)

-- a command behind `&&` or `||`
abbrev pub link_layer : o.Link-F Does PartDoes AssignDoes CaseArmDoes IfArmDoes LinkDoes WordDoes → LinkDoes
link_layer link f = (link.and, link.command f)

-- a word
abbrev pub word_layer : o.Word-F Does PartDoes AssignDoes CaseArmDoes IfArmDoes LinkDoes WordDoes → WordDoes
word_layer word = word.parts

-- ---- the whole syntax

-- what a command does
abbrev pub sh : Command → Does
sh =
    fold-Command Does PartDoes AssignDoes CaseArmDoes IfArmDoes LinkDoes WordDoes
    command_layer part_layer assign_layer case_arm_layer if_arm_layer link_layer word_layer

-- a part of a word
abbrev pub sh_part : Part → PartDoes
sh_part =
    fold-Part Does PartDoes AssignDoes CaseArmDoes IfArmDoes LinkDoes WordDoes
    command_layer part_layer assign_layer case_arm_layer if_arm_layer link_layer word_layer

-- an assignment
abbrev pub sh_assign : Assign → AssignDoes
sh_assign =
    fold-Assign Does PartDoes AssignDoes CaseArmDoes IfArmDoes LinkDoes WordDoes
    command_layer part_layer assign_layer case_arm_layer if_arm_layer link_layer word_layer

-- an arm of `case`
abbrev pub sh_case_arm : CaseArm → CaseArmDoes
sh_case_arm =
    fold-CaseArm Does PartDoes AssignDoes CaseArmDoes IfArmDoes LinkDoes WordDoes
    command_layer part_layer assign_layer case_arm_layer if_arm_layer link_layer word_layer

-- an arm of `if`
abbrev pub sh_if_arm : IfArm → IfArmDoes
sh_if_arm =
    fold-IfArm Does PartDoes AssignDoes CaseArmDoes IfArmDoes LinkDoes WordDoes
    command_layer part_layer assign_layer case_arm_layer if_arm_layer link_layer word_layer

-- a command behind `&&` or `||`
abbrev pub sh_link : Link → LinkDoes
sh_link =
    fold-Link Does PartDoes AssignDoes CaseArmDoes IfArmDoes LinkDoes WordDoes
    command_layer part_layer assign_layer case_arm_layer if_arm_layer link_layer word_layer

-- a word
abbrev pub sh_word : Word → WordDoes
sh_word =
    fold-Word Does PartDoes AssignDoes CaseArmDoes IfArmDoes LinkDoes WordDoes
    command_layer part_layer assign_layer case_arm_layer if_arm_layer link_layer word_layer

-- ---- scripts

-- one more function, over those before it; of one name the first definition counts, and an accepted script has no
-- other
abbrev pub one_more : Option Action → Text × Command → Funs → Funs
one_more None defined f = (defined.0, sh defined.1 f) ∷ f
one_more (Some body) defined f = f

-- the functions behind a member of the script's list
abbrev pub funs_with : Option (Text × Command) → Funs → Funs
funs_with None f = f
funs_with (Some defined) f = one_more (calls.found defined.0 f) defined f

-- what the members of the script's list do, each with the functions that are defined before it
abbrev pub members_do : List Command → Funs → List Action
members_do [] f = []
members_do (member ∷ members) f = sh member f ∷ members_do members (funs_with (defined_by member) f)

-- whether a name is one of these
abbrev pub is_one_of : Text → List Text → Bool
is_one_of name names = list_any (λ other. bytes_eq other name) names

-- a name behind those before it
abbrev pub names_with : Option (Text × Command) → List Text → List Text
names_with None names = names
names_with (Some defined) names = if is_one_of defined.0 names then names else names ++ defined.0 ∷ []

-- the names of the functions that members define, in the order of the text
abbrev pub names_behind : List Command → List Text → List Text
names_behind [] names = names
names_behind (member ∷ members) names = names_behind members (names_with (defined_by member) names)

-- what a script does in a step, from a state of the shell, a tree and a trace
abbrev pub sh_script : Script → ℕ → Conc → Value → List Mark → Ended
sh_script script step conc tree trace =
    whole_run (rule.do_all (members_do (members_of script.body) [])) step (names_behind (members_of script.body) [])
    conc tree trace

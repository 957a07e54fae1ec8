-- The CoLiS program of a script, construct by construct. What a command becomes depends on the functions that are
-- defined before it, so each part of the syntax is a function of these.
use Rattle.std.specs.Prelude.{ℕ, Bool, true, false, List, [], ◌∷◌, ◌++◌, map, Option, Some, None, codes}
use Rattle.std.specs.Prelude.{if◌then◌else◌}
use Rattle.std.specs.List.{flat_map}
use Rattle.std.specs.Str.{bytes_eq}
use Rattle.script_names.specs.declared.reason.Reason.TheVariants as reason
use Rattle.shell_syntax.specs.declared.key.Key.{Key}
use Rattle.shell_syntax.specs.declared.key.Key.TheVariants as key
use Rattle.shell_syntax.specs.declared.redirect.Redirect.{Redirect}
use Rattle.shell_syntax.specs.declared.redirect.Redirect.TheVariants as redirect
use Rattle.shell_syntax.specs.declared.script.Script.{Script}
use Rattle.shell_syntax.specs.declared.syntax.Command.{Command}
use Rattle.shell_syntax.specs.declared.syntax.Part.{Part}
use Rattle.shell_syntax.specs.declared.syntax.Assign.{Assign}
use Rattle.shell_syntax.specs.declared.syntax.CaseArm.{CaseArm}
use Rattle.shell_syntax.specs.declared.syntax.IfArm.{IfArm}
use Rattle.shell_syntax.specs.declared.syntax.Link.{Link}
use Rattle.shell_syntax.specs.declared.syntax.Word.{Word}
use Rattle.shell_syntax.specs.declared.syntax.Command.TheOpen as o
use Rattle.shell_syntax.specs.declared.syntax.Command.TheFolds.{fold-Command, fold-Part, fold-Assign, fold-CaseArm}
use Rattle.shell_syntax.specs.declared.syntax.Command.TheFolds.{fold-IfArm, fold-Link, fold-Word}
use Rattle.shell_forms.specs.Names.{Text}
use Rattle.shell_forms.specs.Words.{both_bytes}
use Rattle.shell_forms.specs.Seen.{static_of}
use Rattle.colis_syntax.specs.declared.syntax.Stmt.{Stmt}
use Rattle.colis_syntax.specs.declared.syntax.Stmt.TheVariants as stmt
use Rattle.colis_syntax.specs.declared.syntax.Str.{Str}
use Rattle.colis_syntax.specs.declared.syntax.Str.TheVariants as string
use Rattle.colis_syntax.specs.declared.syntax.StrPiece.{StrPiece}
use Rattle.colis_syntax.specs.declared.syntax.StrPiece.TheVariants as piece
use Rattle.colis_syntax.specs.declared.syntax.Fields.{Fields}
use Rattle.colis_syntax.specs.declared.syntax.Fields.TheVariants as fields
use Rattle.colis_syntax.specs.declared.syntax.SetTo.{SetTo, roll-SetTo}
use Rattle.colis_syntax.specs.declared.syntax.ChainPart.{ChainPart, roll-ChainPart}
use Rattle.colis_syntax.specs.declared.syntax.StmtArm.{StmtArm, roll-StmtArm}
use Rattle.colis_syntax.specs.declared.syntax.PatArm.{PatArm, roll-PatArm}
use Rattle.colis_syntax.specs.declared.def.Def.{Def}
use Rattle.colis_syntax.specs.WellFormed.{ProgramParts, is_def, is_argument}
use Rattle.shell_to_colis.specs.Members.{defined_by, members_of}
use Rattle.shell_to_colis.specs.declared.kinds.Kind.{Kind}
use Rattle.shell_to_colis.specs.declared.kinds.Kind.TheVariants as kind
use Rattle.shell_to_colis.specs.declared.words.Quoting.{Quoting}
use Rattle.shell_to_colis.specs.declared.words.Quoting.TheVariants as quoting

-- ---- what the parts of the syntax become

-- what becomes of a part of the syntax, by the functions that are defined before it
abbrev pub To : Type 0 → Type 0
To A = List Def → A

-- what becomes of each, in order
abbrev pub each : {A : Type 0} → List (To A) → List Def → List A
each parts defs = map (λ part. part defs) parts

-- what becomes of a part of a word
pub record PartTo : Type 0 where
  -- the bytes that it stands for, quoted or not
  pub bytes : Option Text
  -- whether it is `"$@"`
  pub is_all : Bool
  -- how it stands in its word
  pub quoting : Quoting
  -- its string
  pub value : To Str

-- what becomes of a word is said by its parts
abbrev pub WordTo : Type 0
WordTo = List PartTo

-- ---- words

-- the bytes of a word without any expansion in it; such a word is static
abbrev pub static : WordTo → Option Text
static [] = Some []
static (part ∷ parts) = both_bytes part.bytes (static parts)

-- the same, read off its syntax
abbrev pub static_word : Word → Option Text
static_word word = static_of word.parts

-- a string, as it stands in a word
abbrev pub piece_of : Quoting → Str → StrPiece
piece_of quoting.Plain value = piece.Plain value
piece_of quoting.Quoted value = piece.Quoted value
piece_of quoting.Split value = piece.Split value

-- a part of a word, as a piece
abbrev pub piece_to : PartTo → To StrPiece
piece_to part defs = piece_of part.quoting (part.value defs)

-- the pieces of a word; of a pattern too
abbrev pub pieces_to : WordTo → To (List StrPiece)
pieces_to word defs = map (λ part. piece_to part defs) word

-- a word that is not split, as one string: a value that is assigned, the word of a `case`
abbrev pub joined_to : WordTo → To Str
joined_to word defs = string.Join (map (λ (part : PartTo). part.value defs) word)

-- whether a word is `"$@"` and nothing else
abbrev pub is_all_alone : WordTo → Bool
is_all_alone [] = false
is_all_alone (part ∷ []) = part.is_all
is_all_alone (part ∷ other ∷ parts) = false

-- a word that is split into fields: `"$@"` gives all arguments
abbrev pub field_to : WordTo → To Fields
field_to word defs = if is_all_alone word then fields.Args else fields.Word (pieces_to word defs)

-- words that are split into fields
abbrev pub fields_to : List WordTo → To (List Fields)
fields_to words defs = map (λ word. field_to word defs) words

-- all but the first
abbrev pub rest_of : {A : Type 0} → List A → List A
rest_of [] = []
rest_of (x ∷ xs) = xs

-- ---- expansions

-- a parameter; the lexer reads no argument's number but 1 to 9, and another has no bytes
abbrev pub parameter_to : Key → Str
parameter_to (key.Named name) = string.Var name
parameter_to (key.Arg number) = if is_argument number then string.Arg number else string.Join []
parameter_to key.Count = string.Count

-- a parameter with its default, if it has one
abbrev pub default_to : Option Text → Str → Str
default_to None value = value
default_to (Some bytes) value = string.Or value bytes

-- an expansion is quoted, or split
abbrev pub expansion : Bool → Quoting
expansion quoted = if quoted then quoting.Quoted else quoting.Split

-- ---- simple commands

-- `set` has the one operand `-e` or `+e`
abbrev pub flag_kind : List (Option Text) → Kind
flag_kind [] = kind.Lax
flag_kind (None ∷ operands) = kind.Lax
flag_kind (Some flag ∷ operands) = if bytes_eq flag (codes "-e") then kind.Strict else kind.Lax

-- a name that no special built-in has: a function that is defined before the command, else a utility
abbrev pub called_kind : Text → List Def → Kind
called_kind name defs = if is_def name defs then kind.Function name else kind.Utility

-- the special built-ins on variables; `:` is a utility like any other
abbrev pub variable_kind : Text → List Def → Kind
variable_kind name defs =
    if bytes_eq name (codes "export") then kind.Export
    else (if bytes_eq name (codes "unset") then kind.Unset
    else called_kind name defs)

-- the special built-ins that leave something
abbrev pub leaving_kind : Text → List Def → Kind
leaving_kind name defs =
    if bytes_eq name (codes "exit") then kind.Exit
    else (if bytes_eq name (codes "return") then kind.Return
    else (if bytes_eq name (codes "break") then kind.Break
    else (if bytes_eq name (codes "continue") then kind.Continue
    else variable_kind name defs)))

-- a command with this static name, and these static operands
abbrev pub named_kind : Text → List (Option Text) → List Def → Kind
named_kind name operands defs =
    if bytes_eq name (codes "set") then flag_kind operands else leaving_kind name defs

-- which statement a simple command becomes, by its static words
abbrev pub kind_of : List (Option Text) → List Def → Kind
-- no word at all
kind_of [] defs = kind.Assignments
-- a computed name calls no function
kind_of (None ∷ operands) defs = kind.Utility
kind_of (Some name ∷ operands) defs = named_kind name operands defs

-- assignments alone; a command of redirections alone has none, and succeeds
abbrev pub assigned_to : ℕ → List SetTo → Stmt
assigned_to at [] = stmt.Skip
assigned_to at (set ∷ sets) = stmt.Set at (set ∷ sets)

-- a simple command of a kind; assignments before a command's name are dropped
abbrev pub simple_to : ℕ → Kind → List (To SetTo) → List WordTo → To Stmt
simple_to at kind.Assignments assigns words defs = assigned_to at (each assigns defs)
simple_to at kind.Strict assigns words defs = stmt.Strict
simple_to at kind.Lax assigns words defs = stmt.Lax
simple_to at kind.Exit assigns words defs = stmt.Exit at (rest_of (fields_to words defs))
simple_to at kind.Return assigns words defs = stmt.Return at (rest_of (fields_to words defs))
simple_to at kind.Break assigns words defs = stmt.Break
simple_to at kind.Continue assigns words defs = stmt.Continue
simple_to at kind.Export assigns words defs = stmt.Export at (rest_of (fields_to words defs))
simple_to at kind.Unset assigns words defs = stmt.Unset at (rest_of (fields_to words defs))
simple_to at (kind.Function name) assigns words defs = stmt.Fun at name (rest_of (fields_to words defs))
simple_to at kind.Utility assigns words defs = stmt.Call at (fields_to words defs)

-- ---- redirections

-- a statement under one redirection: output goes nowhere, or where standard error goes, and is taken away in both
-- cases; standard error goes where output goes; the others change nothing
abbrev pub redirect_to : ℕ → Redirect → Stmt → Stmt
redirect_to at redirect.OutNull body = stmt.Quiet body
redirect_to at redirect.OutToErr body = stmt.Quiet body
redirect_to at redirect.ErrToOut body = stmt.Err at body
redirect_to at redirect.ErrNull body = body
redirect_to at redirect.InNull body = body

-- a statement under redirections: the first is outside, the last inside
abbrev pub redirected_to : ℕ → List Redirect → Stmt → Stmt
redirected_to at [] body = body
redirected_to at (first ∷ redirects) body = redirect_to at first (redirected_to at redirects body)

-- ---- compound commands

-- statements one after another; none at all succeed
abbrev pub seq_to : List Stmt → Stmt
seq_to [] = stmt.Skip
seq_to (only ∷ []) = only
seq_to (first ∷ next ∷ others) = stmt.Seq (first ∷ next ∷ others)

-- an and-or list
abbrev pub chain_to : Stmt → List ChainPart → Stmt
chain_to first [] = first
chain_to first (next ∷ others) = stmt.Chain first (next ∷ others)

-- arms of `if`, and what is run where none is taken
abbrev pub if_to : List StmtArm → Stmt → Stmt
if_to [] last = last
if_to (arm ∷ arms) last = stmt.If (arm ∷ arms) last

-- without `else` nothing is run, and that succeeds
abbrev pub otherwise_to : Option (To Stmt) → To Stmt
otherwise_to None defs = stmt.Skip
otherwise_to (Some body) defs = body defs

-- what a `for` goes over: its words, or all arguments
abbrev pub list_to : Option (List WordTo) → To (List Fields)
list_to None defs = fields.Args ∷ []
list_to (Some words) defs = fields_to words defs

-- the condition of `until` is negated
abbrev pub condition_to : Bool → Stmt → Stmt
condition_to until cond = if until then stmt.Not cond else cond

-- the body of `until` begins with the status that its condition left, which is a failure
abbrev pub body_to : Bool → Stmt → Stmt
body_to until body = if until then stmt.Seq (stmt.Not stmt.Skip ∷ body ∷ []) else body

-- ---- the syntax, layer by layer

-- a command, from what its parts become
abbrev pub command_layer :
    o.Command-F (To Stmt) PartTo (To SetTo) (To (List PatArm)) (To StmtArm) (To ChainPart) WordTo → To Stmt
command_layer (o.Simple at assigns words) defs = simple_to at (kind_of (map static words) defs) assigns words defs
command_layer (o.Redirected at body redirects) defs = redirected_to at redirects (body defs)
-- a pipeline has no meaning here
command_layer (o.Pipe at parts) defs = stmt.Stop at reason.Pipe
command_layer (o.Not at body) defs = stmt.Not (body defs)
command_layer (o.Chain first rest) defs = chain_to (first defs) (each rest defs)
command_layer (o.Seq parts) defs = seq_to (each parts defs)
command_layer (o.If at arms otherwise) defs = if_to (each arms defs) (otherwise_to otherwise defs)
command_layer (o.For at name words body) defs = stmt.For at name (list_to words defs) (body defs)
command_layer (o.While at until cond body) defs =
    stmt.While at (condition_to until (cond defs)) (body_to until (body defs))
command_layer (o.Case at subject arms) defs = stmt.Case at (joined_to subject defs) (flat_map (λ arm. arm defs) arms)
command_layer (o.Sub at body) defs = stmt.Sub at (body defs)
-- a definition does nothing where it stands
command_layer (o.Define at name body) defs = stmt.Skip

-- a part of a word; `"$@"` stands alone in its word, elsewhere it has no bytes
abbrev pub part_layer :
    o.Part-F (To Stmt) PartTo (To SetTo) (To (List PatArm)) (To StmtArm) (To ChainPart) WordTo → PartTo
part_layer (o.Plain bytes) =
    record { bytes = Some bytes; is_all = false; quoting = quoting.Plain; value = λ defs. string.Lit bytes }
part_layer (o.Quoted bytes) =
    record { bytes = Some bytes; is_all = false; quoting = quoting.Quoted; value = λ defs. string.Lit bytes }
part_layer (o.Param key default quoted) = record {
  bytes = None;
  is_all = false;
  quoting = expansion quoted;
  value = λ defs. default_to default (parameter_to key);
}
part_layer o.All = record { bytes = None; is_all = true; quoting = quoting.Quoted; value = λ defs. string.Join [] }
part_layer (o.Run at body quoted) =
    record { bytes = None; is_all = false; quoting = expansion quoted; value = λ defs. string.Output (body defs) }

-- an assignment
abbrev pub assign_layer :
    o.Assign-F (To Stmt) PartTo (To SetTo) (To (List PatArm)) (To StmtArm) (To ChainPart) WordTo → To SetTo
assign_layer assign defs = roll-SetTo (record { name = assign.name; value = joined_to assign.value defs })

-- an arm of `case`; without a pattern it is never taken
abbrev pub arm_of : List WordTo → Stmt → To (List PatArm)
arm_of [] body defs = []
arm_of (pattern ∷ patterns) body defs =
    roll-PatArm (record { patterns = map (λ word. pieces_to word defs) (pattern ∷ patterns); body = body }) ∷ []

-- an arm of `case`, by its patterns and its body
abbrev pub case_arm_layer :
    o.CaseArm-F (To Stmt) PartTo (To SetTo) (To (List PatArm)) (To StmtArm) (To ChainPart) WordTo → To (List PatArm)
case_arm_layer arm defs = arm_of arm.patterns (arm.body defs) defs

-- an arm of `if`
abbrev pub if_arm_layer :
    o.IfArm-F (To Stmt) PartTo (To SetTo) (To (List PatArm)) (To StmtArm) (To ChainPart) WordTo → To StmtArm
if_arm_layer arm defs = roll-StmtArm (record { cond = arm.cond defs; body = arm.body defs })

-- a command behind `&&` or `||`
abbrev pub link_layer :
    o.Link-F (To Stmt) PartTo (To SetTo) (To (List PatArm)) (To StmtArm) (To ChainPart) WordTo → To ChainPart
link_layer link defs = roll-ChainPart (record { and = link.and; stmt = link.command defs })

-- a word
abbrev pub word_layer :
    o.Word-F (To Stmt) PartTo (To SetTo) (To (List PatArm)) (To StmtArm) (To ChainPart) WordTo → WordTo
word_layer word = word.parts

-- ---- the whole syntax

-- the statement of a command
abbrev pub translated : Command → To Stmt
translated =
    fold-Command (To Stmt) PartTo (To SetTo) (To (List PatArm)) (To StmtArm) (To ChainPart) WordTo
    command_layer part_layer assign_layer case_arm_layer if_arm_layer link_layer word_layer

-- what becomes of a part of a word
abbrev pub part_to : Part → PartTo
part_to =
    fold-Part (To Stmt) PartTo (To SetTo) (To (List PatArm)) (To StmtArm) (To ChainPart) WordTo
    command_layer part_layer assign_layer case_arm_layer if_arm_layer link_layer word_layer

-- of an assignment
abbrev pub assign_to : Assign → To SetTo
assign_to =
    fold-Assign (To Stmt) PartTo (To SetTo) (To (List PatArm)) (To StmtArm) (To ChainPart) WordTo
    command_layer part_layer assign_layer case_arm_layer if_arm_layer link_layer word_layer

-- of an arm of `case`
abbrev pub case_arm_to : CaseArm → To (List PatArm)
case_arm_to =
    fold-CaseArm (To Stmt) PartTo (To SetTo) (To (List PatArm)) (To StmtArm) (To ChainPart) WordTo
    command_layer part_layer assign_layer case_arm_layer if_arm_layer link_layer word_layer

-- of an arm of `if`
abbrev pub if_arm_to : IfArm → To StmtArm
if_arm_to =
    fold-IfArm (To Stmt) PartTo (To SetTo) (To (List PatArm)) (To StmtArm) (To ChainPart) WordTo
    command_layer part_layer assign_layer case_arm_layer if_arm_layer link_layer word_layer

-- of a command behind `&&` or `||`
abbrev pub link_to : Link → To ChainPart
link_to =
    fold-Link (To Stmt) PartTo (To SetTo) (To (List PatArm)) (To StmtArm) (To ChainPart) WordTo
    command_layer part_layer assign_layer case_arm_layer if_arm_layer link_layer word_layer

-- of a word
abbrev pub word_to : Word → WordTo
word_to =
    fold-Word (To Stmt) PartTo (To SetTo) (To (List PatArm)) (To StmtArm) (To ChainPart) WordTo
    command_layer part_layer assign_layer case_arm_layer if_arm_layer link_layer word_layer

-- ---- a script

-- the function that stands behind those before it; of one name the first definition counts, and an accepted script
-- has no other
abbrev pub def_to : Option (Text × Command) → List Def → List Def
def_to None defs = []
def_to (Some defined) defs =
    if is_def defined.0 defs then [] else record { name = defined.0; body = translated defined.1 defs } ∷ []

-- what is there, as a list
abbrev pub of_option : {A : Type 0} → Option A → List A
of_option None = []
of_option (Some x) = x ∷ []

-- the functions behind a member of the script's list
abbrev pub defs_behind : Command → List Def → List Def
defs_behind member defs = defs ++ def_to (defined_by member) defs

-- the functions behind members, where these stand before them
abbrev pub defs_to : List Command → List Def → List Def
defs_to [] defs = defs
defs_to (member ∷ members) defs = defs_to members (defs_behind member defs)

-- the statements of members
abbrev pub body_statements : List Command → List Def → List Stmt
body_statements [] defs = []
body_statements (member ∷ members) defs = translated member defs ∷ body_statements members (defs_behind member defs)

-- the program of a script: its functions in the order of the text, and what its members do
abbrev pub program_of : Script → ProgramParts
program_of script = record {
  strict = script.strict;
  defs = defs_to (members_of script.body) [];
  body = seq_to (body_statements (members_of script.body) []);
}

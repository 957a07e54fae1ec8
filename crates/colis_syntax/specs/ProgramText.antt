-- The text of a program: one line, in which a construct stands in parentheses, its members behind one space each.
use Rattle.std.specs.Prelude.{ℕ, Bool, true, false, List, [], ◌∷◌, ◌++◌, map, codes}
use Rattle.std.specs.List.{flat_map}
use Rattle.std.specs.Fmt.{decimal}
use Rattle.script_names.specs.Ascii.{space}
use Rattle.script_names.specs.declared.reason.Reason.{Reason}
use Rattle.shown_texts.specs.Show.{show}
use Rattle.shown_texts.specs.Marks.{reason_name}
use Rattle.colis_syntax.specs.declared.syntax.Stmt.{Stmt}
use Rattle.colis_syntax.specs.declared.syntax.Str.{Str}
use Rattle.colis_syntax.specs.declared.syntax.StrPiece.{StrPiece}
use Rattle.colis_syntax.specs.declared.syntax.Fields.{Fields}
use Rattle.colis_syntax.specs.declared.syntax.SetTo.{SetTo}
use Rattle.colis_syntax.specs.declared.syntax.ChainPart.{ChainPart}
use Rattle.colis_syntax.specs.declared.syntax.StmtArm.{StmtArm}
use Rattle.colis_syntax.specs.declared.syntax.PatArm.{PatArm}
use Rattle.colis_syntax.specs.declared.def.Def.{Def}
use Rattle.colis_syntax.specs.declared.syntax.Fields.TheOpen as o
use Rattle.colis_syntax.specs.declared.syntax.Fields.TheFolds.{fold-Stmt, fold-Str, fold-StrPiece, fold-Fields}
use Rattle.colis_syntax.specs.declared.syntax.Fields.TheFolds.{fold-SetTo, fold-ChainPart, fold-StmtArm, fold-PatArm}
use Rattle.colis_syntax.specs.WellFormed.{ProgramParts}

-- a string of bytes
abbrev pub Text : Type 0
Text = List ℕ

-- ---- members behind spaces

-- a text behind a space
abbrev pub spaced : Text → Text
spaced text = space ∷ text

-- texts, each behind a space
abbrev pub each_spaced : List Text → Text
each_spaced texts = flat_map spaced texts

-- texts of what is given, with a space between each two
abbrev pub between : {A : Type 0} → (A → Text) → List A → Text
between text [] = []
between text (x ∷ xs) = text x ++ flat_map (λ y. spaced (text y)) xs

-- ---- constructs, from the texts of what they are made of

-- what has members, each behind a space: `head` is its parenthesis and its name
unfoldable pub group : Text → Text → Text
group head members = head ++ members ++ codes ")"

-- what has an offset and members
unfoldable pub at_group : Text → ℕ → Text → Text
at_group head at members = head ++ codes " " ++ decimal at ++ members ++ codes ")"

-- what has one member
unfoldable pub one_text : Text → Text → Text
one_text head member = head ++ codes " " ++ member ++ codes ")"

-- what has an offset and one member
unfoldable pub at_text : Text → ℕ → Text → Text
at_text head at member = head ++ codes " " ++ decimal at ++ codes " " ++ member ++ codes ")"

-- a string of bytes
unfoldable pub lit_text : Text → Text
lit_text bytes = codes "=" ++ show bytes

-- the value of a variable
unfoldable pub var_text : Text → Text
var_text name = codes "(var " ++ show name ++ codes ")"

-- an argument, by its number
unfoldable pub arg_text : ℕ → Text
arg_text number = codes "(arg " ++ decimal number ++ codes ")"

-- a string, or other bytes where it has none
unfoldable pub or_text : Text → Text → Text
or_text first other = codes "(or " ++ first ++ codes " " ++ show other ++ codes ")"

-- a call of a function: its offset, its name, and its arguments
unfoldable pub fun_text : ℕ → Text → Text → Text
fun_text at name fields =
    codes "(fun " ++ decimal at ++ codes " " ++ show name ++ fields ++ codes ")"

-- an and-or list: its first member and the others
unfoldable pub chain_text : Text → Text → Text
chain_text first rest = codes "(chain " ++ first ++ rest ++ codes ")"

-- an `if`: its arms, and what is run where none holds
unfoldable pub if_text : Text → Text → Text
if_text arms last = codes "(if" ++ arms ++ codes " " ++ last ++ codes ")"

-- a `for`: its offset, its variable, what gives its fields, and its body
unfoldable pub for_text : ℕ → Text → Text → Text → Text
for_text at name fields body =
    codes "(for " ++ decimal at ++ codes " " ++ show name ++ codes " (" ++ fields ++ codes ") " ++ body ++ codes ")"

-- a `while`: its offset, its condition and its body
unfoldable pub while_text : ℕ → Text → Text → Text
while_text at cond body = codes "(while " ++ decimal at ++ codes " " ++ cond ++ codes " " ++ body ++ codes ")"

-- a `case`: its offset, its subject and its arms
unfoldable pub case_text : ℕ → Text → Text → Text
case_text at subject arms =
    codes "(case " ++ decimal at ++ codes " " ++ subject ++ arms ++ codes ")"

-- an end without a result: its offset and its reason
unfoldable pub stop_text : ℕ → Reason → Text
stop_text at reason = codes "(stop " ++ decimal at ++ codes " " ++ reason_name reason ++ codes ")"

-- an assignment: a name and a value
unfoldable pub set_text_of : Text → Text → Text
set_text_of name value = codes "(" ++ show name ++ codes " " ++ value ++ codes ")"

-- an arm of `if`: a condition and a body
unfoldable pub arm_text_of : Text → Text → Text
arm_text_of cond body = codes "(" ++ cond ++ codes " " ++ body ++ codes ")"

-- an arm of `case`: patterns in parentheses of their own, and a body
unfoldable pub pat_arm_text_of : Text → Text → Text
pat_arm_text_of patterns body = codes "((" ++ patterns ++ codes ") " ++ body ++ codes ")"

-- ---- one layer of the syntax, a line for each construct

-- the text of a string, from the texts of its parts
abbrev pub str_layer : o.Str-F Text Text Text Text Text Text Text Text → Text
str_layer (o.Lit bytes) = lit_text bytes
str_layer (o.Var name) = var_text name
str_layer (o.Arg number) = arg_text number
str_layer o.Count = codes "(count)"
str_layer (o.Or first other) = or_text first other
str_layer (o.Output body) = one_text (codes "(output") body
str_layer (o.Join parts) = group (codes "(join") (each_spaced parts)

-- the text of a piece of a word: plain, quoted, or split into fields
abbrev pub piece_layer : o.StrPiece-F Text Text Text Text Text Text Text Text → Text
piece_layer (o.Plain string) = one_text (codes "(p") string
piece_layer (o.Quoted string) = one_text (codes "(q") string
piece_layer (o.Split string) = one_text (codes "(s") string

-- the text of what gives fields: a word, or all arguments
abbrev pub fields_layer : o.Fields-F Text Text Text Text Text Text Text Text → Text
fields_layer (o.Word pieces) = group (codes "(word") (each_spaced pieces)
fields_layer o.Args = codes "(args)"

-- the text of a statement, from the texts of its parts
abbrev pub stmt_layer : o.Stmt-F Text Text Text Text Text Text Text Text → Text
stmt_layer o.Skip = codes "(skip)"
stmt_layer (o.Set at sets) = at_group (codes "(set") at (each_spaced sets)
stmt_layer (o.Call at fields) = at_group (codes "(call") at (each_spaced fields)
stmt_layer (o.Fun at name fields) = fun_text at name (each_spaced fields)
stmt_layer (o.Seq parts) = group (codes "(seq") (each_spaced parts)
stmt_layer (o.Chain first rest) = chain_text first (each_spaced rest)
stmt_layer (o.Not body) = one_text (codes "(not") body
stmt_layer (o.If arms last) = if_text (each_spaced arms) last
stmt_layer (o.For at name fields body) = for_text at name (between (λ text. text) fields) body
stmt_layer (o.While at cond body) = while_text at cond body
stmt_layer (o.Case at subject arms) = case_text at subject (each_spaced arms)
stmt_layer (o.Sub at body) = at_text (codes "(sub") at body
stmt_layer (o.Quiet body) = one_text (codes "(quiet") body
stmt_layer (o.Err at body) = at_text (codes "(err") at body
stmt_layer o.Strict = codes "(strict)"
stmt_layer o.Lax = codes "(lax)"
stmt_layer (o.Exit at fields) = at_group (codes "(exit") at (each_spaced fields)
stmt_layer (o.Return at fields) = at_group (codes "(return") at (each_spaced fields)
stmt_layer o.Break = codes "(break)"
stmt_layer o.Continue = codes "(continue)"
stmt_layer (o.Export at fields) = at_group (codes "(export") at (each_spaced fields)
stmt_layer (o.Unset at fields) = at_group (codes "(unset") at (each_spaced fields)
stmt_layer (o.Stop at reason) = stop_text at reason

-- the text of an assignment
abbrev pub set_layer : o.SetTo-F Text Text Text Text Text Text Text Text → Text
set_layer set = set_text_of set.name set.value

-- how a member of an and-or list begins: behind `&&`, or behind `||`
abbrev pub link_head : Bool → Text
link_head true = codes "(and"
link_head false = codes "(or"

-- the text of a member of an and-or list
abbrev pub part_layer : o.ChainPart-F Text Text Text Text Text Text Text Text → Text
part_layer part = one_text (link_head part.and) part.stmt

-- the text of an arm of `if`
abbrev pub arm_layer : o.StmtArm-F Text Text Text Text Text Text Text Text → Text
arm_layer arm = arm_text_of arm.cond arm.body

-- a pattern
abbrev pub pattern_text_of : List Text → Text
pattern_text_of pieces = group (codes "(pat") (each_spaced pieces)

-- the text of an arm of `case`: its patterns with a space between each two, and its body
abbrev pub pat_arm_layer : o.PatArm-F Text Text Text Text Text Text Text Text → Text
pat_arm_layer arm = pat_arm_text_of (between pattern_text_of arm.patterns) arm.body

-- ---- the whole syntax

-- the text of a statement
abbrev pub stmt_text : Stmt → Text
stmt_text =
    fold-Stmt Text Text Text Text Text Text Text Text
    fields_layer stmt_layer str_layer piece_layer part_layer pat_arm_layer set_layer arm_layer

-- of a string
abbrev pub str_text : Str → Text
str_text =
    fold-Str Text Text Text Text Text Text Text Text
    fields_layer stmt_layer str_layer piece_layer part_layer pat_arm_layer set_layer arm_layer

-- of a piece of a word
abbrev pub piece_text : StrPiece → Text
piece_text =
    fold-StrPiece Text Text Text Text Text Text Text Text
    fields_layer stmt_layer str_layer piece_layer part_layer pat_arm_layer set_layer arm_layer

-- of what gives fields
abbrev pub field_text : Fields → Text
field_text =
    fold-Fields Text Text Text Text Text Text Text Text
    fields_layer stmt_layer str_layer piece_layer part_layer pat_arm_layer set_layer arm_layer

-- of an assignment
abbrev pub set_text : SetTo → Text
set_text =
    fold-SetTo Text Text Text Text Text Text Text Text
    fields_layer stmt_layer str_layer piece_layer part_layer pat_arm_layer set_layer arm_layer

-- of a member of an and-or list
abbrev pub part_text : ChainPart → Text
part_text =
    fold-ChainPart Text Text Text Text Text Text Text Text
    fields_layer stmt_layer str_layer piece_layer part_layer pat_arm_layer set_layer arm_layer

-- of an arm of `if`
abbrev pub arm_text : StmtArm → Text
arm_text =
    fold-StmtArm Text Text Text Text Text Text Text Text
    fields_layer stmt_layer str_layer piece_layer part_layer pat_arm_layer set_layer arm_layer

-- of an arm of `case`
abbrev pub pat_arm_text : PatArm → Text
pat_arm_text =
    fold-PatArm Text Text Text Text Text Text Text Text
    fields_layer stmt_layer str_layer piece_layer part_layer pat_arm_layer set_layer arm_layer

-- of a pattern
abbrev pub pattern_text : List StrPiece → Text
pattern_text pieces = pattern_text_of (map piece_text pieces)

-- of a function
unfoldable pub def_text_of : Text → Text → Text
def_text_of name body = codes "(def " ++ show name ++ codes " " ++ body ++ codes ")"

-- the text of a function: its name and its body
abbrev pub def_text : Def → Text
def_text def = def_text_of def.name (stmt_text def.body)

-- the head of a program: whether the strict flag is set before it is run
abbrev pub program_head : Bool → Text
program_head true = codes "(program strict"
program_head false = codes "(program lax"

-- of a program: its functions before its body
unfoldable pub program_text_of : Bool → Text → Text → Text
program_text_of strict defs body =
    program_head strict ++ defs ++ codes " " ++ body ++ codes ")\n"

-- the text of a program, a line: each function behind a space, then the body
abbrev pub program_text : ProgramParts → Text
program_text program =
    program_text_of program.strict (flat_map (λ def. spaced (def_text def)) program.defs) (stmt_text program.body)

-- Which programs the types can represent: offsets and numbers of arguments fit, and strings are of bytes.
use Rattle.std.specs.Prelude.{ℕ, ◌-◌, ◌^◌, Bool, true, ◌&&◌, nat_le, List, [], ◌∷◌, map}
use Rattle.std.specs.List.{list_all}
use Rattle.shown_texts.specs.Show.{are_bytes}
use Rattle.colis_syntax.specs.declared.syntax.Stmt.{Stmt}
use Rattle.colis_syntax.specs.declared.syntax.Fields.TheOpen as o
use Rattle.colis_syntax.specs.declared.syntax.Fields.TheFolds.{fold-Stmt}
use Rattle.colis_syntax.specs.declared.def.Def.{Def}
use Rattle.colis_syntax.specs.WellFormed.{ProgramParts, is_well_formed}

-- each of these holds
abbrev pub all_hold : List Bool → Bool
all_hold [] = true
all_hold (b ∷ bs) = b && all_hold bs

-- an offset that fits its type
abbrev pub fits : ℕ → Bool
fits at = nat_le at (2 ^ 32 - 1)

-- ---- a line for each construct, over what holds of its parts

-- a string: its bytes are bytes, and the number of an argument fits its type
abbrev pub str_layer : o.Str-F Bool Bool Bool Bool Bool Bool Bool Bool → Bool
str_layer (o.Lit bytes) = are_bytes bytes
str_layer (o.Var name) = are_bytes name
str_layer (o.Arg number) = nat_le number 255
str_layer o.Count = true
str_layer (o.Or first other) = first && are_bytes other
str_layer (o.Output body) = body
str_layer (o.Join parts) = all_hold parts

-- a piece of a word
abbrev pub piece_layer : o.StrPiece-F Bool Bool Bool Bool Bool Bool Bool Bool → Bool
piece_layer (o.Plain string) = string
piece_layer (o.Quoted string) = string
piece_layer (o.Split string) = string

-- what gives fields
abbrev pub fields_layer : o.Fields-F Bool Bool Bool Bool Bool Bool Bool Bool → Bool
fields_layer (o.Word pieces) = all_hold pieces
fields_layer o.Args = true

-- a statement: its offset fits, a name is of bytes, and its parts hold
abbrev pub stmt_layer : o.Stmt-F Bool Bool Bool Bool Bool Bool Bool Bool → Bool
stmt_layer o.Skip = true
stmt_layer (o.Set at sets) = fits at && all_hold sets
stmt_layer (o.Call at fields) = fits at && all_hold fields
stmt_layer (o.Fun at name fields) = fits at && (are_bytes name && all_hold fields)
stmt_layer (o.Seq parts) = all_hold parts
stmt_layer (o.Chain first rest) = first && all_hold rest
stmt_layer (o.Not body) = body
stmt_layer (o.If arms last) = all_hold arms && last
stmt_layer (o.For at name fields body) = fits at && (are_bytes name && (all_hold fields && body))
stmt_layer (o.While at cond body) = fits at && (cond && body)
stmt_layer (o.Case at subject arms) = fits at && (subject && all_hold arms)
stmt_layer (o.Sub at body) = fits at && body
stmt_layer (o.Quiet body) = body
stmt_layer (o.Err at body) = fits at && body
stmt_layer o.Strict = true
stmt_layer o.Lax = true
stmt_layer (o.Exit at fields) = fits at && all_hold fields
stmt_layer (o.Return at fields) = fits at && all_hold fields
stmt_layer o.Break = true
stmt_layer o.Continue = true
stmt_layer (o.Export at fields) = fits at && all_hold fields
stmt_layer (o.Unset at fields) = fits at && all_hold fields
stmt_layer (o.Stop at reason) = fits at

-- an assignment
abbrev pub set_layer : o.SetTo-F Bool Bool Bool Bool Bool Bool Bool Bool → Bool
set_layer set = are_bytes set.name && set.value

-- a member of an and-or list
abbrev pub part_layer : o.ChainPart-F Bool Bool Bool Bool Bool Bool Bool Bool → Bool
part_layer part = part.stmt

-- an arm of `if`
abbrev pub arm_layer : o.StmtArm-F Bool Bool Bool Bool Bool Bool Bool Bool → Bool
arm_layer arm = arm.cond && arm.body

-- an arm of `case`
abbrev pub pat_arm_layer : o.PatArm-F Bool Bool Bool Bool Bool Bool Bool Bool → Bool
pat_arm_layer arm = all_hold (map all_hold arm.patterns) && arm.body

-- ---- the whole syntax

-- a statement
abbrev pub stmt_representable : Stmt → Bool
stmt_representable =
    fold-Stmt Bool Bool Bool Bool Bool Bool Bool Bool
    fields_layer stmt_layer str_layer piece_layer part_layer pat_arm_layer set_layer arm_layer

-- a function
abbrev pub def_representable : Def → Bool
def_representable def = are_bytes def.name && stmt_representable def.body

-- a program that is well formed and that the types can represent
abbrev pub is_program : ProgramParts → Bool
is_program program =
    is_well_formed program.defs program.body
    && (list_all def_representable program.defs && stmt_representable program.body)

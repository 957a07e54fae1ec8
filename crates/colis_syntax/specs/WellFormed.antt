-- Which programs are well formed, rule by rule.
use Rattle.std.specs.Prelude.{ℕ, Bool, true, false, not, ◌&&◌, nat_le, List, [], ◌∷◌, ◌++◌, length}
use Rattle.std.specs.Prelude.{Option, Some, None, if◌then◌else◌}
use Rattle.std.specs.List.{list_all, list_any}
use Rattle.std.specs.Str.{bytes_eq}
use Rattle.colis_syntax.specs.declared.syntax.Stmt.{Stmt}
use Rattle.colis_syntax.specs.declared.syntax.Str.{Str}
use Rattle.colis_syntax.specs.declared.syntax.StrPiece.{StrPiece}
use Rattle.colis_syntax.specs.declared.syntax.Fields.{Fields}
use Rattle.colis_syntax.specs.declared.syntax.SetTo.{SetTo}
use Rattle.colis_syntax.specs.declared.syntax.ChainPart.{ChainPart}
use Rattle.colis_syntax.specs.declared.syntax.StmtArm.{StmtArm}
use Rattle.colis_syntax.specs.declared.syntax.PatArm.{PatArm}
use Rattle.colis_syntax.specs.declared.def.Def.{Def}
use Rattle.colis_syntax.specs.declared.syntax.Fields.TheOpen as o
use Rattle.colis_syntax.specs.declared.syntax.Fields.TheFolds.{fold-Stmt, fold-Str, fold-StrPiece, fold-Fields}
use Rattle.colis_syntax.specs.declared.syntax.Fields.TheFolds.{fold-SetTo, fold-ChainPart, fold-StmtArm, fold-PatArm}

-- where a statement stands: the functions that it may call, whether a loop is round it that it may leave, and whether
-- a function is round it that it may leave
pub record Scope : Type 0 where
  pub defs : List Def
  pub in_loop : Bool
  pub in_def : Bool

-- whether a part of a program may stand somewhere
abbrev pub Test : Type 0
Test = Scope → Bool

-- ---- scopes

-- the scope with these functions, in a loop or not, in a function or not
abbrev pub scope_of : List Def → Bool → Bool → Scope
scope_of defs in_loop in_def = record { defs = defs; in_loop = in_loop; in_def = in_def }

-- in a loop
abbrev pub looped : Scope → Scope
looped s = scope_of s.defs true s.in_def

-- in a subshell or a substitution, which no statement leaves by `break`, `continue` or `return`
abbrev pub enclosed : Scope → Scope
enclosed s = scope_of s.defs false false

-- in the body of a function, before which these are defined
abbrev pub def_scope : List Def → Scope
def_scope defs = scope_of defs false true

-- in the body of the program, which has these functions
abbrev pub body_scope : List Def → Scope
body_scope defs = scope_of defs false false

-- a function of this name is among those
abbrev pub is_def : List ℕ → List Def → Bool
is_def name defs = list_any (λ def. bytes_eq def.name name) defs

-- ---- the rules, a line for each construct, over its parts

-- each of these passes
abbrev pub all_pass : Scope → List Test → Bool
all_pass s tests = list_all (λ test. test s) tests

-- the number of an argument is 1 to 9
abbrev pub is_argument : ℕ → Bool
is_argument number = nat_le 1 number && nat_le number 9

-- a string: the number of an argument is one, and a substitution is left by no statement
abbrev pub str_layer : o.Str-F Test Test Test Test Test Test Test Test → Test
str_layer (o.Lit bytes) s = true
str_layer (o.Var name) s = true
str_layer (o.Arg number) s = is_argument number
str_layer o.Count s = true
str_layer (o.Or first other) s = first s
str_layer (o.Output body) s = body (enclosed s)
str_layer (o.Join parts) s = all_pass s parts

-- a piece of a word passes where its string does
abbrev pub piece_layer : o.StrPiece-F Test Test Test Test Test Test Test Test → Test
piece_layer (o.Plain string) s = string s
piece_layer (o.Quoted string) s = string s
piece_layer (o.Split string) s = string s

-- a word passes where its pieces do
abbrev pub fields_layer : o.Fields-F Test Test Test Test Test Test Test Test → Test
fields_layer (o.Word pieces) s = all_pass s pieces
fields_layer o.Args s = true

-- a statement passes where its parts do, each in its scope, and what its construct asks for holds
abbrev pub stmt_layer : o.Stmt-F Test Test Test Test Test Test Test Test → Test
stmt_layer o.Skip s = true
stmt_layer (o.Set at sets) s = all_pass s sets
stmt_layer (o.Call at fields) s = all_pass s fields
-- a function is called only where it is defined
stmt_layer (o.Fun at name fields) s = is_def name s.defs && all_pass s fields
-- a list has two members or more
stmt_layer (o.Seq parts) s = nat_le 2 (length parts) && all_pass s parts
-- an and-or list has two members or more
stmt_layer (o.Chain first rest) s = nat_le 1 (length rest) && (first s && all_pass s rest)
stmt_layer (o.Not body) s = body s
-- an `if` has an arm
stmt_layer (o.If arms last) s = nat_le 1 (length arms) && (all_pass s arms && last s)
stmt_layer (o.For at name fields body) s = all_pass s fields && body (looped s)
stmt_layer (o.While at cond body) s = cond (looped s) && body (looped s)
stmt_layer (o.Case at subject arms) s = subject s && all_pass s arms
stmt_layer (o.Sub at body) s = body (enclosed s)
stmt_layer (o.Quiet body) s = body s
stmt_layer (o.Err at body) s = body s
stmt_layer o.Strict s = true
stmt_layer o.Lax s = true
stmt_layer (o.Exit at fields) s = all_pass s fields
-- `return` stands in a function
stmt_layer (o.Return at fields) s = s.in_def && all_pass s fields
-- `break` and `continue` stand in a loop
stmt_layer o.Break s = s.in_loop
stmt_layer o.Continue s = s.in_loop
stmt_layer (o.Export at fields) s = all_pass s fields
stmt_layer (o.Unset at fields) s = all_pass s fields
stmt_layer (o.Stop at reason) s = true

-- an assignment passes where its value does
abbrev pub set_layer : o.SetTo-F Test Test Test Test Test Test Test Test → Test
set_layer set s = set.value s

-- a member of an and-or list passes where its statement does
abbrev pub part_layer : o.ChainPart-F Test Test Test Test Test Test Test Test → Test
part_layer part s = part.stmt s

-- an arm of `if` passes where its condition and its body do
abbrev pub arm_layer : o.StmtArm-F Test Test Test Test Test Test Test Test → Test
arm_layer arm s = arm.cond s && arm.body s

-- an arm of `case` has a pattern
abbrev pub pat_arm_layer : o.PatArm-F Test Test Test Test Test Test Test Test → Test
pat_arm_layer arm s =
    nat_le 1 (length arm.patterns) && (list_all (λ pieces. all_pass s pieces) arm.patterns && arm.body s)

-- ---- the whole syntax

-- whether a statement may stand in a scope
abbrev pub stmt_passes : Stmt → Scope → Bool
stmt_passes =
    fold-Stmt Test Test Test Test Test Test Test Test
    fields_layer stmt_layer str_layer piece_layer part_layer pat_arm_layer set_layer arm_layer

-- whether a string may stand in a scope
abbrev pub str_passes : Str → Scope → Bool
str_passes =
    fold-Str Test Test Test Test Test Test Test Test
    fields_layer stmt_layer str_layer piece_layer part_layer pat_arm_layer set_layer arm_layer

-- of a piece of a word
abbrev pub piece_passes : StrPiece → Scope → Bool
piece_passes =
    fold-StrPiece Test Test Test Test Test Test Test Test
    fields_layer stmt_layer str_layer piece_layer part_layer pat_arm_layer set_layer arm_layer

-- of what gives fields
abbrev pub field_passes : Fields → Scope → Bool
field_passes =
    fold-Fields Test Test Test Test Test Test Test Test
    fields_layer stmt_layer str_layer piece_layer part_layer pat_arm_layer set_layer arm_layer

-- of an assignment
abbrev pub set_passes : SetTo → Scope → Bool
set_passes =
    fold-SetTo Test Test Test Test Test Test Test Test
    fields_layer stmt_layer str_layer piece_layer part_layer pat_arm_layer set_layer arm_layer

-- of a member of an and-or list
abbrev pub part_passes : ChainPart → Scope → Bool
part_passes =
    fold-ChainPart Test Test Test Test Test Test Test Test
    fields_layer stmt_layer str_layer piece_layer part_layer pat_arm_layer set_layer arm_layer

-- of an arm of `if`
abbrev pub arm_passes : StmtArm → Scope → Bool
arm_passes =
    fold-StmtArm Test Test Test Test Test Test Test Test
    fields_layer stmt_layer str_layer piece_layer part_layer pat_arm_layer set_layer arm_layer

-- of an arm of `case`
abbrev pub pat_arm_passes : PatArm → Scope → Bool
pat_arm_passes =
    fold-PatArm Test Test Test Test Test Test Test Test
    fields_layer stmt_layer str_layer piece_layer part_layer pat_arm_layer set_layer arm_layer

-- a definition behind others: none of them has its name, and it calls only those
abbrev pub def_passes : List Def → Def → Bool
def_passes earlier def = not (is_def def.name earlier) && stmt_passes def.body (def_scope earlier)

-- each definition behind those before it
abbrev pub defs_pass : List Def → List Def → Bool
defs_pass earlier [] = true
defs_pass earlier (def ∷ defs) = def_passes earlier def && defs_pass (earlier ++ def ∷ []) defs

-- a program with these functions and this body is well formed
abbrev pub is_well_formed : List Def → Stmt → Bool
is_well_formed defs body = defs_pass [] defs && stmt_passes body (body_scope defs)

-- what a program is made of: whether it begins with the strict flag, its functions, and its body
pub record ProgramParts : Type 0 where
  pub strict : Bool
  pub defs : List Def
  pub body : Stmt

-- the program of these parts, if it is well formed
abbrev pub program_of : Bool → List Def → Stmt → Option ProgramParts
program_of strict defs body =
    if is_well_formed defs body then Some (record { strict = strict; defs = defs; body = body }) else None

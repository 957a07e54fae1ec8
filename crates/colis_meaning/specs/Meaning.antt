-- What a program does: of each construct, from what its parts do. The rules are those of shell_rules, one for each
-- construct.
use Rattle.std.specs.Prelude.{ℕ, Bool, true, false, ◌&&◌, List, [], ◌∷◌, map}
use Rattle.script_names.specs.declared.mark.Mark.{Mark}
use Rattle.feature_trees.specs.declared.value.Value.{Value}
use Rattle.shell_words.specs.Pieces.{PieceParts}
use Rattle.colis_syntax.specs.declared.syntax.Stmt.{Stmt}
use Rattle.colis_syntax.specs.declared.syntax.Str.{Str}
use Rattle.colis_syntax.specs.declared.syntax.StrPiece.{StrPiece}
use Rattle.colis_syntax.specs.declared.syntax.Fields.{Fields}
use Rattle.colis_syntax.specs.declared.syntax.SetTo.{SetTo}
use Rattle.colis_syntax.specs.declared.syntax.ChainPart.{ChainPart}
use Rattle.colis_syntax.specs.declared.syntax.StmtArm.{StmtArm}
use Rattle.colis_syntax.specs.declared.syntax.PatArm.{PatArm}
use Rattle.colis_syntax.specs.declared.def.Def.{Def}
use Rattle.colis_syntax.specs.declared.syntax.Fields.TheOpen as o
use Rattle.colis_syntax.specs.declared.syntax.Fields.TheFolds.{fold-Stmt, fold-Str, fold-StrPiece, fold-Fields}
use Rattle.colis_syntax.specs.declared.syntax.Fields.TheFolds.{fold-SetTo, fold-ChainPart, fold-StmtArm, fold-PatArm}
use Rattle.colis_syntax.specs.WellFormed.{ProgramParts}
use Rattle.shell_rules.specs.declared.state.Conc.{Conc}
use Rattle.shell_rules.specs.State.{Text, Doing, Action, Funs, Does, with}
use Rattle.shell_rules.specs.Expansion as word
use Rattle.shell_rules.specs.Commands as rule
use Rattle.shell_rules.specs.Loops as loops
use Rattle.shell_rules.specs.Cases as cases
use Rattle.shell_rules.specs.Calls as calls
use Rattle.shell_rules.specs.Whole.{Ended, whole_run}

-- ---- what the parts of a statement do, where functions are defined

-- a string: whether it is static, which is to stand for its own bytes; and what its value is
pub record StrDoes : Type 0 where
  pub static : Bool
  pub value : Funs → Doing Text

-- a piece of a word: whether it is static, and what it gives
pub record PieceDoes : Type 0 where
  pub static : Bool
  pub piece : Funs → Doing PieceParts

-- what gives fields: whether it is a static word, and which fields it gives
pub record FieldsDo : Type 0 where
  pub static : Bool
  pub fields : Funs → Doing (List Text)

-- a member of an and-or list: whether it stands behind `&&`, and what it does
abbrev pub LinkDoes : Type 0
LinkDoes = Funs → Bool × Action

-- an arm of `case`: its patterns and its body
abbrev pub CaseArmDoes : Type 0
CaseArmDoes = Funs → List (List (Doing PieceParts)) × Action

-- an assignment: a name and its value
abbrev pub SetDoes : Type 0
SetDoes = Funs → Text × Doing Text

-- an arm of `if`: its condition and its body
abbrev pub ArmDoes : Type 0
ArmDoes = Funs → Action × Action

-- a string that is computed
abbrev pub computed : (Funs → Doing Text) → StrDoes
computed value = record { static = false; value = value }

-- the values of strings
abbrev pub values_with : Funs → List StrDoes → List (Doing Text)
values_with f [] = []
values_with f (string ∷ strings) = string.value f ∷ values_with f strings

-- what pieces give
abbrev pub pieces_with : Funs → List PieceDoes → List (Doing PieceParts)
pieces_with f [] = []
pieces_with f (piece ∷ pieces) = piece.piece f ∷ pieces_with f pieces

-- whether all pieces are static
abbrev pub all_static : List PieceDoes → Bool
all_static [] = true
all_static (piece ∷ pieces) = piece.static && all_static pieces

-- the fields of what gives fields
abbrev pub fields_with : Funs → List FieldsDo → List (Doing (List Text))
fields_with f [] = []
fields_with f (one ∷ others) = one.fields f ∷ fields_with f others

-- of each, whether it is a static word
abbrev pub are_static : List FieldsDo → List Bool
are_static = map (λ (one : FieldsDo). one.static)

-- ---- the rules, a line for each construct, over its parts

-- what gives fields: a word, which is static where all of its pieces are, or all arguments
abbrev pub fields_layer : o.Fields-F FieldsDo Does StrDoes PieceDoes LinkDoes CaseArmDoes SetDoes ArmDoes → FieldsDo
fields_layer (o.Word pieces) =
    record { static = all_static pieces; fields = λ f. word.do_word (pieces_with f pieces) }
fields_layer o.Args = record { static = false; fields = λ f. word.do_arguments }

-- a statement
abbrev pub stmt_layer : o.Stmt-F FieldsDo Does StrDoes PieceDoes LinkDoes CaseArmDoes SetDoes ArmDoes → Does
stmt_layer o.Skip f = rule.do_skip
stmt_layer (o.Set at sets) f = calls.do_set at (with f sets)
stmt_layer (o.Call at fields) f = calls.do_call at (are_static fields) (fields_with f fields)
stmt_layer (o.Fun at name fields) f = calls.do_function at (calls.found name f) (fields_with f fields)
stmt_layer (o.Seq parts) f = rule.do_all (with f parts)
stmt_layer (o.Chain first rest) f = rule.do_chain (first f) (with f rest)
stmt_layer (o.Not body) f = rule.do_not (body f)
stmt_layer (o.If arms last) f = rule.do_if (with f arms) (last f)
stmt_layer (o.For at name fields body) f = loops.do_for at name (fields_with f fields) (body f)
stmt_layer (o.While at cond body) f = loops.do_while at (cond f) (body f)
stmt_layer (o.Case at subject arms) f = cases.do_case at (subject.value f) (with f arms)
stmt_layer (o.Sub at body) f = rule.do_subshell at (body f)
stmt_layer (o.Quiet body) f = rule.do_quiet (body f)
stmt_layer (o.Err at body) f = rule.do_error_joined at (body f)
stmt_layer o.Strict f = rule.do_strict
stmt_layer o.Lax f = rule.do_lax
stmt_layer (o.Exit at fields) f = calls.do_exit at (fields_with f fields)
stmt_layer (o.Return at fields) f = calls.do_return at (fields_with f fields)
stmt_layer o.Break f = loops.do_break
stmt_layer o.Continue f = loops.do_continue
stmt_layer (o.Export at fields) f = calls.do_export at (fields_with f fields)
stmt_layer (o.Unset at fields) f = calls.do_unset at (fields_with f fields)
stmt_layer (o.Stop at reason) f = rule.do_stop at reason

-- a string: literal bytes alone are static
abbrev pub str_layer : o.Str-F FieldsDo Does StrDoes PieceDoes LinkDoes CaseArmDoes SetDoes ArmDoes → StrDoes
str_layer (o.Lit bytes) = record { static = true; value = λ f. word.do_literal bytes }
str_layer (o.Var name) = computed (λ f. word.do_variable name)
str_layer (o.Arg number) = computed (λ f. word.do_argument number)
str_layer o.Count = computed (λ f. word.do_count)
str_layer (o.Or first other) = computed (λ f. word.do_default (first.value f) other)
str_layer (o.Output body) = computed (λ f. word.do_output (body f))
str_layer (o.Join parts) = computed (λ f. word.do_join (values_with f parts))

-- a piece of a word: one that is plain or quoted is static where its string is
abbrev pub piece_layer : o.StrPiece-F FieldsDo Does StrDoes PieceDoes LinkDoes CaseArmDoes SetDoes ArmDoes → PieceDoes
piece_layer (o.Plain string) = record { static = string.static; piece = λ f. word.do_plain (string.value f) }
piece_layer (o.Quoted string) = record { static = string.static; piece = λ f. word.do_quoted (string.value f) }
piece_layer (o.Split string) = record { static = false; piece = λ f. word.do_split (string.value f) }

-- a member of an and-or list: whether it stands behind `&&`, and what it does
abbrev pub link_layer : o.ChainPart-F FieldsDo Does StrDoes PieceDoes LinkDoes CaseArmDoes SetDoes ArmDoes → LinkDoes
link_layer link f = (link.and, link.stmt f)

-- an arm of `case`
abbrev pub case_arm_layer : o.PatArm-F FieldsDo Does StrDoes PieceDoes LinkDoes CaseArmDoes SetDoes ArmDoes
    → CaseArmDoes
case_arm_layer arm f = (map (pieces_with f) arm.patterns, arm.body f)

-- an assignment
abbrev pub set_layer : o.SetTo-F FieldsDo Does StrDoes PieceDoes LinkDoes CaseArmDoes SetDoes ArmDoes → SetDoes
set_layer set f = (set.name, set.value.value f)

-- an arm of `if`
abbrev pub arm_layer : o.StmtArm-F FieldsDo Does StrDoes PieceDoes LinkDoes CaseArmDoes SetDoes ArmDoes → ArmDoes
arm_layer arm f = (arm.cond f, arm.body f)

-- ---- the whole syntax

-- what a statement does
abbrev pub co_stmt : Stmt → Does
co_stmt =
    fold-Stmt FieldsDo Does StrDoes PieceDoes LinkDoes CaseArmDoes SetDoes ArmDoes
    fields_layer stmt_layer str_layer piece_layer link_layer case_arm_layer set_layer arm_layer

-- a string
abbrev pub co_str : Str → StrDoes
co_str =
    fold-Str FieldsDo Does StrDoes PieceDoes LinkDoes CaseArmDoes SetDoes ArmDoes
    fields_layer stmt_layer str_layer piece_layer link_layer case_arm_layer set_layer arm_layer

-- a piece of a word
abbrev pub co_piece : StrPiece → PieceDoes
co_piece =
    fold-StrPiece FieldsDo Does StrDoes PieceDoes LinkDoes CaseArmDoes SetDoes ArmDoes
    fields_layer stmt_layer str_layer piece_layer link_layer case_arm_layer set_layer arm_layer

-- what gives fields
abbrev pub co_fields : Fields → FieldsDo
co_fields =
    fold-Fields FieldsDo Does StrDoes PieceDoes LinkDoes CaseArmDoes SetDoes ArmDoes
    fields_layer stmt_layer str_layer piece_layer link_layer case_arm_layer set_layer arm_layer

-- an assignment
abbrev pub co_set : SetTo → SetDoes
co_set =
    fold-SetTo FieldsDo Does StrDoes PieceDoes LinkDoes CaseArmDoes SetDoes ArmDoes
    fields_layer stmt_layer str_layer piece_layer link_layer case_arm_layer set_layer arm_layer

-- a member of an and-or list
abbrev pub co_link : ChainPart → LinkDoes
co_link =
    fold-ChainPart FieldsDo Does StrDoes PieceDoes LinkDoes CaseArmDoes SetDoes ArmDoes
    fields_layer stmt_layer str_layer piece_layer link_layer case_arm_layer set_layer arm_layer

-- an arm of `if`
abbrev pub co_arm : StmtArm → ArmDoes
co_arm =
    fold-StmtArm FieldsDo Does StrDoes PieceDoes LinkDoes CaseArmDoes SetDoes ArmDoes
    fields_layer stmt_layer str_layer piece_layer link_layer case_arm_layer set_layer arm_layer

-- an arm of `case`
abbrev pub co_case_arm : PatArm → CaseArmDoes
co_case_arm =
    fold-PatArm FieldsDo Does StrDoes PieceDoes LinkDoes CaseArmDoes SetDoes ArmDoes
    fields_layer stmt_layer str_layer piece_layer link_layer case_arm_layer set_layer arm_layer

-- ---- programs

-- the functions of a program, behind those that are defined already: each one sees those before it
abbrev pub funs_of : List Def → Funs → Funs
funs_of [] f = f
funs_of (def ∷ defs) f = funs_of defs ((def.name, co_stmt def.body f) ∷ f)

-- the names of functions
abbrev pub names_of : List Def → List Text
names_of = map (λ def. def.name)

-- what a program does in a step, from a state of the shell, a tree and a trace
abbrev pub co_program : ProgramParts → ℕ → Conc → Value → List Mark → Ended
co_program program step conc tree trace =
    whole_run (co_stmt program.body (funs_of program.defs [])) step (names_of program.defs) conc tree trace

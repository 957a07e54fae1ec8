-- The text of each construct goes through the reading as one part, which is read as the construct.
use Rattle.std.proofs.Common.{◌≡◌, ℕ, ◌-◌, ◌^◌, Bool, true, nat_le, List, [], ◌∷◌, map, codes, decimal, refl, ap, ◌∙◌, arith}
use Rattle.std.specs.Prelude.{unwrap_or, length, if◌then◌else◌}
use Rattle.std.proofs.lemmas.Bool.{and_parts, ne_eqb}
use Rattle.script_names.specs.declared.reason.Reason.{Reason}
use Rattle.script_names.specs.declared.reason.Reason.TheVariants as reason
use Rattle.shown_texts.specs.Show.{show, are_bytes}
use Rattle.shown_texts.specs.Marks.{reason_name}
use Rattle.shown_texts.proofs.Spelled.{show_read}
use Rattle.shown_texts.proofs.Numerals.{number_read}
use Rattle.shown_texts.proofs.MarkTexts.{reason_read}
use Rattle.colis_syntax.specs.declared.syntax.Fields.{Fields}
use Rattle.colis_syntax.specs.declared.syntax.Stmt.{Stmt}
use Rattle.colis_syntax.specs.declared.syntax.Str.{Str}
use Rattle.colis_syntax.specs.declared.syntax.StrPiece.{StrPiece}
use Rattle.colis_syntax.specs.declared.syntax.ChainPart.{ChainPart}
use Rattle.colis_syntax.specs.declared.syntax.PatArm.{PatArm}
use Rattle.colis_syntax.specs.declared.syntax.SetTo.{SetTo}
use Rattle.colis_syntax.specs.declared.syntax.StmtArm.{StmtArm}
use Rattle.colis_syntax.specs.declared.syntax.Stmt.TheVariants as v
use Rattle.colis_syntax.specs.declared.syntax.Str.TheVariants as sv
use Rattle.colis_syntax.specs.declared.syntax.StrPiece.TheVariants as pv
use Rattle.colis_syntax.specs.declared.syntax.Fields.TheVariants as fv
use Rattle.colis_syntax.specs.declared.syntax.Fields.TheOpen as o
use Rattle.colis_syntax.specs.declared.syntax.Fields.TheFolds.{fold-Fields, fold-Str, fold-StrPiece, fold-ChainPart, fold-PatArm, fold-SetTo, fold-StmtArm}
use Rattle.colis_syntax.specs.declared.syntax.Fields.TheFolds.{map-Fields, map-Stmt, map-Str, map-StrPiece, map-ChainPart, map-PatArm, map-SetTo, map-StmtArm}
use Rattle.colis_syntax.specs.ProgramText.{Text, each_spaced, between, stmt_text, str_text, piece_text, field_text, set_text, part_text, arm_text, pat_arm_text}
use Rattle.colis_reader.specs.declared.nest.Nest.{Nest}
use Rattle.colis_reader.specs.Readings.{Read, read, reads, member, behind, but_last, last, number_in, argument_in, bytes_in, reason_in, literal_in, string_headed, piece_headed, field_headed, sited_headed, simple_headed, fields_headed, sited_from, word_headed, stmt_headed}
use Rattle.colis_reader.specs.Representable as h
use Rattle.colis_reader.specs.Representable.{fits, all_hold, stmt_representable}
use Rattle.colis_reader.proofs.ReadNode.{word_node, string_node, piece_node, field_node, stmt_node}
use Rattle.colis_reader.proofs.Fills.{Fills, Adds, fills_none, adds_none, adds_space, adds_both, fills_both}
use Rattle.colis_reader.proofs.Shapes.{leaf, named}

-- ---- words read back

number_back : (at : ℕ) → fits at ≡ true → number_in (decimal at) ≡ at
unfolding number_in
number_back at h = ap (λ o. unwrap_or o 0) (number_read (2 ^ 32 - 1) at (omega arith) h)

pub argument_back : (number : ℕ) → nat_le number 255 ≡ true → argument_in (decimal number) ≡ number
unfolding argument_in
argument_back number h = ap (λ o. unwrap_or o 0) (number_read 255 number (omega arith) h)

pub bytes_back : (bytes : Text) → are_bytes bytes ≡ true → bytes_in (show bytes) ≡ bytes
unfolding bytes_in
bytes_back bytes h = ap (λ o. unwrap_or o []) (show_read bytes h)

pub reason_back : (r : Reason) → reason_in (reason_name r) ≡ r
unfolding reason_in
reason_back r = ap (λ o. unwrap_or o reason.Call) (reason_read r)

-- the bytes that the word of a part spells
pub name_back : (name : Text) → are_bytes name ≡ true → bytes_in (read (leaf (show name))).word ≡ name
name_back name h = ap bytes_in (word_node (show name) []) ∙ bytes_back name h

-- ---- lists by the words that they begin with

named_stmt : (w : Text) (ns : List Nest) → (read (named w ns)).stmt ≡ stmt_headed w (reads ns)
named_stmt w ns = stmt_node [] (leaf w ∷ ns) ∙ ap (λ l. stmt_headed l (reads ns)) (word_node w [])

named_string : (w : Text) (ns : List Nest) → (read (named w ns)).string ≡ string_headed w (reads ns)
named_string w ns = string_node [] (leaf w ∷ ns) ∙ ap (λ l. string_headed l (reads ns)) (word_node w [])

named_piece : (w : Text) (ns : List Nest) → (read (named w ns)).piece ≡ piece_headed w (reads ns)
named_piece w ns = piece_node [] (leaf w ∷ ns) ∙ ap (λ l. piece_headed l (reads ns)) (word_node w [])

named_field : (w : Text) (ns : List Nest) → (read (named w ns)).field ≡ field_headed w (reads ns)
named_field w ns = field_node [] (leaf w ∷ ns) ∙ ap (λ l. field_headed l (reads ns)) (word_node w [])

-- the offset behind the word
sited_back : (w : Text) (at : ℕ) (ns : List Nest) → fits at ≡ true → sited_from w (reads (leaf (decimal at) ∷ ns)) ≡ sited_headed w at (reads ns)
sited_back w at ns h =
    ap (λ l. sited_headed w (number_in l) (reads ns)) (word_node (decimal at) []) ∙ ap (λ k. sited_headed w k (reads ns)) (number_back at h)

pub seq_is : (ns : List Nest) → (read (named (codes "seq") ns)).stmt ≡ v.Seq (map (λ r. r.stmt) (reads ns))
unfolding stmt_headed word_headed
seq_is ns = named_stmt (codes "seq") ns

pub chain_is : (ns : List Nest) → (read (named (codes "chain") ns)).stmt ≡ v.Chain (member (reads ns) 0).stmt (map (λ r. r.part) (behind (reads ns)))
unfolding stmt_headed word_headed
chain_is ns = named_stmt (codes "chain") ns

pub not_is : (ns : List Nest) → (read (named (codes "not") ns)).stmt ≡ v.Not (member (reads ns) 0).stmt
unfolding stmt_headed word_headed
not_is ns = named_stmt (codes "not") ns

pub if_is : (ns : List Nest) → (read (named (codes "if") ns)).stmt ≡ v.If (map (λ r. r.arm) (but_last (reads ns))) (last (reads ns)).stmt
unfolding stmt_headed word_headed
if_is ns = named_stmt (codes "if") ns

pub quiet_is : (ns : List Nest) → (read (named (codes "quiet") ns)).stmt ≡ v.Quiet (member (reads ns) 0).stmt
unfolding stmt_headed word_headed
quiet_is ns = named_stmt (codes "quiet") ns

pub strict_is : (ns : List Nest) → (read (named (codes "strict") ns)).stmt ≡ v.Strict
unfolding stmt_headed word_headed
strict_is ns = named_stmt (codes "strict") ns

pub lax_is : (ns : List Nest) → (read (named (codes "lax") ns)).stmt ≡ v.Lax
unfolding stmt_headed word_headed
lax_is ns = named_stmt (codes "lax") ns

pub break_is : (ns : List Nest) → (read (named (codes "break") ns)).stmt ≡ v.Break
unfolding stmt_headed word_headed
break_is ns = named_stmt (codes "break") ns

pub continue_is : (ns : List Nest) → (read (named (codes "continue") ns)).stmt ≡ v.Continue
unfolding stmt_headed word_headed
continue_is ns = named_stmt (codes "continue") ns

pub skip_is : (read (named (codes "skip") [])).stmt ≡ v.Skip
unfolding stmt_headed word_headed sited_headed simple_headed fields_headed
skip_is = named_stmt (codes "skip") []

pub set_is : (at : ℕ) (ns : List Nest) → fits at ≡ true → (read (named (codes "set") (leaf (decimal at) ∷ ns))).stmt ≡ v.Set at (map (λ r. r.set) (reads ns))
unfolding stmt_headed word_headed sited_headed simple_headed fields_headed
set_is at ns h = named_stmt (codes "set") (leaf (decimal at) ∷ ns) ∙ sited_back (codes "set") at ns h

pub fun_is : (at : ℕ) (ns : List Nest) → fits at ≡ true → (read (named (codes "fun") (leaf (decimal at) ∷ ns))).stmt ≡ v.Fun at (bytes_in (member (reads ns) 0).word) (map (λ r. r.field) (behind (reads ns)))
unfolding stmt_headed word_headed sited_headed simple_headed fields_headed
fun_is at ns h = named_stmt (codes "fun") (leaf (decimal at) ∷ ns) ∙ sited_back (codes "fun") at ns h

pub for_is : (at : ℕ) (ns : List Nest) → fits at ≡ true → (read (named (codes "for") (leaf (decimal at) ∷ ns))).stmt ≡ v.For at (bytes_in (member (reads ns) 0).word) (member (reads ns) 1).fields (member (reads ns) 2).stmt
unfolding stmt_headed word_headed sited_headed simple_headed fields_headed
for_is at ns h = named_stmt (codes "for") (leaf (decimal at) ∷ ns) ∙ sited_back (codes "for") at ns h

pub while_is : (at : ℕ) (ns : List Nest) → fits at ≡ true → (read (named (codes "while") (leaf (decimal at) ∷ ns))).stmt ≡ v.While at (member (reads ns) 0).stmt (member (reads ns) 1).stmt
unfolding stmt_headed word_headed sited_headed simple_headed fields_headed
while_is at ns h = named_stmt (codes "while") (leaf (decimal at) ∷ ns) ∙ sited_back (codes "while") at ns h

pub case_is : (at : ℕ) (ns : List Nest) → fits at ≡ true → (read (named (codes "case") (leaf (decimal at) ∷ ns))).stmt ≡ v.Case at (member (reads ns) 0).string (map (λ r. r.pat_arm) (behind (reads ns)))
unfolding stmt_headed word_headed sited_headed simple_headed fields_headed
case_is at ns h = named_stmt (codes "case") (leaf (decimal at) ∷ ns) ∙ sited_back (codes "case") at ns h

pub sub_is : (at : ℕ) (ns : List Nest) → fits at ≡ true → (read (named (codes "sub") (leaf (decimal at) ∷ ns))).stmt ≡ v.Sub at (member (reads ns) 0).stmt
unfolding stmt_headed word_headed sited_headed simple_headed fields_headed
sub_is at ns h = named_stmt (codes "sub") (leaf (decimal at) ∷ ns) ∙ sited_back (codes "sub") at ns h

pub err_is : (at : ℕ) (ns : List Nest) → fits at ≡ true → (read (named (codes "err") (leaf (decimal at) ∷ ns))).stmt ≡ v.Err at (member (reads ns) 0).stmt
unfolding stmt_headed word_headed sited_headed simple_headed fields_headed
err_is at ns h = named_stmt (codes "err") (leaf (decimal at) ∷ ns) ∙ sited_back (codes "err") at ns h

pub stop_is : (at : ℕ) (ns : List Nest) → fits at ≡ true → (read (named (codes "stop") (leaf (decimal at) ∷ ns))).stmt ≡ v.Stop at (reason_in (member (reads ns) 0).word)
unfolding stmt_headed word_headed sited_headed simple_headed fields_headed
stop_is at ns h = named_stmt (codes "stop") (leaf (decimal at) ∷ ns) ∙ sited_back (codes "stop") at ns h

pub call_is : (at : ℕ) (ns : List Nest) → fits at ≡ true → (read (named (codes "call") (leaf (decimal at) ∷ ns))).stmt ≡ v.Call at (map (λ r. r.field) (reads ns))
unfolding stmt_headed word_headed sited_headed simple_headed fields_headed
call_is at ns h = named_stmt (codes "call") (leaf (decimal at) ∷ ns) ∙ sited_back (codes "call") at ns h

pub exit_is : (at : ℕ) (ns : List Nest) → fits at ≡ true → (read (named (codes "exit") (leaf (decimal at) ∷ ns))).stmt ≡ v.Exit at (map (λ r. r.field) (reads ns))
unfolding stmt_headed word_headed sited_headed simple_headed fields_headed
exit_is at ns h = named_stmt (codes "exit") (leaf (decimal at) ∷ ns) ∙ sited_back (codes "exit") at ns h

pub return_is : (at : ℕ) (ns : List Nest) → fits at ≡ true → (read (named (codes "return") (leaf (decimal at) ∷ ns))).stmt ≡ v.Return at (map (λ r. r.field) (reads ns))
unfolding stmt_headed word_headed sited_headed simple_headed fields_headed
return_is at ns h = named_stmt (codes "return") (leaf (decimal at) ∷ ns) ∙ sited_back (codes "return") at ns h

pub export_is : (at : ℕ) (ns : List Nest) → fits at ≡ true → (read (named (codes "export") (leaf (decimal at) ∷ ns))).stmt ≡ v.Export at (map (λ r. r.field) (reads ns))
unfolding stmt_headed word_headed sited_headed simple_headed fields_headed
export_is at ns h = named_stmt (codes "export") (leaf (decimal at) ∷ ns) ∙ sited_back (codes "export") at ns h

pub unset_is : (at : ℕ) (ns : List Nest) → fits at ≡ true → (read (named (codes "unset") (leaf (decimal at) ∷ ns))).stmt ≡ v.Unset at (map (λ r. r.field) (reads ns))
unfolding stmt_headed word_headed sited_headed simple_headed fields_headed
unset_is at ns h = named_stmt (codes "unset") (leaf (decimal at) ∷ ns) ∙ sited_back (codes "unset") at ns h

pub var_is : (ns : List Nest) → (read (named (codes "var") ns)).string ≡ sv.Var (bytes_in (member (reads ns) 0).word)
unfolding string_headed
var_is ns = named_string (codes "var") ns

pub arg_is : (ns : List Nest) → (read (named (codes "arg") ns)).string ≡ sv.Arg (argument_in (member (reads ns) 0).word)
unfolding string_headed
arg_is ns = named_string (codes "arg") ns

pub or_is : (ns : List Nest) → (read (named (codes "or") ns)).string ≡ sv.Or (member (reads ns) 0).string (bytes_in (member (reads ns) 1).word)
unfolding string_headed
or_is ns = named_string (codes "or") ns

pub output_is : (ns : List Nest) → (read (named (codes "output") ns)).string ≡ sv.Output (member (reads ns) 0).stmt
unfolding string_headed
output_is ns = named_string (codes "output") ns

pub join_is : (ns : List Nest) → (read (named (codes "join") ns)).string ≡ sv.Join (map (λ r. r.string) (reads ns))
unfolding string_headed
join_is ns = named_string (codes "join") ns

pub count_is : (ns : List Nest) → (read (named (codes "count") ns)).string ≡ sv.Count
unfolding string_headed
count_is ns = named_string (codes "count") ns

pub p_is : (ns : List Nest) → (read (named (codes "p") ns)).piece ≡ pv.Plain (member (reads ns) 0).string
unfolding piece_headed
p_is ns = named_piece (codes "p") ns

pub q_is : (ns : List Nest) → (read (named (codes "q") ns)).piece ≡ pv.Quoted (member (reads ns) 0).string
unfolding piece_headed
q_is ns = named_piece (codes "q") ns

pub s_is : (ns : List Nest) → (read (named (codes "s") ns)).piece ≡ pv.Split (member (reads ns) 0).string
unfolding piece_headed
s_is ns = named_piece (codes "s") ns

pub word_is : (ns : List Nest) → (read (named (codes "word") ns)).field ≡ fv.Word (map (λ r. r.piece) (reads ns))
unfolding field_headed
word_is ns = named_field (codes "word") ns

pub args_is : (ns : List Nest) → (read (named (codes "args") ns)).field ≡ fv.Args
unfolding field_headed
args_is ns = named_field (codes "args") ns

pub literal_is : (bytes : Text) → are_bytes bytes ≡ true → (read (leaf (61 ∷ show bytes))).string ≡ sv.Lit bytes
unfolding literal_in
literal_is bytes h =
    string_node (61 ∷ show bytes) []
    ∙ ap (λ t. if t then string_headed (member (reads []) 0).word (behind (reads [])) else literal_in (61 ∷ show bytes)) (ne_eqb (length (61 ∷ show bytes)) 0 (λ e. omega (arith, e)))
    ∙ ap sv.Lit (bytes_back bytes h)

-- ---- what is shown of each construct

abbrev pub field_representable : Fields → Bool
field_representable = fold-Fields Bool Bool Bool Bool Bool Bool Bool Bool h.fields_layer h.stmt_layer h.str_layer h.piece_layer h.part_layer h.pat_arm_layer h.set_layer h.arm_layer

abbrev pub str_representable : Str → Bool
str_representable = fold-Str Bool Bool Bool Bool Bool Bool Bool Bool h.fields_layer h.stmt_layer h.str_layer h.piece_layer h.part_layer h.pat_arm_layer h.set_layer h.arm_layer

abbrev pub piece_representable : StrPiece → Bool
piece_representable = fold-StrPiece Bool Bool Bool Bool Bool Bool Bool Bool h.fields_layer h.stmt_layer h.str_layer h.piece_layer h.part_layer h.pat_arm_layer h.set_layer h.arm_layer

abbrev pub part_representable : ChainPart → Bool
part_representable = fold-ChainPart Bool Bool Bool Bool Bool Bool Bool Bool h.fields_layer h.stmt_layer h.str_layer h.piece_layer h.part_layer h.pat_arm_layer h.set_layer h.arm_layer

abbrev pub pat_arm_representable : PatArm → Bool
pat_arm_representable = fold-PatArm Bool Bool Bool Bool Bool Bool Bool Bool h.fields_layer h.stmt_layer h.str_layer h.piece_layer h.part_layer h.pat_arm_layer h.set_layer h.arm_layer

abbrev pub set_representable : SetTo → Bool
set_representable = fold-SetTo Bool Bool Bool Bool Bool Bool Bool Bool h.fields_layer h.stmt_layer h.str_layer h.piece_layer h.part_layer h.pat_arm_layer h.set_layer h.arm_layer

abbrev pub arm_representable : StmtArm → Bool
arm_representable = fold-StmtArm Bool Bool Bool Bool Bool Bool Bool Bool h.fields_layer h.stmt_layer h.str_layer h.piece_layer h.part_layer h.pat_arm_layer h.set_layer h.arm_layer

-- its text, if the types can represent it, is a part that is read as it
abbrev pub KFields : Fields → Type 0
KFields x = field_representable x ≡ true → (n : Nest) × Fills (field_text x) (n ∷ []) × ((read n).field ≡ x)

abbrev pub SFields : Type 0
SFields = (x : Fields) × KFields x

-- its text, if the types can represent it, is a part that is read as it
abbrev pub KStmt : Stmt → Type 0
KStmt x = stmt_representable x ≡ true → (n : Nest) × Fills (stmt_text x) (n ∷ []) × ((read n).stmt ≡ x)

abbrev pub SStmt : Type 0
SStmt = (x : Stmt) × KStmt x

-- its text, if the types can represent it, is a part that is read as it
abbrev pub KStr : Str → Type 0
KStr x = str_representable x ≡ true → (n : Nest) × Fills (str_text x) (n ∷ []) × ((read n).string ≡ x)

abbrev pub SStr : Type 0
SStr = (x : Str) × KStr x

-- its text, if the types can represent it, is a part that is read as it
abbrev pub KStrPiece : StrPiece → Type 0
KStrPiece x = piece_representable x ≡ true → (n : Nest) × Fills (piece_text x) (n ∷ []) × ((read n).piece ≡ x)

abbrev pub SStrPiece : Type 0
SStrPiece = (x : StrPiece) × KStrPiece x

-- its text, if the types can represent it, is a part that is read as it
abbrev pub KChainPart : ChainPart → Type 0
KChainPart x = part_representable x ≡ true → (n : Nest) × Fills (part_text x) (n ∷ []) × ((read n).part ≡ x)

abbrev pub SChainPart : Type 0
SChainPart = (x : ChainPart) × KChainPart x

-- its text, if the types can represent it, is a part that is read as it
abbrev pub KPatArm : PatArm → Type 0
KPatArm x = pat_arm_representable x ≡ true → (n : Nest) × Fills (pat_arm_text x) (n ∷ []) × ((read n).pat_arm ≡ x)

abbrev pub SPatArm : Type 0
SPatArm = (x : PatArm) × KPatArm x

-- its text, if the types can represent it, is a part that is read as it
abbrev pub KSetTo : SetTo → Type 0
KSetTo x = set_representable x ≡ true → (n : Nest) × Fills (set_text x) (n ∷ []) × ((read n).set ≡ x)

abbrev pub SSetTo : Type 0
SSetTo = (x : SetTo) × KSetTo x

-- its text, if the types can represent it, is a part that is read as it
abbrev pub KStmtArm : StmtArm → Type 0
KStmtArm x = arm_representable x ≡ true → (n : Nest) × Fills (arm_text x) (n ∷ []) × ((read n).arm ≡ x)

abbrev pub SStmtArm : Type 0
SStmtArm = (x : StmtArm) × KStmtArm x

abbrev pub field_base : o.Fields-F SFields SStmt SStr SStrPiece SChainPart SPatArm SSetTo SStmtArm → o.Fields-F Fields Stmt Str StrPiece ChainPart PatArm SetTo StmtArm
field_base y = map-Fields SFields SStmt SStr SStrPiece SChainPart SPatArm SSetTo SStmtArm Fields Stmt Str StrPiece ChainPart PatArm SetTo StmtArm (λ y. y.0) (λ y. y.0) (λ y. y.0) (λ y. y.0) (λ y. y.0) (λ y. y.0) (λ y. y.0) (λ y. y.0) y

abbrev pub field_words : o.Fields-F Fields Stmt Str StrPiece ChainPart PatArm SetTo StmtArm → o.Fields-F Text Text Text Text Text Text Text Text
field_words x = map-Fields Fields Stmt Str StrPiece ChainPart PatArm SetTo StmtArm Text Text Text Text Text Text Text Text field_text stmt_text str_text piece_text part_text pat_arm_text set_text arm_text x

abbrev pub field_tests : o.Fields-F Fields Stmt Str StrPiece ChainPart PatArm SetTo StmtArm → o.Fields-F Bool Bool Bool Bool Bool Bool Bool Bool
field_tests x = map-Fields Fields Stmt Str StrPiece ChainPart PatArm SetTo StmtArm Bool Bool Bool Bool Bool Bool Bool Bool field_representable stmt_representable str_representable piece_representable part_representable pat_arm_representable set_representable arm_representable x

abbrev pub stmt_base : o.Stmt-F SFields SStmt SStr SStrPiece SChainPart SPatArm SSetTo SStmtArm → o.Stmt-F Fields Stmt Str StrPiece ChainPart PatArm SetTo StmtArm
stmt_base y = map-Stmt SFields SStmt SStr SStrPiece SChainPart SPatArm SSetTo SStmtArm Fields Stmt Str StrPiece ChainPart PatArm SetTo StmtArm (λ y. y.0) (λ y. y.0) (λ y. y.0) (λ y. y.0) (λ y. y.0) (λ y. y.0) (λ y. y.0) (λ y. y.0) y

abbrev pub stmt_words : o.Stmt-F Fields Stmt Str StrPiece ChainPart PatArm SetTo StmtArm → o.Stmt-F Text Text Text Text Text Text Text Text
stmt_words x = map-Stmt Fields Stmt Str StrPiece ChainPart PatArm SetTo StmtArm Text Text Text Text Text Text Text Text field_text stmt_text str_text piece_text part_text pat_arm_text set_text arm_text x

abbrev pub stmt_tests : o.Stmt-F Fields Stmt Str StrPiece ChainPart PatArm SetTo StmtArm → o.Stmt-F Bool Bool Bool Bool Bool Bool Bool Bool
stmt_tests x = map-Stmt Fields Stmt Str StrPiece ChainPart PatArm SetTo StmtArm Bool Bool Bool Bool Bool Bool Bool Bool field_representable stmt_representable str_representable piece_representable part_representable pat_arm_representable set_representable arm_representable x

abbrev pub str_base : o.Str-F SFields SStmt SStr SStrPiece SChainPart SPatArm SSetTo SStmtArm → o.Str-F Fields Stmt Str StrPiece ChainPart PatArm SetTo StmtArm
str_base y = map-Str SFields SStmt SStr SStrPiece SChainPart SPatArm SSetTo SStmtArm Fields Stmt Str StrPiece ChainPart PatArm SetTo StmtArm (λ y. y.0) (λ y. y.0) (λ y. y.0) (λ y. y.0) (λ y. y.0) (λ y. y.0) (λ y. y.0) (λ y. y.0) y

abbrev pub str_words : o.Str-F Fields Stmt Str StrPiece ChainPart PatArm SetTo StmtArm → o.Str-F Text Text Text Text Text Text Text Text
str_words x = map-Str Fields Stmt Str StrPiece ChainPart PatArm SetTo StmtArm Text Text Text Text Text Text Text Text field_text stmt_text str_text piece_text part_text pat_arm_text set_text arm_text x

abbrev pub str_tests : o.Str-F Fields Stmt Str StrPiece ChainPart PatArm SetTo StmtArm → o.Str-F Bool Bool Bool Bool Bool Bool Bool Bool
str_tests x = map-Str Fields Stmt Str StrPiece ChainPart PatArm SetTo StmtArm Bool Bool Bool Bool Bool Bool Bool Bool field_representable stmt_representable str_representable piece_representable part_representable pat_arm_representable set_representable arm_representable x

abbrev pub piece_base : o.StrPiece-F SFields SStmt SStr SStrPiece SChainPart SPatArm SSetTo SStmtArm → o.StrPiece-F Fields Stmt Str StrPiece ChainPart PatArm SetTo StmtArm
piece_base y = map-StrPiece SFields SStmt SStr SStrPiece SChainPart SPatArm SSetTo SStmtArm Fields Stmt Str StrPiece ChainPart PatArm SetTo StmtArm (λ y. y.0) (λ y. y.0) (λ y. y.0) (λ y. y.0) (λ y. y.0) (λ y. y.0) (λ y. y.0) (λ y. y.0) y

abbrev pub piece_words : o.StrPiece-F Fields Stmt Str StrPiece ChainPart PatArm SetTo StmtArm → o.StrPiece-F Text Text Text Text Text Text Text Text
piece_words x = map-StrPiece Fields Stmt Str StrPiece ChainPart PatArm SetTo StmtArm Text Text Text Text Text Text Text Text field_text stmt_text str_text piece_text part_text pat_arm_text set_text arm_text x

abbrev pub piece_tests : o.StrPiece-F Fields Stmt Str StrPiece ChainPart PatArm SetTo StmtArm → o.StrPiece-F Bool Bool Bool Bool Bool Bool Bool Bool
piece_tests x = map-StrPiece Fields Stmt Str StrPiece ChainPart PatArm SetTo StmtArm Bool Bool Bool Bool Bool Bool Bool Bool field_representable stmt_representable str_representable piece_representable part_representable pat_arm_representable set_representable arm_representable x

abbrev pub part_base : o.ChainPart-F SFields SStmt SStr SStrPiece SChainPart SPatArm SSetTo SStmtArm → o.ChainPart-F Fields Stmt Str StrPiece ChainPart PatArm SetTo StmtArm
part_base y = map-ChainPart SFields SStmt SStr SStrPiece SChainPart SPatArm SSetTo SStmtArm Fields Stmt Str StrPiece ChainPart PatArm SetTo StmtArm (λ y. y.0) (λ y. y.0) (λ y. y.0) (λ y. y.0) (λ y. y.0) (λ y. y.0) (λ y. y.0) (λ y. y.0) y

abbrev pub part_words : o.ChainPart-F Fields Stmt Str StrPiece ChainPart PatArm SetTo StmtArm → o.ChainPart-F Text Text Text Text Text Text Text Text
part_words x = map-ChainPart Fields Stmt Str StrPiece ChainPart PatArm SetTo StmtArm Text Text Text Text Text Text Text Text field_text stmt_text str_text piece_text part_text pat_arm_text set_text arm_text x

abbrev pub part_tests : o.ChainPart-F Fields Stmt Str StrPiece ChainPart PatArm SetTo StmtArm → o.ChainPart-F Bool Bool Bool Bool Bool Bool Bool Bool
part_tests x = map-ChainPart Fields Stmt Str StrPiece ChainPart PatArm SetTo StmtArm Bool Bool Bool Bool Bool Bool Bool Bool field_representable stmt_representable str_representable piece_representable part_representable pat_arm_representable set_representable arm_representable x

abbrev pub pat_arm_base : o.PatArm-F SFields SStmt SStr SStrPiece SChainPart SPatArm SSetTo SStmtArm → o.PatArm-F Fields Stmt Str StrPiece ChainPart PatArm SetTo StmtArm
pat_arm_base y = map-PatArm SFields SStmt SStr SStrPiece SChainPart SPatArm SSetTo SStmtArm Fields Stmt Str StrPiece ChainPart PatArm SetTo StmtArm (λ y. y.0) (λ y. y.0) (λ y. y.0) (λ y. y.0) (λ y. y.0) (λ y. y.0) (λ y. y.0) (λ y. y.0) y

abbrev pub pat_arm_words : o.PatArm-F Fields Stmt Str StrPiece ChainPart PatArm SetTo StmtArm → o.PatArm-F Text Text Text Text Text Text Text Text
pat_arm_words x = map-PatArm Fields Stmt Str StrPiece ChainPart PatArm SetTo StmtArm Text Text Text Text Text Text Text Text field_text stmt_text str_text piece_text part_text pat_arm_text set_text arm_text x

abbrev pub pat_arm_tests : o.PatArm-F Fields Stmt Str StrPiece ChainPart PatArm SetTo StmtArm → o.PatArm-F Bool Bool Bool Bool Bool Bool Bool Bool
pat_arm_tests x = map-PatArm Fields Stmt Str StrPiece ChainPart PatArm SetTo StmtArm Bool Bool Bool Bool Bool Bool Bool Bool field_representable stmt_representable str_representable piece_representable part_representable pat_arm_representable set_representable arm_representable x

abbrev pub set_base : o.SetTo-F SFields SStmt SStr SStrPiece SChainPart SPatArm SSetTo SStmtArm → o.SetTo-F Fields Stmt Str StrPiece ChainPart PatArm SetTo StmtArm
set_base y = map-SetTo SFields SStmt SStr SStrPiece SChainPart SPatArm SSetTo SStmtArm Fields Stmt Str StrPiece ChainPart PatArm SetTo StmtArm (λ y. y.0) (λ y. y.0) (λ y. y.0) (λ y. y.0) (λ y. y.0) (λ y. y.0) (λ y. y.0) (λ y. y.0) y

abbrev pub set_words : o.SetTo-F Fields Stmt Str StrPiece ChainPart PatArm SetTo StmtArm → o.SetTo-F Text Text Text Text Text Text Text Text
set_words x = map-SetTo Fields Stmt Str StrPiece ChainPart PatArm SetTo StmtArm Text Text Text Text Text Text Text Text field_text stmt_text str_text piece_text part_text pat_arm_text set_text arm_text x

abbrev pub set_tests : o.SetTo-F Fields Stmt Str StrPiece ChainPart PatArm SetTo StmtArm → o.SetTo-F Bool Bool Bool Bool Bool Bool Bool Bool
set_tests x = map-SetTo Fields Stmt Str StrPiece ChainPart PatArm SetTo StmtArm Bool Bool Bool Bool Bool Bool Bool Bool field_representable stmt_representable str_representable piece_representable part_representable pat_arm_representable set_representable arm_representable x

abbrev pub arm_base : o.StmtArm-F SFields SStmt SStr SStrPiece SChainPart SPatArm SSetTo SStmtArm → o.StmtArm-F Fields Stmt Str StrPiece ChainPart PatArm SetTo StmtArm
arm_base y = map-StmtArm SFields SStmt SStr SStrPiece SChainPart SPatArm SSetTo SStmtArm Fields Stmt Str StrPiece ChainPart PatArm SetTo StmtArm (λ y. y.0) (λ y. y.0) (λ y. y.0) (λ y. y.0) (λ y. y.0) (λ y. y.0) (λ y. y.0) (λ y. y.0) y

abbrev pub arm_words : o.StmtArm-F Fields Stmt Str StrPiece ChainPart PatArm SetTo StmtArm → o.StmtArm-F Text Text Text Text Text Text Text Text
arm_words x = map-StmtArm Fields Stmt Str StrPiece ChainPart PatArm SetTo StmtArm Text Text Text Text Text Text Text Text field_text stmt_text str_text piece_text part_text pat_arm_text set_text arm_text x

abbrev pub arm_tests : o.StmtArm-F Fields Stmt Str StrPiece ChainPart PatArm SetTo StmtArm → o.StmtArm-F Bool Bool Bool Bool Bool Bool Bool Bool
arm_tests x = map-StmtArm Fields Stmt Str StrPiece ChainPart PatArm SetTo StmtArm Bool Bool Bool Bool Bool Bool Bool Bool field_representable stmt_representable str_representable piece_representable part_representable pat_arm_representable set_representable arm_representable x

-- ---- lists

module _ (X : Type 0) (text : X → Text) (held : X → Bool) (f : Read → X) where
  abbrev Sure : Type 0
  Sure = (x : X) × (held x ≡ true → (n : Nest) × Fills (text x) (n ∷ []) × (f (read n) ≡ x))

  abbrev firsts : List Sure → List X
  firsts ys = map (λ y. y.0) ys

  pub all_added : (ys : List Sure) → all_hold (map held (firsts ys)) ≡ true
      → (ns : List Nest) × Adds (each_spaced (map text (firsts ys))) ns × (map f (reads ns) ≡ firsts ys)
  all_added [] h = ([], adds_none, refl)
  all_added (y ∷ ys) h =
      let k = and_parts (held y.0) (all_hold (map held (firsts ys))) h in
      let one = y.1 k.0 in
      let more = all_added ys k.1 in (
        one.0 ∷ more.0,
        adds_both (32 ∷ text y.0) (each_spaced (map text (firsts ys))) (one.0 ∷ []) more.0 (adds_space (text y.0) (one.0 ∷ []) one.1) more.1,
        ap (λ x. x ∷ map f (reads more.0)) one.2 ∙ ap (λ l. y.0 ∷ l) more.2,
      )

  pub all_filled : (ys : List Sure) → all_hold (map held (firsts ys)) ≡ true
      → (ns : List Nest) × Fills (between (λ t. t) (map text (firsts ys))) ns × (map f (reads ns) ≡ firsts ys)
  all_filled [] h = ([], fills_none, refl)
  all_filled (y ∷ ys) h =
      let k = and_parts (held y.0) (all_hold (map held (firsts ys))) h in
      let one = y.1 k.0 in
      let more = all_added ys k.1 in (
        one.0 ∷ more.0,
        fills_both (text y.0) (each_spaced (map text (firsts ys))) (one.0 ∷ []) more.0 one.1 more.1,
        ap (λ x. x ∷ map f (reads more.0)) one.2 ∙ ap (λ l. y.0 ∷ l) more.2,
      )

abbrev pub fields_of : List SFields → List Fields
fields_of ys = map (λ y. y.0) ys

abbrev pub fields_added : (ys : List SFields) → all_hold (map field_representable (map (λ y. y.0) ys)) ≡ true → (ns : List Nest) × Adds (each_spaced (map field_text (map (λ y. y.0) ys))) ns × (map (λ r. r.field) (reads ns) ≡ map (λ y. y.0) ys)
fields_added = all_added Fields field_text field_representable (λ r. r.field)

abbrev pub stmts_of : List SStmt → List Stmt
stmts_of ys = map (λ y. y.0) ys

abbrev pub stmts_added : (ys : List SStmt) → all_hold (map stmt_representable (map (λ y. y.0) ys)) ≡ true → (ns : List Nest) × Adds (each_spaced (map stmt_text (map (λ y. y.0) ys))) ns × (map (λ r. r.stmt) (reads ns) ≡ map (λ y. y.0) ys)
stmts_added = all_added Stmt stmt_text stmt_representable (λ r. r.stmt)

abbrev pub strs_of : List SStr → List Str
strs_of ys = map (λ y. y.0) ys

abbrev pub strs_added : (ys : List SStr) → all_hold (map str_representable (map (λ y. y.0) ys)) ≡ true → (ns : List Nest) × Adds (each_spaced (map str_text (map (λ y. y.0) ys))) ns × (map (λ r. r.string) (reads ns) ≡ map (λ y. y.0) ys)
strs_added = all_added Str str_text str_representable (λ r. r.string)

abbrev pub pieces_of : List SStrPiece → List StrPiece
pieces_of ys = map (λ y. y.0) ys

abbrev pub pieces_added : (ys : List SStrPiece) → all_hold (map piece_representable (map (λ y. y.0) ys)) ≡ true → (ns : List Nest) × Adds (each_spaced (map piece_text (map (λ y. y.0) ys))) ns × (map (λ r. r.piece) (reads ns) ≡ map (λ y. y.0) ys)
pieces_added = all_added StrPiece piece_text piece_representable (λ r. r.piece)

abbrev pub parts_of : List SChainPart → List ChainPart
parts_of ys = map (λ y. y.0) ys

abbrev pub parts_added : (ys : List SChainPart) → all_hold (map part_representable (map (λ y. y.0) ys)) ≡ true → (ns : List Nest) × Adds (each_spaced (map part_text (map (λ y. y.0) ys))) ns × (map (λ r. r.part) (reads ns) ≡ map (λ y. y.0) ys)
parts_added = all_added ChainPart part_text part_representable (λ r. r.part)

abbrev pub pat_arms_of : List SPatArm → List PatArm
pat_arms_of ys = map (λ y. y.0) ys

abbrev pub pat_arms_added : (ys : List SPatArm) → all_hold (map pat_arm_representable (map (λ y. y.0) ys)) ≡ true → (ns : List Nest) × Adds (each_spaced (map pat_arm_text (map (λ y. y.0) ys))) ns × (map (λ r. r.pat_arm) (reads ns) ≡ map (λ y. y.0) ys)
pat_arms_added = all_added PatArm pat_arm_text pat_arm_representable (λ r. r.pat_arm)

abbrev pub sets_of : List SSetTo → List SetTo
sets_of ys = map (λ y. y.0) ys

abbrev pub sets_added : (ys : List SSetTo) → all_hold (map set_representable (map (λ y. y.0) ys)) ≡ true → (ns : List Nest) × Adds (each_spaced (map set_text (map (λ y. y.0) ys))) ns × (map (λ r. r.set) (reads ns) ≡ map (λ y. y.0) ys)
sets_added = all_added SetTo set_text set_representable (λ r. r.set)

abbrev pub arms_of : List SStmtArm → List StmtArm
arms_of ys = map (λ y. y.0) ys

abbrev pub arms_added : (ys : List SStmtArm) → all_hold (map arm_representable (map (λ y. y.0) ys)) ≡ true → (ns : List Nest) × Adds (each_spaced (map arm_text (map (λ y. y.0) ys))) ns × (map (λ r. r.arm) (reads ns) ≡ map (λ y. y.0) ys)
arms_added = all_added StmtArm arm_text arm_representable (λ r. r.arm)

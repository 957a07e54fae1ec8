-- What a command without unsupported forms becomes may stand in a program.
use Rattle.std.proofs.Common.{◌≡◌, ℕ, Bool, true, false, not, ◌&&◌, ◌||◌, List, [], ◌∷◌, ◌++◌, map, length, Option, Some, None, refl, sym, ap, ◌∙◌, if◌then◌else◌, codes, nat_le, arith}
use Rattle.std.specs.List.{list_all}
use Rattle.std.specs.Str.{bytes_eq}
use Rattle.std.proofs.lemmas.Bool.{and_from, and_parts, le-leb}
use Rattle.shell_syntax.specs.declared.key.Key.{Key}
use Rattle.shell_syntax.specs.declared.key.Key.TheVariants as key
use Rattle.shell_syntax.specs.declared.redirect.Redirect.{Redirect}
use Rattle.shell_syntax.specs.declared.redirect.Redirect.TheVariants as redirect
use Rattle.shell_forms.specs.Names.{Text}
use Rattle.shell_forms.specs.Forms.{when, is_name, is_named}
use Rattle.shell_forms.specs.declared.place.Place.{Place}
use Rattle.colis_syntax.specs.declared.syntax.Stmt.{Stmt, roll-Stmt}
use Rattle.colis_syntax.specs.declared.syntax.Stmt.TheVariants as stmt
use Rattle.colis_syntax.specs.declared.syntax.Str.{Str, roll-Str}
use Rattle.colis_syntax.specs.declared.syntax.Str.TheVariants as string
use Rattle.colis_syntax.specs.declared.syntax.StrPiece.{StrPiece, roll-StrPiece}
use Rattle.colis_syntax.specs.declared.syntax.StrPiece.TheVariants as piece
use Rattle.colis_syntax.specs.declared.syntax.Fields.{Fields, roll-Fields}
use Rattle.colis_syntax.specs.declared.syntax.Fields.TheVariants as fields
use Rattle.colis_syntax.specs.declared.syntax.Fields.TheOpen as c
use Rattle.colis_syntax.specs.declared.syntax.Fields.TheFolds.{fold-roll-Fields, fold-roll-Stmt, fold-roll-Str, fold-roll-StrPiece, fold-roll-SetTo, fold-roll-ChainPart, fold-roll-StmtArm, fold-roll-PatArm, map-Stmt, map-Str, map-StrPiece, map-Fields}
use Rattle.colis_syntax.specs.declared.syntax.SetTo.{SetTo, roll-SetTo}
use Rattle.colis_syntax.specs.declared.syntax.ChainPart.{ChainPart, roll-ChainPart}
use Rattle.colis_syntax.specs.declared.syntax.StmtArm.{StmtArm, roll-StmtArm}
use Rattle.colis_syntax.specs.declared.syntax.PatArm.{PatArm, roll-PatArm}
use Rattle.colis_syntax.specs.declared.def.Def.{Def}
use Rattle.colis_syntax.specs.WellFormed.{Scope, Test, scope_of, all_pass, is_def, is_argument, stmt_passes, str_passes, piece_passes, field_passes, set_passes, part_passes, arm_passes, pat_arm_passes, fields_layer, stmt_layer, str_layer, piece_layer, part_layer, pat_arm_layer, set_layer, arm_layer}
use Rattle.shell_to_colis.specs.declared.kinds.Kind.{Kind}
use Rattle.shell_to_colis.specs.declared.kinds.Kind.TheVariants as kind
use Rattle.shell_to_colis.specs.declared.words.Quoting.{Quoting}
use Rattle.shell_to_colis.specs.declared.words.Quoting.TheVariants as quoting
use Rattle.shell_to_colis.specs.Translated.{To, PartTo, WordTo, each, piece_of, pieces_to, joined_to, is_all_alone, field_to, fields_to, rest_of, parameter_to, default_to, flag_kind, kind_of, assigned_to, simple_to, redirect_to, redirected_to, seq_to, chain_to, if_to, condition_to, body_to}
use Rattle.shell_to_colis.proofs.Nodes.{StmtLayer, StrLayer, PieceLayer, FieldsLayer}

-- ---- lists without items

pub no_front : {A : Type 0} (xs ys : List A) → xs ++ ys ≡ [] → xs ≡ []
no_front [] ys e = refl
no_front (x ∷ xs) ys e = absurd (cc e)

pub no_back : {A : Type 0} (xs ys : List A) → xs ++ ys ≡ [] → ys ≡ []
no_back [] ys e = e
no_back (x ∷ xs) ys e = absurd (cc e)

pub not_when : (b : Bool) (f : _) (at : ℕ) → when b f at ≡ [] → b ≡ false
not_when true f at e = absurd (cc e)
not_when false f at e = refl

pub has_one : {A : Type 0} (x : A) (xs : List A) → nat_le 1 (length (x ∷ xs)) ≡ true
has_one x xs = le-leb 1 (length (x ∷ xs)) (omega arith)

has_two : {A : Type 0} (x y : A) (xs : List A) → nat_le 2 (length (x ∷ y ∷ xs)) ≡ true
has_two x y xs = le-leb 2 (length (x ∷ y ∷ xs)) (omega arith)

-- ---- what may stand in a scope, construct by construct

abbrev pub stmt_test : StmtLayer → Test
stmt_test x = stmt_layer (map-Stmt Fields Stmt Str StrPiece ChainPart PatArm SetTo StmtArm _ _ _ _ _ _ _ _ field_passes stmt_passes str_passes piece_passes part_passes pat_arm_passes set_passes arm_passes x)

pub stmt_at : (x : StmtLayer) (q : Stmt) (s : Scope) → roll-Stmt x ≡ q → stmt_passes q s ≡ stmt_test x s
stmt_at x q s e = ap (λ q. stmt_passes q s) (sym e) ∙ ap (λ (t : Test). t s) (fold-roll-Stmt Test Test Test Test Test Test Test Test fields_layer stmt_layer str_layer piece_layer part_layer pat_arm_layer set_layer arm_layer x)

abbrev pub str_test : StrLayer → Test
str_test x = str_layer (map-Str Fields Stmt Str StrPiece ChainPart PatArm SetTo StmtArm _ _ _ _ _ _ _ _ field_passes stmt_passes str_passes piece_passes part_passes pat_arm_passes set_passes arm_passes x)

pub str_at : (x : StrLayer) (q : Str) (s : Scope) → roll-Str x ≡ q → str_passes q s ≡ str_test x s
str_at x q s e = ap (λ q. str_passes q s) (sym e) ∙ ap (λ (t : Test). t s) (fold-roll-Str Test Test Test Test Test Test Test Test fields_layer stmt_layer str_layer piece_layer part_layer pat_arm_layer set_layer arm_layer x)

abbrev piece_test : PieceLayer → Test
piece_test x = piece_layer (map-StrPiece Fields Stmt Str StrPiece ChainPart PatArm SetTo StmtArm _ _ _ _ _ _ _ _ field_passes stmt_passes str_passes piece_passes part_passes pat_arm_passes set_passes arm_passes x)

piece_at : (x : PieceLayer) (q : StrPiece) (s : Scope) → roll-StrPiece x ≡ q → piece_passes q s ≡ piece_test x s
piece_at x q s e = ap (λ q. piece_passes q s) (sym e) ∙ ap (λ (t : Test). t s) (fold-roll-StrPiece Test Test Test Test Test Test Test Test fields_layer stmt_layer str_layer piece_layer part_layer pat_arm_layer set_layer arm_layer x)

abbrev field_test : FieldsLayer → Test
field_test x = fields_layer (map-Fields Fields Stmt Str StrPiece ChainPart PatArm SetTo StmtArm _ _ _ _ _ _ _ _ field_passes stmt_passes str_passes piece_passes part_passes pat_arm_passes set_passes arm_passes x)

field_at : (x : FieldsLayer) (q : Fields) (s : Scope) → roll-Fields x ≡ q → field_passes q s ≡ field_test x s
field_at x q s e = ap (λ q. field_passes q s) (sym e) ∙ ap (λ (t : Test). t s) (fold-roll-Fields Test Test Test Test Test Test Test Test fields_layer stmt_layer str_layer piece_layer part_layer pat_arm_layer set_layer arm_layer x)

pub set_at : (name : Text) (value : Str) (s : Scope) → set_passes (roll-SetTo (record { name = name; value = value })) s ≡ str_passes value s
set_at name value s = ap (λ (t : Test). t s) (fold-roll-SetTo Test Test Test Test Test Test Test Test fields_layer stmt_layer str_layer piece_layer part_layer pat_arm_layer set_layer arm_layer (record { name = name; value = value }))

pub part_at : (b : Bool) (q : Stmt) (s : Scope) → part_passes (roll-ChainPart (record { and = b; stmt = q })) s ≡ stmt_passes q s
part_at b q s = ap (λ (t : Test). t s) (fold-roll-ChainPart Test Test Test Test Test Test Test Test fields_layer stmt_layer str_layer piece_layer part_layer pat_arm_layer set_layer arm_layer (record { and = b; stmt = q }))

pub arm_at : (x y : Stmt) (s : Scope) → arm_passes (roll-StmtArm (record { cond = x; body = y })) s ≡ (stmt_passes x s && stmt_passes y s)
arm_at x y s = ap (λ (t : Test). t s) (fold-roll-StmtArm Test Test Test Test Test Test Test Test fields_layer stmt_layer str_layer piece_layer part_layer pat_arm_layer set_layer arm_layer (record { cond = x; body = y }))

pub pat_arm_at : (ps : List (List StrPiece)) (y : Stmt) (s : Scope)
    → pat_arm_passes (roll-PatArm (record { patterns = ps; body = y })) s
    ≡ (nat_le 1 (length (map (map piece_passes) ps)) && (list_all (λ pieces. all_pass s pieces) (map (map piece_passes) ps) && stmt_passes y s))
pat_arm_at ps y s = ap (λ (t : Test). t s) (fold-roll-PatArm Test Test Test Test Test Test Test Test fields_layer stmt_layer str_layer piece_layer part_layer pat_arm_layer set_layer arm_layer (record { patterns = ps; body = y }))

-- ---- members of nodes

abbrev pub all_stmts : Scope → List Stmt → Bool
all_stmts s stmts = all_pass s (map stmt_passes stmts)

abbrev pub all_fields : Scope → List Fields → Bool
all_fields s fs = all_pass s (map field_passes fs)

abbrev pub all_strs : Scope → List Str → Bool
all_strs s strs = all_pass s (map str_passes strs)

abbrev pub all_pieces : Scope → List StrPiece → Bool
all_pieces s ps = all_pass s (map piece_passes ps)

fields_rest : (s : Scope) (fs : List Fields) → all_fields s fs ≡ true → all_fields s (rest_of fs) ≡ true
fields_rest s [] e = refl
fields_rest s (f ∷ fs) e = (and_parts (field_passes f s) (all_fields s fs) e).1

pub skip_passes : (s : Scope) → stmt_passes stmt.Skip s ≡ true
skip_passes s = stmt_at c.Skip stmt.Skip s stmt.rolls-Skip

pub not_passes : (s : Scope) (q : Stmt) → stmt_passes q s ≡ true → stmt_passes (stmt.Not q) s ≡ true
not_passes s q e = stmt_at (c.Not q) (stmt.Not q) s (stmt.rolls-Not q) ∙ e

pub seq_passes : (s : Scope) (qs : List Stmt) → all_stmts s qs ≡ true → stmt_passes (seq_to qs) s ≡ true
seq_passes s [] e = skip_passes s
seq_passes s (q ∷ []) e = (and_parts (stmt_passes q s) true e).0
seq_passes s (q ∷ r ∷ qs) e = stmt_at (c.Seq (q ∷ r ∷ qs)) (stmt.Seq (q ∷ r ∷ qs)) s (stmt.rolls-Seq (q ∷ r ∷ qs)) ∙ and_from _ (all_stmts s (q ∷ r ∷ qs)) (has_two (stmt_passes q) (stmt_passes r) (map stmt_passes qs)) e

pub chain_passes : (s : Scope) (q : Stmt) (ls : List ChainPart) → stmt_passes q s ≡ true → all_pass s (map part_passes ls) ≡ true → stmt_passes (chain_to q ls) s ≡ true
chain_passes s q [] e h = e
chain_passes s q (l ∷ ls) e h = stmt_at (c.Chain q (l ∷ ls)) (stmt.Chain q (l ∷ ls)) s (stmt.rolls-Chain q (l ∷ ls)) ∙ and_from _ (stmt_passes q s && all_pass s (map part_passes (l ∷ ls))) (has_one (part_passes l) (map part_passes ls)) (and_from (stmt_passes q s) _ e h)

pub if_passes : (s : Scope) (arms : List StmtArm) (q : Stmt) → all_pass s (map arm_passes arms) ≡ true → stmt_passes q s ≡ true → stmt_passes (if_to arms q) s ≡ true
if_passes s [] q e h = h
if_passes s (a ∷ arms) q e h = stmt_at (c.If (a ∷ arms) q) (stmt.If (a ∷ arms) q) s (stmt.rolls-If (a ∷ arms) q) ∙ and_from _ (all_pass s (map arm_passes (a ∷ arms)) && stmt_passes q s) (has_one (arm_passes a) (map arm_passes arms)) (and_from _ (stmt_passes q s) e h)

pub assigned_passes : (s : Scope) (at : ℕ) (sets : List SetTo) → all_pass s (map set_passes sets) ≡ true → stmt_passes (assigned_to at sets) s ≡ true
assigned_passes s at [] e = skip_passes s
assigned_passes s at (x ∷ sets) e = stmt_at (c.Set at (x ∷ sets)) (stmt.Set at (x ∷ sets)) s (stmt.rolls-Set at (x ∷ sets)) ∙ e

under_passes : (s : Scope) (at : ℕ) (r : Redirect) (q : Stmt) → stmt_passes q s ≡ true → stmt_passes (redirect_to at r q) s ≡ true
under_passes s at redirect.OutNull q e = stmt_at (c.Quiet q) (stmt.Quiet q) s (stmt.rolls-Quiet q) ∙ e
under_passes s at redirect.OutToErr q e = stmt_at (c.Quiet q) (stmt.Quiet q) s (stmt.rolls-Quiet q) ∙ e
under_passes s at redirect.ErrToOut q e = stmt_at (c.Err at q) (stmt.Err at q) s (stmt.rolls-Err at q) ∙ e
under_passes s at redirect.ErrNull q e = e
under_passes s at redirect.InNull q e = e

pub redirected_passes : (s : Scope) (at : ℕ) (rs : List Redirect) (q : Stmt) → stmt_passes q s ≡ true → stmt_passes (redirected_to at rs q) s ≡ true
redirected_passes s at [] q e = e
redirected_passes s at (r ∷ rs) q e = under_passes s at r (redirected_to at rs q) (redirected_passes s at rs q e)

pub condition_passes : (s : Scope) (until : Bool) (q : Stmt) → stmt_passes q s ≡ true → stmt_passes (condition_to until q) s ≡ true
condition_passes s true q e = not_passes s q e
condition_passes s false q e = e

pub body_passes : (s : Scope) (until : Bool) (q : Stmt) → stmt_passes q s ≡ true → stmt_passes (body_to until q) s ≡ true
body_passes s true q e =
    seq_passes s (stmt.Not stmt.Skip ∷ q ∷ []) (and_from _ _ (not_passes s stmt.Skip (skip_passes s)) (and_from _ true e refl))
body_passes s false q e = e

-- ---- words

abbrev pub values : WordTo → List Def → List Str
values word defs = map (λ (part : PartTo). part.value defs) word

piece_of_passes : (s : Scope) (q : Quoting) (v : Str) → str_passes v s ≡ true → piece_passes (piece_of q v) s ≡ true
piece_of_passes s quoting.Plain v e = piece_at (c.Plain v) (piece.Plain v) s (piece.rolls-Plain v) ∙ e
piece_of_passes s quoting.Quoted v e = piece_at (c.Quoted v) (piece.Quoted v) s (piece.rolls-Quoted v) ∙ e
piece_of_passes s quoting.Split v e = piece_at (c.Split v) (piece.Split v) s (piece.rolls-Split v) ∙ e

pub pieces_pass : (s : Scope) (word : WordTo) (defs : List Def) → all_strs s (values word defs) ≡ true → all_pieces s (pieces_to word defs) ≡ true
pieces_pass s [] defs e = refl
pieces_pass s (part ∷ word) defs e =
    let t = and_parts (str_passes (part.value defs) s) (all_strs s (values word defs)) e in
    and_from _ _ (piece_of_passes s part.quoting (part.value defs) t.0) (pieces_pass s word defs t.1)

pub args_pass : (s : Scope) → field_passes fields.Args s ≡ true
args_pass s = field_at c.Args fields.Args s fields.rolls-Args

word_field : (s : Scope) (b : Bool) (ps : List StrPiece) → all_pieces s ps ≡ true → field_passes (if b then fields.Args else fields.Word ps) s ≡ true
word_field s true ps e = field_at c.Args fields.Args s fields.rolls-Args
word_field s false ps e = field_at (c.Word ps) (fields.Word ps) s (fields.rolls-Word ps) ∙ e

pub field_pass : (s : Scope) (word : WordTo) (defs : List Def) → all_strs s (values word defs) ≡ true → field_passes (field_to word defs) s ≡ true
field_pass s word defs e = word_field s (is_all_alone word) (pieces_to word defs) (pieces_pass s word defs e)

pub joined_passes : (s : Scope) (word : WordTo) (defs : List Def) → all_strs s (values word defs) ≡ true → str_passes (joined_to word defs) s ≡ true
joined_passes s word defs e = str_at (c.Join (values word defs)) (string.Join (values word defs)) s (string.rolls-Join (values word defs)) ∙ e

argument_passes : (s : Scope) (n : ℕ) (b : Bool) → is_argument n ≡ b → str_passes (if b then string.Arg n else string.Join []) s ≡ true
argument_passes s n true e = str_at (c.Arg n) (string.Arg n) s (string.rolls-Arg n) ∙ e
argument_passes s n false e = str_at (c.Join []) (string.Join []) s (string.rolls-Join [])

pub parameter_passes : (s : Scope) (k : Key) → str_passes (parameter_to k) s ≡ true
parameter_passes s (key.Named x) = str_at (c.Var x) (string.Var x) s (string.rolls-Var x)
parameter_passes s (key.Arg n) = argument_passes s n (is_argument n) refl
parameter_passes s key.Count = str_at c.Count string.Count s string.rolls-Count

pub default_passes : (s : Scope) (d : Option Text) (v : Str) → str_passes v s ≡ true → str_passes (default_to d v) s ≡ true
default_passes s None v e = e
default_passes s (Some b) v e = str_at (c.Or v b) (string.Or v b) s (string.rolls-Or v b) ∙ e

-- ---- simple commands

-- what the place of a command has to allow
abbrev pub Allowed : Kind → Place → List Def → Type 0
Allowed kind.Break p earlier = p.in_loop ≡ true
Allowed kind.Continue p earlier = p.in_loop ≡ true
Allowed kind.Return p earlier = p.may_return ≡ true
Allowed (kind.Function name) p earlier = is_def name earlier ≡ true
Allowed kind.Assignments p earlier = Unit {0}
Allowed kind.Strict p earlier = Unit {0}
Allowed kind.Lax p earlier = Unit {0}
Allowed kind.Exit p earlier = Unit {0}
Allowed kind.Export p earlier = Unit {0}
Allowed kind.Unset p earlier = Unit {0}
Allowed kind.Utility p earlier = Unit {0}

if_kind : (K : Kind → Type 0) (b : Bool) (x y : Kind) → (b ≡ true → K x) → (b ≡ false → K y) → K (if b then x else y)
if_kind K true x y h k = h refl
if_kind K false x y h k = k refl

flag_allowed : (texts : List (Option Text)) (p : Place) (earlier : List Def) → Allowed (flag_kind texts) p earlier
flag_allowed [] p earlier = tt
flag_allowed (None ∷ texts) p earlier = tt
flag_allowed (Some flag ∷ texts) p earlier =
    if_kind (λ k. Allowed k p earlier) (bytes_eq flag (codes "-e")) kind.Strict kind.Lax (λ e. tt) (λ e. tt)

leaves_loop : (one two any loop : Bool) → ((one || (two || false)) && (any || not loop)) ≡ false → one ≡ true → loop ≡ true
leaves_loop one two any true e h = refl
leaves_loop true two true false e h = absurd (cc e)
leaves_loop true two false false e h = absurd (cc e)
leaves_loop false two any false e h = absurd (cc h)

next_turn : (one two any loop : Bool) → ((one || (two || false)) && (any || not loop)) ≡ false → two ≡ true → loop ≡ true
next_turn one two any true e h = refl
next_turn true true true false e h = absurd (cc e)
next_turn true true false false e h = absurd (cc e)
next_turn false true true false e h = absurd (cc e)
next_turn false true false false e h = absurd (cc e)
next_turn one false any false e h = absurd (cc h)

leaves_function : (one may : Bool) → (one && not may) ≡ false → one ≡ true → may ≡ true
leaves_function one true e h = refl
leaves_function true false e h = absurd (cc e)
leaves_function false false e h = absurd (cc h)

abbrev pub name_of : List (Option Text) → Option Text
name_of [] = None
name_of (name ∷ texts) = name

pub kind_allowed : (texts : List (Option Text)) (p : Place) (earlier : List Def) (any : Bool)
    → (is_named (name_of texts) (codes "break" ∷ codes "continue" ∷ []) && (any || not p.in_loop)) ≡ false
    → (is_name (name_of texts) (codes "return") && not p.may_return) ≡ false
    → Allowed (kind_of texts earlier) p earlier
kind_allowed [] p earlier any l r = tt
kind_allowed (None ∷ texts) p earlier any l r = tt
kind_allowed (Some name ∷ texts) p earlier any l r =
    let K : Kind → Type 0 = λ k. Allowed k p earlier in
    if_kind K (bytes_eq name (codes "set")) _ _ (λ e. flag_allowed texts p earlier) (λ _.
    if_kind K (bytes_eq name (codes "exit")) _ _ (λ e. tt) (λ _.
    if_kind K (bytes_eq name (codes "return")) _ _ (leaves_function (bytes_eq name (codes "return")) p.may_return r) (λ _.
    if_kind K (bytes_eq name (codes "break")) _ _ (leaves_loop (bytes_eq name (codes "break")) (bytes_eq name (codes "continue")) any p.in_loop l) (λ _.
    if_kind K (bytes_eq name (codes "continue")) _ _ (next_turn (bytes_eq name (codes "break")) (bytes_eq name (codes "continue")) any p.in_loop l) (λ _.
    if_kind K (bytes_eq name (codes "export")) _ _ (λ e. tt) (λ _.
    if_kind K (bytes_eq name (codes "unset")) _ _ (λ e. tt) (λ _.
    if_kind K (is_def name earlier) _ _ (λ e. e) (λ _. tt))))))))

-- the scope of a place, where these functions may be called
abbrev pub scope : Place → List Def → Scope
scope p defs = scope_of defs p.in_loop p.may_return

-- each function of the first is one of the second
abbrev pub Known : List Def → List Def → Type 0
Known earlier defs = (x : Text) → is_def x earlier ≡ true → is_def x defs ≡ true

pub simple_passes : (k : Kind) (p : Place) (earlier defs : List Def) → Known earlier defs → (at : ℕ) (assigns : List (To SetTo)) (words : List WordTo)
    → Allowed k p earlier → all_pass (scope p defs) (map set_passes (each assigns earlier)) ≡ true → all_fields (scope p defs) (fields_to words earlier) ≡ true
    → stmt_passes (simple_to at k assigns words earlier) (scope p defs) ≡ true
simple_passes kind.Assignments p earlier defs known at assigns words a e h = assigned_passes (scope p defs) at (each assigns earlier) e
simple_passes kind.Strict p earlier defs known at assigns words a e h = stmt_at c.Strict stmt.Strict (scope p defs) stmt.rolls-Strict
simple_passes kind.Lax p earlier defs known at assigns words a e h = stmt_at c.Lax stmt.Lax (scope p defs) stmt.rolls-Lax
simple_passes kind.Exit p earlier defs known at assigns words a e h =
    let fs = rest_of (fields_to words earlier) in
    stmt_at (c.Exit at fs) (stmt.Exit at fs) (scope p defs) (stmt.rolls-Exit at fs) ∙ fields_rest (scope p defs) (fields_to words earlier) h
simple_passes kind.Return p earlier defs known at assigns words a e h =
    let fs = rest_of (fields_to words earlier) in
    stmt_at (c.Return at fs) (stmt.Return at fs) (scope p defs) (stmt.rolls-Return at fs) ∙ and_from _ _ a (fields_rest (scope p defs) (fields_to words earlier) h)
simple_passes kind.Break p earlier defs known at assigns words a e h = stmt_at c.Break stmt.Break (scope p defs) stmt.rolls-Break ∙ a
simple_passes kind.Continue p earlier defs known at assigns words a e h = stmt_at c.Continue stmt.Continue (scope p defs) stmt.rolls-Continue ∙ a
simple_passes kind.Export p earlier defs known at assigns words a e h =
    let fs = rest_of (fields_to words earlier) in
    stmt_at (c.Export at fs) (stmt.Export at fs) (scope p defs) (stmt.rolls-Export at fs) ∙ fields_rest (scope p defs) (fields_to words earlier) h
simple_passes kind.Unset p earlier defs known at assigns words a e h =
    let fs = rest_of (fields_to words earlier) in
    stmt_at (c.Unset at fs) (stmt.Unset at fs) (scope p defs) (stmt.rolls-Unset at fs) ∙ fields_rest (scope p defs) (fields_to words earlier) h
simple_passes (kind.Function name) p earlier defs known at assigns words a e h =
    let fs = rest_of (fields_to words earlier) in
    stmt_at (c.Fun at name fs) (stmt.Fun at name fs) (scope p defs) (stmt.rolls-Fun at name fs) ∙ and_from _ _ (known name a) (fields_rest (scope p defs) (fields_to words earlier) h)
simple_passes kind.Utility p earlier defs known at assigns words a e h =
    let fs = fields_to words earlier in
    stmt_at (c.Call at fs) (stmt.Call at fs) (scope p defs) (stmt.rolls-Call at fs) ∙ h

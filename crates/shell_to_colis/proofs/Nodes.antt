-- What CoLiS does at each node, and that what is made there by the translation does what the shell's rule says.
use Rattle.std.proofs.Common.{◌≡◌, ℕ, Bool, true, false, List, [], ◌∷◌, map, Option, Some, None, refl, sym, ap, ◌∙◌, if◌then◌else◌}
use Rattle.shell_syntax.specs.declared.key.Key.{Key}
use Rattle.shell_syntax.specs.declared.key.Key.TheVariants as key
use Rattle.shell_syntax.specs.declared.redirect.Redirect.{Redirect}
use Rattle.shell_syntax.specs.declared.redirect.Redirect.TheVariants as redirect
use Rattle.shell_words.specs.Pieces.{PieceParts}
use Rattle.colis_syntax.specs.declared.syntax.Stmt.{Stmt, roll-Stmt}
use Rattle.colis_syntax.specs.declared.syntax.Stmt.TheVariants as stmt
use Rattle.colis_syntax.specs.declared.syntax.Str.{Str, roll-Str}
use Rattle.colis_syntax.specs.declared.syntax.Str.TheVariants as string
use Rattle.colis_syntax.specs.declared.syntax.StrPiece.{StrPiece, roll-StrPiece}
use Rattle.colis_syntax.specs.declared.syntax.StrPiece.TheVariants as piece
use Rattle.colis_syntax.specs.declared.syntax.Fields.{Fields, roll-Fields}
use Rattle.colis_syntax.specs.declared.syntax.Fields.TheVariants as fields
use Rattle.colis_syntax.specs.declared.syntax.Fields.TheOpen as c
use Rattle.colis_syntax.specs.declared.syntax.Fields.TheFolds.{fold-roll-Fields, fold-roll-Stmt, fold-roll-Str, fold-roll-StrPiece, fold-roll-SetTo, fold-roll-ChainPart, fold-roll-StmtArm, fold-roll-PatArm, map-Stmt, map-Str, map-StrPiece, map-Fields}
use Rattle.colis_syntax.specs.declared.syntax.SetTo.{SetTo, roll-SetTo}
use Rattle.colis_syntax.specs.declared.syntax.ChainPart.{ChainPart, roll-ChainPart}
use Rattle.colis_syntax.specs.declared.syntax.StmtArm.{StmtArm, roll-StmtArm}
use Rattle.colis_syntax.specs.declared.syntax.PatArm.{PatArm, roll-PatArm}
use Rattle.colis_syntax.specs.WellFormed.{is_argument}
use Rattle.colis_meaning.specs.Meaning.{StrDoes, PieceDoes, FieldsDo, SetDoes, ArmDoes, pieces_with, all_static, co_stmt, co_str, co_piece, co_fields, co_set, co_link, co_arm, co_case_arm}
use Rattle.colis_meaning.specs.Meaning as co
use Rattle.shell_rules.specs.State.{Text, Run, Go, Left, then_do, Doing, Action, Funs, Does, with, with_status, at_command}
use Rattle.shell_rules.specs.Expansion as word
use Rattle.shell_rules.specs.Commands as rule
use Rattle.shell_rules.specs.Loops as loops
use Rattle.shell_rules.specs.Cases as cases
use Rattle.shell_to_colis.specs.declared.words.Quoting.{Quoting}
use Rattle.shell_to_colis.specs.declared.words.Quoting.TheVariants as quoting
use Rattle.shell_to_colis.specs.Translated.{piece_of, parameter_to, default_to, expansion, assigned_to, redirect_to, redirected_to, seq_to, chain_to, if_to, condition_to, body_to}
use Rattle.shell_to_colis.specs.Shell.{PartDoes, WordDoes, AssignDoes, IfArmDoes, sh, sh_part, sh_assign, sh_case_arm, sh_if_arm, sh_link, sh_word}
use Rattle.shell_to_colis.specs.Shell as shell

-- ---- the meaning of CoLiS at a node

abbrev pub StmtLayer : Type 0
StmtLayer = c.Stmt-F Fields Stmt Str StrPiece ChainPart PatArm SetTo StmtArm

abbrev pub stmt_does : StmtLayer → Does
stmt_does x = co.stmt_layer (map-Stmt Fields Stmt Str StrPiece ChainPart PatArm SetTo StmtArm _ _ _ _ _ _ _ _ co_fields co_stmt co_str co_piece co_link co_case_arm co_set co_arm x)

pub co_at : (x : StmtLayer) (q : Stmt) (f : Funs) → roll-Stmt x ≡ q → co_stmt q f ≡ stmt_does x f
co_at x q f e = ap (λ q. co_stmt q f) (sym e) ∙ ap (λ (d : Does). d f) (fold-roll-Stmt FieldsDo Does StrDoes PieceDoes co.LinkDoes co.CaseArmDoes SetDoes ArmDoes co.fields_layer co.stmt_layer co.str_layer co.piece_layer co.link_layer co.case_arm_layer co.set_layer co.arm_layer x)

abbrev pub StrLayer : Type 0
StrLayer = c.Str-F Fields Stmt Str StrPiece ChainPart PatArm SetTo StmtArm

abbrev pub str_does : StrLayer → StrDoes
str_does x = co.str_layer (map-Str Fields Stmt Str StrPiece ChainPart PatArm SetTo StmtArm _ _ _ _ _ _ _ _ co_fields co_stmt co_str co_piece co_link co_case_arm co_set co_arm x)

str_is : (x : StrLayer) (q : Str) → roll-Str x ≡ q → co_str q ≡ str_does x
str_is x q e = ap co_str (sym e) ∙ fold-roll-Str FieldsDo Does StrDoes PieceDoes co.LinkDoes co.CaseArmDoes SetDoes ArmDoes co.fields_layer co.stmt_layer co.str_layer co.piece_layer co.link_layer co.case_arm_layer co.set_layer co.arm_layer x

pub str_at : (x : StrLayer) (q : Str) (f : Funs) → roll-Str x ≡ q → (co_str q).value f ≡ (str_does x).value f
str_at x q f e = ap (λ (d : StrDoes). d.value f) (str_is x q e)

pub str_static : (x : StrLayer) (q : Str) → roll-Str x ≡ q → (co_str q).static ≡ (str_does x).static
str_static x q e = ap (λ (d : StrDoes). d.static) (str_is x q e)

abbrev pub PieceLayer : Type 0
PieceLayer = c.StrPiece-F Fields Stmt Str StrPiece ChainPart PatArm SetTo StmtArm

abbrev piece_does : PieceLayer → PieceDoes
piece_does x = co.piece_layer (map-StrPiece Fields Stmt Str StrPiece ChainPart PatArm SetTo StmtArm _ _ _ _ _ _ _ _ co_fields co_stmt co_str co_piece co_link co_case_arm co_set co_arm x)

piece_is : (x : PieceLayer) (q : StrPiece) → roll-StrPiece x ≡ q → co_piece q ≡ piece_does x
piece_is x q e = ap co_piece (sym e) ∙ fold-roll-StrPiece FieldsDo Does StrDoes PieceDoes co.LinkDoes co.CaseArmDoes SetDoes ArmDoes co.fields_layer co.stmt_layer co.str_layer co.piece_layer co.link_layer co.case_arm_layer co.set_layer co.arm_layer x

piece_at : (x : PieceLayer) (q : StrPiece) (f : Funs) → roll-StrPiece x ≡ q → (co_piece q).piece f ≡ (piece_does x).piece f
piece_at x q f e = ap (λ (d : PieceDoes). d.piece f) (piece_is x q e)

piece_static : (x : PieceLayer) (q : StrPiece) → roll-StrPiece x ≡ q → (co_piece q).static ≡ (piece_does x).static
piece_static x q e = ap (λ (d : PieceDoes). d.static) (piece_is x q e)

abbrev pub FieldsLayer : Type 0
FieldsLayer = c.Fields-F Fields Stmt Str StrPiece ChainPart PatArm SetTo StmtArm

abbrev fields_do : FieldsLayer → FieldsDo
fields_do x = co.fields_layer (map-Fields Fields Stmt Str StrPiece ChainPart PatArm SetTo StmtArm _ _ _ _ _ _ _ _ co_fields co_stmt co_str co_piece co_link co_case_arm co_set co_arm x)

fields_is : (x : FieldsLayer) (q : Fields) → roll-Fields x ≡ q → co_fields q ≡ fields_do x
fields_is x q e = ap co_fields (sym e) ∙ fold-roll-Fields FieldsDo Does StrDoes PieceDoes co.LinkDoes co.CaseArmDoes SetDoes ArmDoes co.fields_layer co.stmt_layer co.str_layer co.piece_layer co.link_layer co.case_arm_layer co.set_layer co.arm_layer x

pub fields_at : (x : FieldsLayer) (q : Fields) (f : Funs) → roll-Fields x ≡ q → (co_fields q).fields f ≡ (fields_do x).fields f
fields_at x q f e = ap (λ (d : FieldsDo). d.fields f) (fields_is x q e)

fields_static : (x : FieldsLayer) (q : Fields) → roll-Fields x ≡ q → (co_fields q).static ≡ (fields_do x).static
fields_static x q e = ap (λ (d : FieldsDo). d.static) (fields_is x q e)

pub set_at : (name : Text) (value : Str) (f : Funs) → co_set (roll-SetTo (record { name = name; value = value })) f ≡ (name, (co_str value).value f)
set_at name value f = ap (λ (d : SetDoes). d f) (fold-roll-SetTo FieldsDo Does StrDoes PieceDoes co.LinkDoes co.CaseArmDoes SetDoes ArmDoes co.fields_layer co.stmt_layer co.str_layer co.piece_layer co.link_layer co.case_arm_layer co.set_layer co.arm_layer (record { name = name; value = value }))

pub link_at : (b : Bool) (q : Stmt) (f : Funs) → co_link (roll-ChainPart (record { and = b; stmt = q })) f ≡ (b, co_stmt q f)
link_at b q f = ap (λ (d : co.LinkDoes). d f) (fold-roll-ChainPart FieldsDo Does StrDoes PieceDoes co.LinkDoes co.CaseArmDoes SetDoes ArmDoes co.fields_layer co.stmt_layer co.str_layer co.piece_layer co.link_layer co.case_arm_layer co.set_layer co.arm_layer (record { and = b; stmt = q }))

pub arm_at : (x y : Stmt) (f : Funs) → co_arm (roll-StmtArm (record { cond = x; body = y })) f ≡ (co_stmt x f, co_stmt y f)
arm_at x y f = ap (λ (d : ArmDoes). d f) (fold-roll-StmtArm FieldsDo Does StrDoes PieceDoes co.LinkDoes co.CaseArmDoes SetDoes ArmDoes co.fields_layer co.stmt_layer co.str_layer co.piece_layer co.link_layer co.case_arm_layer co.set_layer co.arm_layer (record { cond = x; body = y }))

pub case_arm_at : (ps : List (List StrPiece)) (y : Stmt) (f : Funs)
    → co_case_arm (roll-PatArm (record { patterns = ps; body = y })) f ≡ (map (pieces_with f) (map (map co_piece) ps), co_stmt y f)
case_arm_at ps y f = ap (λ (d : co.CaseArmDoes). d f) (fold-roll-PatArm FieldsDo Does StrDoes PieceDoes co.LinkDoes co.CaseArmDoes SetDoes ArmDoes co.fields_layer co.stmt_layer co.str_layer co.piece_layer co.link_layer co.case_arm_layer co.set_layer co.arm_layer (record { patterns = ps; body = y }))

-- ---- paths

pub cong2 : {A B C : Type 0} (h : A → B → C) {a a' : A} {b b' : B} → a ≡ a' → b ≡ b' → h a b ≡ h a' b'
cong2 h p q = λ i. h (p i) (q i)

pub cong_cons : {A : Type 0} {a a' : A} {b b' : List A} → a ≡ a' → b ≡ b' → (a ∷ b) ≡ (a' ∷ b')
cong_cons p q = λ i. p i ∷ q i

then_go : (q : Run (Unit {0})) → then_do q (λ _ s. Go tt s) ≡ q
then_go (Go v s) = refl
then_go (Left how s) = refl

all_one : (d : Action) → rule.do_all (d ∷ []) ≡ d
all_one d = λ i p s. then_go (d p s) i

failed_same : (d : Action) → rule.do_all (rule.do_not rule.do_skip ∷ d ∷ []) ≡ shell.failed_before d
failed_same d = λ i p s. then_go (d p (with_status false s)) i

-- ---- nodes that are made only where they have members

module _ (g : Funs) where
  pub skip_same : co_stmt stmt.Skip g ≡ rule.do_skip
  skip_same = co_at c.Skip stmt.Skip g stmt.rolls-Skip

  pub seq_same : (qs : List Stmt) → co_stmt (seq_to qs) g ≡ rule.do_all (with g (map co_stmt qs))
  seq_same [] = skip_same
  seq_same (q ∷ []) = sym (all_one (co_stmt q g))
  seq_same (q ∷ r ∷ qs) = co_at (c.Seq (q ∷ r ∷ qs)) (stmt.Seq (q ∷ r ∷ qs)) g (stmt.rolls-Seq (q ∷ r ∷ qs))

  pub chain_same : (q : Stmt) (ls : List ChainPart) → co_stmt (chain_to q ls) g ≡ rule.do_chain (co_stmt q g) (with g (map co_link ls))
  chain_same q [] = refl
  chain_same q (l ∷ ls) = co_at (c.Chain q (l ∷ ls)) (stmt.Chain q (l ∷ ls)) g (stmt.rolls-Chain q (l ∷ ls))

  pub if_same : (arms : List StmtArm) (q : Stmt) → co_stmt (if_to arms q) g ≡ rule.do_if (with g (map co_arm arms)) (co_stmt q g)
  if_same [] q = refl
  if_same (a ∷ arms) q = co_at (c.If (a ∷ arms) q) (stmt.If (a ∷ arms) q) g (stmt.rolls-If (a ∷ arms) q)

  pub assigned_same : (at : ℕ) (sets : List SetTo) → co_stmt (assigned_to at sets) g ≡ shell.assigns_alone at (with g (map co_set sets))
  assigned_same at [] = skip_same
  assigned_same at (x ∷ sets) = co_at (c.Set at (x ∷ sets)) (stmt.Set at (x ∷ sets)) g (stmt.rolls-Set at (x ∷ sets))

  under_same : (at : ℕ) (r : Redirect) (q : Stmt) (d : Action) → co_stmt q g ≡ d → co_stmt (redirect_to at r q) g ≡ shell.under at r d
  under_same at redirect.OutNull q d e = co_at (c.Quiet q) (stmt.Quiet q) g (stmt.rolls-Quiet q) ∙ ap rule.do_quiet e
  under_same at redirect.OutToErr q d e = co_at (c.Quiet q) (stmt.Quiet q) g (stmt.rolls-Quiet q) ∙ ap rule.do_quiet e
  under_same at redirect.ErrToOut q d e = co_at (c.Err at q) (stmt.Err at q) g (stmt.rolls-Err at q) ∙ ap (rule.do_error_joined at) e
  under_same at redirect.ErrNull q d e = e
  under_same at redirect.InNull q d e = e

  pub redirected_same : (at : ℕ) (rs : List Redirect) (q : Stmt) (d : Action) → co_stmt q g ≡ d → co_stmt (redirected_to at rs q) g ≡ shell.redirected at rs d
  redirected_same at [] q d e = e
  redirected_same at (r ∷ rs) q d e = under_same at r (redirected_to at rs q) (shell.redirected at rs d) (redirected_same at rs q d e)

  not_same : (q : Stmt) (d : Action) → co_stmt q g ≡ d → co_stmt (stmt.Not q) g ≡ rule.do_not d
  not_same q d e = co_at (c.Not q) (stmt.Not q) g (stmt.rolls-Not q) ∙ ap rule.do_not e

  failed_first : (q : Stmt) (d : Action) → co_stmt q g ≡ d → co_stmt (stmt.Seq (stmt.Not stmt.Skip ∷ q ∷ [])) g ≡ shell.failed_before d
  failed_first q d e =
      seq_same (stmt.Not stmt.Skip ∷ q ∷ [])
      ∙ cong2 (λ x y. rule.do_all (x ∷ y ∷ [])) (not_same stmt.Skip rule.do_skip skip_same) e ∙ failed_same d

  pub loop_same : (at : ℕ) (until : Bool) (x y : Stmt) (d e : Action) → co_stmt x g ≡ d → co_stmt y g ≡ e
      → co_stmt (stmt.While at (condition_to until x) (body_to until y)) g ≡ shell.loop at until d e
  loop_same at true x y d e h k =
      let q = stmt.Seq (stmt.Not stmt.Skip ∷ y ∷ []) in
      co_at (c.While at (stmt.Not x) q) (stmt.While at (stmt.Not x) q) g (stmt.rolls-While at (stmt.Not x) q)
      ∙ cong2 (loops.do_while at) (not_same x d h) (failed_first y e k)
  loop_same at false x y d e h k = co_at (c.While at x y) (stmt.While at x y) g (stmt.rolls-While at x y) ∙ cong2 (loops.do_while at) h k

  pub case_same : (at : ℕ) (v : Str) (arms : List PatArm) (d : Doing Text) (ds : List (List (List (Doing PieceParts)) × Action)) → (co_str v).value g ≡ d
      → ((t : Text) → cases.first_arm t (with g (map co_case_arm arms)) ≡ cases.first_arm t ds) → co_stmt (stmt.Case at v arms) g ≡ cases.do_case at d ds
  case_same at v arms d ds e h =
      co_at (c.Case at v arms) (stmt.Case at v arms) g (stmt.rolls-Case at v arms)
      ∙ (λ i p s. then_do (word.do_short (e i) (at_command at p) s) (λ t s. h t i (at_command at p) s))

  -- ---- words

  pub piece_same : (q : Quoting) (v : Str) (d : Doing Text) → (co_str v).value g ≡ d → (co_piece (piece_of q v)).piece g ≡ (elim q [ quoting.Plain ↦ word.do_plain d | quoting.Quoted ↦ word.do_quoted d | quoting.Split ↦ word.do_split d ])
  piece_same quoting.Plain v d e = piece_at (c.Plain v) (piece.Plain v) g (piece.rolls-Plain v) ∙ ap word.do_plain e
  piece_same quoting.Quoted v d e = piece_at (c.Quoted v) (piece.Quoted v) g (piece.rolls-Quoted v) ∙ ap word.do_quoted e
  piece_same quoting.Split v d e = piece_at (c.Split v) (piece.Split v) g (piece.rolls-Split v) ∙ ap word.do_split e

  pub expanded_same : (b : Bool) (v : Str) (d : Doing Text) → (co_str v).value g ≡ d → (co_piece (piece_of (expansion b) v)).piece g ≡ shell.expanded b d
  expanded_same true v d e = piece_same quoting.Quoted v d e
  expanded_same false v d e = piece_same quoting.Split v d e

  argument_same : (n : ℕ) (b : Bool) → (co_str (if b then string.Arg n else string.Join [])).value g ≡ (if b then word.do_argument n else word.do_join [])
  argument_same n true = str_at (c.Arg n) (string.Arg n) g (string.rolls-Arg n)
  argument_same n false = str_at (c.Join []) (string.Join []) g (string.rolls-Join [])

  pub parameter_same : (k : Key) → (co_str (parameter_to k)).value g ≡ shell.parameter k
  parameter_same (key.Named x) = str_at (c.Var x) (string.Var x) g (string.rolls-Var x)
  parameter_same (key.Arg n) = argument_same n (is_argument n)
  parameter_same key.Count = str_at c.Count string.Count g string.rolls-Count

  pub default_same : (d : Option Text) (v : Str) (x : Doing Text) → (co_str v).value g ≡ x → (co_str (default_to d v)).value g ≡ shell.or_default d x
  default_same None v x e = e
  default_same (Some b) v x e = str_at (c.Or v b) (string.Or v b) g (string.rolls-Or v b) ∙ ap (λ x. word.do_default x b) e

  pub field_same : (b : Bool) (ps : List StrPiece) (ds : List (Doing PieceParts)) → pieces_with g (map co_piece ps) ≡ ds
      → (co_fields (if b then fields.Args else fields.Word ps)).fields g ≡ (if b then word.do_arguments else word.do_word ds)
  field_same true ps ds e = fields_at c.Args fields.Args g fields.rolls-Args
  field_same false ps ds e = fields_at (c.Word ps) (fields.Word ps) g (fields.rolls-Word ps) ∙ ap word.do_word e

-- ---- static words

-- literal bytes are static, plain or quoted
pub plain_static : (bytes : Text) → (co_piece (piece.Plain (string.Lit bytes))).static ≡ true
plain_static bytes =
    piece_static (c.Plain (string.Lit bytes)) (piece.Plain (string.Lit bytes)) (piece.rolls-Plain (string.Lit bytes))
    ∙ str_static (c.Lit bytes) (string.Lit bytes) (string.rolls-Lit bytes)

pub quoted_static : (bytes : Text) → (co_piece (piece.Quoted (string.Lit bytes))).static ≡ true
quoted_static bytes =
    piece_static (c.Quoted (string.Lit bytes)) (piece.Quoted (string.Lit bytes)) (piece.rolls-Quoted (string.Lit bytes))
    ∙ str_static (c.Lit bytes) (string.Lit bytes) (string.rolls-Lit bytes)

-- an expansion is not, quoted or not
pub expansion_static : (b : Bool) (v : Str) → (co_str v).static ≡ false → (co_piece (piece_of (expansion b) v)).static ≡ false
expansion_static true v e = piece_static (c.Quoted v) (piece.Quoted v) (piece.rolls-Quoted v) ∙ e
expansion_static false v e = piece_static (c.Split v) (piece.Split v) (piece.rolls-Split v)

argument_static : (n : ℕ) (b : Bool) → (co_str (if b then string.Arg n else string.Join [])).static ≡ false
argument_static n true = str_static (c.Arg n) (string.Arg n) (string.rolls-Arg n)
argument_static n false = str_static (c.Join []) (string.Join []) (string.rolls-Join [])

parameter_static : (k : Key) → (co_str (parameter_to k)).static ≡ false
parameter_static (key.Named x) = str_static (c.Var x) (string.Var x) (string.rolls-Var x)
parameter_static (key.Arg n) = argument_static n (is_argument n)
parameter_static key.Count = str_static c.Count string.Count string.rolls-Count

pub default_static : (d : Option Text) (k : Key) → (co_str (default_to d (parameter_to k))).static ≡ false
default_static None k = parameter_static k
default_static (Some b) k = str_static (c.Or (parameter_to k) b) (string.Or (parameter_to k) b) (string.rolls-Or (parameter_to k) b)

-- `"$@"` is not static; another word is where all of its pieces are
pub field_static : (b : Bool) (ps : List StrPiece) (s : Bool) → (b ≡ true → false ≡ s) → all_static (map co_piece ps) ≡ s
    → (co_fields (if b then fields.Args else fields.Word ps)).static ≡ s
field_static true ps s h e = fields_static c.Args fields.Args fields.rolls-Args ∙ h refl
field_static false ps s h e = fields_static (c.Word ps) (fields.Word ps) (fields.rolls-Word ps) ∙ e

-- A translated command does what the command does: by induction on the command.
use Rattle.std.proofs.Common.{◌≡◌, ℕ, Bool, true, false, ◌&&◌, List, [], ◌∷◌, ◌++◌, map, Option, Some, None, is_some, refl, sym, ap, ◌∙◌, subst, if◌then◌else◌, codes}
use Rattle.std.specs.List.{flat_map}
use Rattle.std.specs.Str.{bytes_eq}
use Rattle.script_names.specs.declared.reason.Reason.TheVariants as reason
use Rattle.shell_syntax.specs.declared.syntax.Command.{Command, roll-Command}
use Rattle.shell_syntax.specs.declared.syntax.Part.{Part, roll-Part}
use Rattle.shell_syntax.specs.declared.syntax.Assign.{Assign, roll-Assign}
use Rattle.shell_syntax.specs.declared.syntax.CaseArm.{CaseArm, roll-CaseArm}
use Rattle.shell_syntax.specs.declared.syntax.IfArm.{IfArm, roll-IfArm}
use Rattle.shell_syntax.specs.declared.syntax.Link.{Link, roll-Link}
use Rattle.shell_syntax.specs.declared.syntax.Word.{Word, roll-Word}
use Rattle.shell_syntax.specs.declared.syntax.Command.TheOpen as o
use Rattle.shell_syntax.specs.declared.syntax.Command.TheFolds.{fold-roll-Command, fold-roll-Part, fold-roll-Assign, fold-roll-CaseArm, fold-roll-IfArm, fold-roll-Link, fold-roll-Word, ind-Command, map-Command, map-Part}
use Rattle.shell_forms.specs.Words.{both_bytes}
use Rattle.shell_words.specs.Pieces.{PieceParts}
use Rattle.colis_syntax.specs.declared.syntax.Stmt.{Stmt}
use Rattle.colis_syntax.specs.declared.syntax.Stmt.TheVariants as stmt
use Rattle.colis_syntax.specs.declared.syntax.Str.TheVariants as string
use Rattle.colis_syntax.specs.declared.syntax.Fields.{Fields}
use Rattle.colis_syntax.specs.declared.syntax.Fields.TheVariants as fields
use Rattle.colis_syntax.specs.declared.syntax.Fields.TheOpen as c
use Rattle.colis_syntax.specs.declared.syntax.SetTo.{SetTo}
use Rattle.colis_syntax.specs.declared.syntax.ChainPart.{ChainPart}
use Rattle.colis_syntax.specs.declared.syntax.StmtArm.{StmtArm}
use Rattle.colis_syntax.specs.declared.syntax.PatArm.{PatArm}
use Rattle.colis_syntax.specs.declared.def.Def.{Def}
use Rattle.colis_syntax.specs.WellFormed.{is_def}
use Rattle.colis_meaning.specs.Meaning.{values_with, pieces_with, fields_with, all_static, are_static, co_stmt, co_str, co_piece, co_fields, co_set, co_link, co_arm, co_case_arm}
use Rattle.shell_rules.specs.State.{Text, then_do, Doing, Action, Funs, Does, with}
use Rattle.shell_rules.specs.Expansion as word
use Rattle.shell_rules.specs.Commands as rule
use Rattle.shell_rules.specs.Loops as loops
use Rattle.shell_rules.specs.Cases as cases
use Rattle.shell_rules.specs.Calls as calls
use Rattle.shell_to_colis.specs.declared.kinds.Kind.{Kind}
use Rattle.shell_to_colis.specs.declared.kinds.Kind.TheVariants as kind
use Rattle.shell_to_colis.specs.declared.words.Quoting.TheVariants as quoting
use Rattle.shell_to_colis.specs.Translated.{To, PartTo, WordTo, each, static, piece_of, pieces_to, joined_to, is_all_alone, field_to, fields_to, rest_of, parameter_to, default_to, expansion, flag_kind, called_kind, named_kind, kind_of, assigned_to, simple_to, redirect_to, redirected_to, seq_to, chain_to, if_to, otherwise_to, list_to, condition_to, body_to, arm_of, translated, part_to, assign_to, case_arm_to, if_arm_to, link_to, word_to}
use Rattle.shell_to_colis.specs.Translated as to
use Rattle.shell_to_colis.specs.Shell.{PartDoes, WordDoes, AssignDoes, IfArmDoes, sh, sh_part, sh_assign, sh_case_arm, sh_if_arm, sh_link, sh_word}
use Rattle.shell_to_colis.specs.Shell as shell
use Rattle.shell_to_colis.proofs.Nodes.{co_at, str_at, str_static, fields_at, set_at, link_at, arm_at, case_arm_at, cong2, cong_cons, skip_same, seq_same, chain_same, if_same, assigned_same, redirected_same, loop_same, case_same, piece_same, expanded_same, parameter_same, default_same, field_same, plain_static, quoted_static, expansion_static, default_static, field_static}

-- ---- what is shown of each type of the syntax

-- the functions that are defined before are those of the shell's f, and the program's g has these
abbrev pub Fits : List Def → Funs → Funs → Type 0
Fits earlier f g = (x : Text) → (is_def x earlier ≡ is_some (calls.found x f)) × (is_def x earlier ≡ true → calls.found x g ≡ calls.found x f)

abbrev pub Same : To Stmt → Does → Type 0
Same t d = (earlier : List Def) (f g : Funs) → Fits earlier f g → co_stmt (t earlier) g ≡ d f

record SamePart (t : PartTo) (d : PartDoes) : Type 0 where
  bytes : t.bytes ≡ d.bytes
  is_all : t.is_all ≡ d.is_all
  expands : d.is_all ≡ true → d.bytes ≡ None
  spelled : (earlier : List Def) → (co_piece (piece_of t.quoting (t.value earlier))).static ≡ is_some d.bytes
  value : (earlier : List Def) (f g : Funs) → Fits earlier f g → (co_str (t.value earlier)).value g ≡ d.value f
  piece : (earlier : List Def) (f g : Funs) → Fits earlier f g → (co_piece (piece_of t.quoting (t.value earlier))).piece g ≡ d.piece f

record SameWord (t : WordTo) (d : WordDoes) : Type 0 where
  static : static t ≡ shell.static d
  alone : is_all_alone t ≡ shell.is_arguments d
  expands : shell.is_arguments d ≡ true → shell.static d ≡ None
  spelled : (earlier : List Def) → all_static (map co_piece (pieces_to t earlier)) ≡ shell.is_static d
  values : (earlier : List Def) (f g : Funs) → Fits earlier f g → values_with g (map co_str (map (λ (part : PartTo). part.value earlier) t)) ≡ map (λ (part : PartDoes). part.value f) d
  pieces : (earlier : List Def) (f g : Funs) → Fits earlier f g → pieces_with g (map co_piece (pieces_to t earlier)) ≡ shell.pieces d f

abbrev pub P : Command → Type 0
P x = Same (translated x) (sh x)

abbrev Pp : Part → Type 0
Pp x = SamePart (part_to x) (sh_part x)

abbrev Pa : Assign → Type 0
Pa x = (earlier : List Def) (f g : Funs) → Fits earlier f g → co_set (assign_to x earlier) g ≡ sh_assign x f

-- an arm before others, which do the same
abbrev Pc : CaseArm → Type 0
Pc x = (earlier : List Def) (f g : Funs) → Fits earlier f g → (t : Text) (ds es : List (List (List (Doing PieceParts)) × Action))
    → cases.first_arm t ds ≡ cases.first_arm t es → cases.first_arm t (with g (map co_case_arm (case_arm_to x earlier)) ++ ds) ≡ cases.first_arm t (sh_case_arm x f ∷ es)

abbrev Pi : IfArm → Type 0
Pi x = (earlier : List Def) (f g : Funs) → Fits earlier f g → co_arm (if_arm_to x earlier) g ≡ sh_if_arm x f

abbrev Pl : Link → Type 0
Pl x = (earlier : List Def) (f g : Funs) → Fits earlier f g → co_link (link_to x earlier) g ≡ sh_link x f

abbrev Pw : Word → Type 0
Pw x = SameWord (word_to x) (sh_word x)

-- ---- lists

with_append : (g : Funs) (xs ys : List PatArm) → with g (map co_case_arm (xs ++ ys)) ≡ with g (map co_case_arm xs) ++ with g (map co_case_arm ys)
with_append g [] ys = refl
with_append g (x ∷ xs) ys = ap (λ l. co_case_arm x g ∷ l) (with_append g xs ys)

parts_static : (ys : List ((x : Part) × Pp x)) → static (map part_to (map (λ y. y.0) ys)) ≡ shell.static (map sh_part (map (λ y. y.0) ys))
parts_static [] = refl
parts_static (y ∷ ys) = cong2 both_bytes y.1.bytes (parts_static ys)

parts_alone : (ys : List ((x : Part) × Pp x)) → is_all_alone (map part_to (map (λ y. y.0) ys)) ≡ shell.is_arguments (map sh_part (map (λ y. y.0) ys))
parts_alone [] = refl
parts_alone (y ∷ []) = y.1.is_all
parts_alone (y ∷ z ∷ ys) = refl

both_some : (x y : Option Text) → (is_some x && is_some y) ≡ is_some (both_bytes x y)
both_some None y = refl
both_some (Some x) None = refl
both_some (Some x) (Some y) = refl

parts_expand : (ys : List ((x : Part) × Pp x)) → shell.is_arguments (map sh_part (map (λ y. y.0) ys)) ≡ true → shell.static (map sh_part (map (λ y. y.0) ys)) ≡ None
parts_expand [] e = absurd (cc e)
parts_expand (y ∷ []) e = ap (λ b. both_bytes b (Some [])) (y.1.expands e)
parts_expand (y ∷ z ∷ ys) e = absurd (cc e)

-- a word is static where its pieces are
parts_spelled : (earlier : List Def) (ys : List ((x : Part) × Pp x)) → all_static (map co_piece (pieces_to (map part_to (map (λ y. y.0) ys)) earlier)) ≡ shell.is_static (map sh_part (map (λ y. y.0) ys))
parts_spelled earlier [] = refl
parts_spelled earlier (y ∷ ys) =
    cong2 (λ a b. a && b) (y.1.spelled earlier) (parts_spelled earlier ys) ∙ both_some (sh_part y.0).bytes (shell.static (map sh_part (map (λ y. y.0) ys)))

word_spelled : (earlier : List Def) (t : WordTo) (d : WordDoes) → SameWord t d → (co_fields (field_to t earlier)).static ≡ shell.is_static d
word_spelled earlier t d h =
    field_static (is_all_alone t) (pieces_to t earlier) (shell.is_static d) (λ e. ap is_some (sym (h.expands (sym h.alone ∙ e)))) (h.spelled earlier)

words_spelled : (earlier : List Def) (ys : List ((x : Word) × Pw x)) → are_static (map co_fields (fields_to (map word_to (map (λ y. y.0) ys)) earlier)) ≡ map shell.is_static (map sh_word (map (λ y. y.0) ys))
words_spelled earlier [] = refl
words_spelled earlier (y ∷ ys) = cong_cons (word_spelled earlier (word_to y.0) (sh_word y.0) y.1) (words_spelled earlier ys)

module _ (earlier : List Def) (f g : Funs) (fits : Fits earlier f g) where
  parts_values : (ys : List ((x : Part) × Pp x)) → values_with g (map co_str (map (λ (part : PartTo). part.value earlier) (map part_to (map (λ y. y.0) ys)))) ≡ map (λ (part : PartDoes). part.value f) (map sh_part (map (λ y. y.0) ys))
  parts_values [] = refl
  parts_values (y ∷ ys) = cong_cons (y.1.value earlier f g fits) (parts_values ys)

  parts_pieces : (ys : List ((x : Part) × Pp x)) → pieces_with g (map co_piece (pieces_to (map part_to (map (λ y. y.0) ys)) earlier)) ≡ shell.pieces (map sh_part (map (λ y. y.0) ys)) f
  parts_pieces [] = refl
  parts_pieces (y ∷ ys) = cong_cons (y.1.piece earlier f g fits) (parts_pieces ys)

  joined_same : (t : WordTo) (d : WordDoes) → SameWord t d → (co_str (joined_to t earlier)).value g ≡ shell.joined d f
  joined_same t d h =
      let vs = map (λ (part : PartTo). part.value earlier) t in
      str_at (c.Join vs) (string.Join vs) g (string.rolls-Join vs) ∙ ap word.do_join (h.values earlier f g fits)

  word_same : (t : WordTo) (d : WordDoes) → SameWord t d → (co_fields (field_to t earlier)).fields g ≡ shell.fields_of d f
  word_same t d h =
      field_same g (is_all_alone t) (pieces_to t earlier) (shell.pieces d f) (h.pieces earlier f g fits)
      ∙ ap (λ b. if b then word.do_arguments else word.do_word (shell.pieces d f)) h.alone

  words_same : (ys : List ((x : Word) × Pw x)) → fields_with g (map co_fields (fields_to (map word_to (map (λ y. y.0) ys)) earlier)) ≡ shell.fields (map sh_word (map (λ y. y.0) ys)) f
  words_same [] = refl
  words_same (y ∷ ys) = cong_cons (word_same (word_to y.0) (sh_word y.0) y.1) (words_same ys)

  patterns_same : (ys : List ((x : Word) × Pw x))
      → map (pieces_with g) (map (map co_piece) (map (λ word. pieces_to word earlier) (map word_to (map (λ y. y.0) ys)))) ≡ map (λ pattern. shell.pieces pattern f) (map sh_word (map (λ y. y.0) ys))
  patterns_same [] = refl
  patterns_same (y ∷ ys) = cong_cons (y.1.pieces earlier f g fits) (patterns_same ys)

  commands_same : (ys : List ((x : Command) × P x)) → with g (map co_stmt (each (map translated (map (λ y. y.0) ys)) earlier)) ≡ with f (map sh (map (λ y. y.0) ys))
  commands_same [] = refl
  commands_same (y ∷ ys) = cong_cons (y.1 earlier f g fits) (commands_same ys)

  assigns_same : (ys : List ((x : Assign) × Pa x)) → with g (map co_set (each (map assign_to (map (λ y. y.0) ys)) earlier)) ≡ with f (map sh_assign (map (λ y. y.0) ys))
  assigns_same [] = refl
  assigns_same (y ∷ ys) = cong_cons (y.1 earlier f g fits) (assigns_same ys)

  links_same : (ys : List ((x : Link) × Pl x)) → with g (map co_link (each (map link_to (map (λ y. y.0) ys)) earlier)) ≡ with f (map sh_link (map (λ y. y.0) ys))
  links_same [] = refl
  links_same (y ∷ ys) = cong_cons (y.1 earlier f g fits) (links_same ys)

  arms_same : (ys : List ((x : IfArm) × Pi x)) → with g (map co_arm (each (map if_arm_to (map (λ y. y.0) ys)) earlier)) ≡ with f (map sh_if_arm (map (λ y. y.0) ys))
  arms_same [] = refl
  arms_same (y ∷ ys) = cong_cons (y.1 earlier f g fits) (arms_same ys)

  case_arms_same : (t : Text) (ys : List ((x : CaseArm) × Pc x))
      → cases.first_arm t (with g (map co_case_arm (flat_map (λ arm. arm earlier) (map case_arm_to (map (λ y. y.0) ys))))) ≡ cases.first_arm t (with f (map sh_case_arm (map (λ y. y.0) ys)))
  case_arms_same t [] = refl
  case_arms_same t (y ∷ ys) =
      let rest = flat_map (λ arm. arm earlier) (map case_arm_to (map (λ y. y.0) ys)) in
      ap (cases.first_arm t) (with_append g (case_arm_to y.0 earlier) rest)
      ∙ y.1 earlier f g fits t (with g (map co_case_arm rest)) (with f (map sh_case_arm (map (λ y. y.0) ys))) (case_arms_same t ys)

  case_arm_same : (ws : List ((x : Word) × Pw x)) (q : Stmt) (d : Action) → co_stmt q g ≡ d → (t : Text) (ds es : List (List (List (Doing PieceParts)) × Action))
      → cases.first_arm t ds ≡ cases.first_arm t es
      → cases.first_arm t (with g (map co_case_arm (arm_of (map word_to (map (λ y. y.0) ws)) q earlier)) ++ ds) ≡ cases.first_arm t ((map (λ pattern. shell.pieces pattern f) (map sh_word (map (λ y. y.0) ws)), d) ∷ es)
  case_arm_same [] q d e t ds es h = h
  case_arm_same (w ∷ ws) q d e t ds es h =
      ap (λ arm. cases.first_arm t (arm ∷ ds)) (case_arm_at (map (λ word. pieces_to word earlier) (map word_to (map (λ y. y.0) (w ∷ ws)))) q g)
      ∙ (λ i p s. then_do (cases.some_pattern t (patterns_same (w ∷ ws) i) p s) (λ fits s. if fits then e i p s else h i p s))

  -- ---- simple commands

  abbrev at_kind : ℕ → List (To SetTo) → List WordTo → Kind → Action
  at_kind at assigns words k = co_stmt (simple_to at k assigns words earlier) g

  if_kind : (b : Bool) (K : Kind → Action) (x y : Kind) (d e : Action) → K x ≡ d → K y ≡ e → K (if b then x else y) ≡ (if b then d else e)
  if_kind true K x y d e h k = h
  if_kind false K x y d e h k = k

  module _ (at : ℕ) (assigns : List (To SetTo)) where
    strict_same : (words : List WordTo) → at_kind at assigns words kind.Strict ≡ rule.do_strict
    strict_same words = co_at c.Strict stmt.Strict g stmt.rolls-Strict

    lax_same : (words : List WordTo) → at_kind at assigns words kind.Lax ≡ rule.do_lax
    lax_same words = co_at c.Lax stmt.Lax g stmt.rolls-Lax

    static_flag : (words : List WordTo) (flag : Option Text) (more : List (Option Text)) → at_kind at assigns words (flag_kind (flag ∷ more)) ≡ shell.set_static flag
    static_flag words None more = lax_same words
    static_flag words (Some flag) more =
        if_kind (bytes_eq flag (codes "-e")) (at_kind at assigns words) kind.Strict kind.Lax rule.do_strict rule.do_lax (strict_same words) (lax_same words)

    flag_same : (words : List WordTo) (ys : List ((x : Word) × Pw x)) → at_kind at assigns words (flag_kind (map static (map word_to (map (λ y. y.0) ys)))) ≡ shell.set_flag (map sh_word (map (λ y. y.0) ys))
    flag_same words [] = lax_same words
    flag_same words (y ∷ ys) = static_flag words (static (word_to y.0)) (map static (map word_to (map (λ y. y.0) ys))) ∙ ap shell.set_static y.1.static

    -- a name that no special built-in has
    called_by : (b : Bool) (o : Option Action) (name : Text) (fs gs : List Fields) (w : WordDoes) (ws : List WordDoes)
        → b ≡ is_some o → (b ≡ true → calls.found name g ≡ o) → co_stmt (stmt.Call at fs) g ≡ shell.utility at (w ∷ ws) f → fields_with g (map co_fields gs) ≡ shell.fields ws f
        → co_stmt (if b then stmt.Fun at name gs else stmt.Call at fs) g ≡ shell.called at o w ws f
    called_by true None name fs gs w ws e h d k = absurd (cc e)
    called_by false (Some body) name fs gs w ws e h d k = absurd (cc e)
    called_by false None name fs gs w ws e h d k = d
    called_by true (Some body) name fs gs w ws e h d k =
        co_at (c.Fun at name gs) (stmt.Fun at name gs) g (stmt.rolls-Fun at name gs) ∙ cong2 (calls.do_function at) (h refl) k

    utility_same : (ys : List ((x : Word) × Pw x)) → co_stmt (stmt.Call at (fields_to (map word_to (map (λ y. y.0) ys)) earlier)) g ≡ shell.utility at (map sh_word (map (λ y. y.0) ys)) f
    utility_same ys =
        let fs = fields_to (map word_to (map (λ y. y.0) ys)) earlier in
        co_at (c.Call at fs) (stmt.Call at fs) g (stmt.rolls-Call at fs) ∙ cong2 (calls.do_call at) (words_spelled earlier ys) (words_same ys)

    if_stmt : (b : Bool) (x y : Kind) (words : List WordTo) → at_kind at assigns words (if b then x else y) ≡ co_stmt (if b then simple_to at x assigns words earlier else simple_to at y assigns words earlier) g
    if_stmt true x y words = refl
    if_stmt false x y words = refl

    module _ (y : (x : Word) × Pw x) (ys : List ((x : Word) × Pw x)) where
      abbrev ts : List WordTo
      ts = map word_to (map (λ y. y.0) (y ∷ ys))

      abbrev operands : List Fields
      operands = fields_to (map word_to (map (λ y. y.0) ys)) earlier

      named_same : (name : Text) → at_kind at assigns ts (named_kind name (map static (map word_to (map (λ y. y.0) ys))) earlier) ≡ shell.named at name (sh_word y.0) (map sh_word (map (λ y. y.0) ys)) f
      named_same name =
          let K : Kind → Action = at_kind at assigns ts in
          if_kind (bytes_eq name (codes "set")) K _ _ _ _ (flag_same ts ys)
          (if_kind (bytes_eq name (codes "exit")) K _ _ _ _ (co_at (c.Exit at operands) (stmt.Exit at operands) g (stmt.rolls-Exit at operands) ∙ ap (calls.do_exit at) (words_same ys))
          (if_kind (bytes_eq name (codes "return")) K _ _ _ _ (co_at (c.Return at operands) (stmt.Return at operands) g (stmt.rolls-Return at operands) ∙ ap (calls.do_return at) (words_same ys))
          (if_kind (bytes_eq name (codes "break")) K _ _ _ _ (co_at c.Break stmt.Break g stmt.rolls-Break)
          (if_kind (bytes_eq name (codes "continue")) K _ _ _ _ (co_at c.Continue stmt.Continue g stmt.rolls-Continue)
          (if_kind (bytes_eq name (codes "export")) K _ _ _ _ (co_at (c.Export at operands) (stmt.Export at operands) g (stmt.rolls-Export at operands) ∙ ap (calls.do_export at) (words_same ys))
          (if_kind (bytes_eq name (codes "unset")) K _ _ _ _ (co_at (c.Unset at operands) (stmt.Unset at operands) g (stmt.rolls-Unset at operands) ∙ ap (calls.do_unset at) (words_same ys))
          (if_stmt (is_def name earlier) (kind.Function name) kind.Utility ts
          ∙ called_by (is_def name earlier) (calls.found name f) name (fields_to ts earlier) operands (sh_word y.0) (map sh_word (map (λ y. y.0) ys))
          (fits name).0 (fits name).1 (utility_same (y ∷ ys)) (words_same ys))))))))

      command_same : (name : Option Text) → at_kind at assigns ts (kind_of (name ∷ map static (map word_to (map (λ y. y.0) ys))) earlier) ≡ shell.command_named at name (sh_word y.0) (map sh_word (map (λ y. y.0) ys)) f
      command_same None = utility_same (y ∷ ys)
      command_same (Some name) = named_same name

    simple_same : (ws : List ((x : Word) × Pw x)) (as' : List ((x : Assign) × Pa x)) → map assign_to (map (λ y. y.0) as') ≡ assigns
        → at_kind at assigns (map word_to (map (λ y. y.0) ws)) (kind_of (map static (map word_to (map (λ y. y.0) ws))) earlier) ≡ shell.simple at (map sh_assign (map (λ y. y.0) as')) (map sh_word (map (λ y. y.0) ws)) f
    simple_same [] as' e =
        assigned_same g at (each assigns earlier) ∙ ap (λ a. shell.assigns_alone at (with g (map co_set (each a earlier)))) (sym e) ∙ ap (shell.assigns_alone at) (assigns_same as')
    simple_same (y ∷ ys) as' e =
        command_same y ys (static (word_to y.0)) ∙ ap (λ name. shell.command_named at name (sh_word y.0) (map sh_word (map (λ y. y.0) ys)) f) y.1.static

-- ---- a layer of a command

abbrev Y : Type 0
Y = o.Command-F ((x : Command) × P x) ((x : Part) × Pp x) ((x : Assign) × Pa x) ((x : CaseArm) × Pc x) ((x : IfArm) × Pi x) ((x : Link) × Pl x) ((x : Word) × Pw x)

abbrev base : Y → o.Command-F Command Part Assign CaseArm IfArm Link Word
base y = map-Command _ _ _ _ _ _ _ Command Part Assign CaseArm IfArm Link Word (λ y. y.0) (λ y. y.0) (λ y. y.0) (λ y. y.0) (λ y. y.0) (λ y. y.0) (λ y. y.0) y

abbrev to_layer : o.Command-F Command Part Assign CaseArm IfArm Link Word → o.Command-F (To Stmt) PartTo (To SetTo) (To (List PatArm)) (To StmtArm) (To ChainPart) WordTo
to_layer x = map-Command Command Part Assign CaseArm IfArm Link Word _ _ _ _ _ _ _ translated part_to assign_to case_arm_to if_arm_to link_to word_to x

abbrev sh_layer : o.Command-F Command Part Assign CaseArm IfArm Link Word → o.Command-F Does PartDoes AssignDoes shell.CaseArmDoes IfArmDoes shell.LinkDoes WordDoes
sh_layer x = map-Command Command Part Assign CaseArm IfArm Link Word _ _ _ _ _ _ _ sh sh_part sh_assign sh_case_arm sh_if_arm sh_link sh_word x

from_layer : (x : o.Command-F Command Part Assign CaseArm IfArm Link Word) → Same (to.command_layer (to_layer x)) (shell.command_layer (sh_layer x)) → P (roll-Command x)
from_layer x h earlier f g fits =
    ap (λ (t : To Stmt). co_stmt (t earlier) g) (fold-roll-Command (To Stmt) PartTo (To SetTo) (To (List PatArm)) (To StmtArm) (To ChainPart) WordTo to.command_layer to.part_layer to.assign_layer to.case_arm_layer to.if_arm_layer to.link_layer to.word_layer x)
    ∙ h earlier f g fits ∙ sym (ap (λ (d : Does). d f) (fold-roll-Command Does PartDoes AssignDoes shell.CaseArmDoes IfArmDoes shell.LinkDoes WordDoes shell.command_layer shell.part_layer shell.assign_layer shell.case_arm_layer shell.if_arm_layer shell.link_layer shell.word_layer x))

layer_same : (y : Y) → Same (to.command_layer (to_layer (base y))) (shell.command_layer (sh_layer (base y)))
layer_same (o.Simple at assigns words) earlier f g fits = simple_same earlier f g fits at (map assign_to (map (λ y. y.0) assigns)) words assigns refl
layer_same (o.Redirected at y redirects) earlier f g fits = redirected_same g at redirects (translated y.0 earlier) (sh y.0 f) (y.1 earlier f g fits)
layer_same (o.Pipe at ys) earlier f g fits = co_at (c.Stop at reason.Pipe) (stmt.Stop at reason.Pipe) g (stmt.rolls-Stop at reason.Pipe)
layer_same (o.Not at y) earlier f g fits =
    let q = translated y.0 earlier in co_at (c.Not q) (stmt.Not q) g (stmt.rolls-Not q) ∙ ap rule.do_not (y.1 earlier f g fits)
layer_same (o.Chain y rest) earlier f g fits =
    chain_same g (translated y.0 earlier) (each (map link_to (map (λ y. y.0) rest)) earlier)
    ∙ cong2 rule.do_chain (y.1 earlier f g fits) (links_same earlier f g fits rest)
layer_same (o.Seq ys) earlier f g fits =
    seq_same g (each (map translated (map (λ y. y.0) ys)) earlier) ∙ ap rule.do_all (commands_same earlier f g fits ys)
layer_same (o.If at arms None) earlier f g fits =
    if_same g (each (map if_arm_to (map (λ y. y.0) arms)) earlier) stmt.Skip ∙ cong2 rule.do_if (arms_same earlier f g fits arms) (skip_same g)
layer_same (o.If at arms (Some y)) earlier f g fits =
    if_same g (each (map if_arm_to (map (λ y. y.0) arms)) earlier) (translated y.0 earlier) ∙ cong2 rule.do_if (arms_same earlier f g fits arms) (y.1 earlier f g fits)
layer_same (o.For at name None y) earlier f g fits =
    let q = translated y.0 earlier in let fs = fields.Args ∷ [] in
    co_at (c.For at name fs q) (stmt.For at name fs q) g (stmt.rolls-For at name fs q)
    ∙ cong2 (loops.do_for at name) (ap (λ d. d ∷ []) (fields_at c.Args fields.Args g fields.rolls-Args)) (y.1 earlier f g fits)
layer_same (o.For at name (Some words) y) earlier f g fits =
    let q = translated y.0 earlier in let fs = fields_to (map word_to (map (λ y. y.0) words)) earlier in
    co_at (c.For at name fs q) (stmt.For at name fs q) g (stmt.rolls-For at name fs q)
    ∙ cong2 (loops.do_for at name) (words_same earlier f g fits words) (y.1 earlier f g fits)
layer_same (o.While at until x y) earlier f g fits =
    loop_same g at until (translated x.0 earlier) (translated y.0 earlier) (sh x.0 f) (sh y.0 f) (x.1 earlier f g fits) (y.1 earlier f g fits)
layer_same (o.Case at w arms) earlier f g fits =
    case_same g at (joined_to (word_to w.0) earlier) (flat_map (λ arm. arm earlier) (map case_arm_to (map (λ y. y.0) arms))) (shell.joined (sh_word w.0) f) (with f (map sh_case_arm (map (λ y. y.0) arms)))
    (joined_same earlier f g fits (word_to w.0) (sh_word w.0) w.1) (λ t. case_arms_same earlier f g fits t arms)
layer_same (o.Sub at y) earlier f g fits =
    let q = translated y.0 earlier in co_at (c.Sub at q) (stmt.Sub at q) g (stmt.rolls-Sub at q) ∙ ap (rule.do_subshell at) (y.1 earlier f g fits)
layer_same (o.Define at name y) earlier f g fits = skip_same g

-- ---- a layer of each other type

part_layer_same : (y : o.Part-F ((x : Command) × P x) ((x : Part) × Pp x) ((x : Assign) × Pa x) ((x : CaseArm) × Pc x) ((x : IfArm) × Pi x) ((x : Link) × Pl x) ((x : Word) × Pw x))
    → SamePart (to.part_layer (map-Part Command Part Assign CaseArm IfArm Link Word _ _ _ _ _ _ _ translated part_to assign_to case_arm_to if_arm_to link_to word_to (map-Part _ _ _ _ _ _ _ Command Part Assign CaseArm IfArm Link Word (λ y. y.0) (λ y. y.0) (λ y. y.0) (λ y. y.0) (λ y. y.0) (λ y. y.0) (λ y. y.0) y)))
    (shell.part_layer (map-Part Command Part Assign CaseArm IfArm Link Word _ _ _ _ _ _ _ sh sh_part sh_assign sh_case_arm sh_if_arm sh_link sh_word (map-Part _ _ _ _ _ _ _ Command Part Assign CaseArm IfArm Link Word (λ y. y.0) (λ y. y.0) (λ y. y.0) (λ y. y.0) (λ y. y.0) (λ y. y.0) (λ y. y.0) y)))
part_layer_same (o.Plain bytes) = record {
  bytes = refl;
  is_all = refl;
  expands = λ e. absurd (cc e);
  spelled = λ earlier. plain_static bytes;
  value = λ earlier f g fits. str_at (c.Lit bytes) (string.Lit bytes) g (string.rolls-Lit bytes);
  piece = λ earlier f g fits. piece_same g quoting.Plain (string.Lit bytes) (word.do_literal bytes) (str_at (c.Lit bytes) (string.Lit bytes) g (string.rolls-Lit bytes));
}
part_layer_same (o.Quoted bytes) = record {
  bytes = refl;
  is_all = refl;
  expands = λ e. absurd (cc e);
  spelled = λ earlier. quoted_static bytes;
  value = λ earlier f g fits. str_at (c.Lit bytes) (string.Lit bytes) g (string.rolls-Lit bytes);
  piece = λ earlier f g fits. piece_same g quoting.Quoted (string.Lit bytes) (word.do_literal bytes) (str_at (c.Lit bytes) (string.Lit bytes) g (string.rolls-Lit bytes));
}
part_layer_same (o.Param key default quoted) = record {
  bytes = refl;
  is_all = refl;
  expands = λ e. absurd (cc e);
  spelled = λ earlier. expansion_static quoted (default_to default (parameter_to key)) (default_static default key);
  value = λ earlier f g fits. default_same g default (parameter_to key) (shell.parameter key) (parameter_same g key);
  piece = λ earlier f g fits. expanded_same g quoted (default_to default (parameter_to key)) (shell.or_default default (shell.parameter key)) (default_same g default (parameter_to key) (shell.parameter key) (parameter_same g key));
}
part_layer_same o.All = record {
  bytes = refl;
  is_all = refl;
  expands = λ e. refl;
  spelled = λ earlier. expansion_static true (string.Join []) (str_static (c.Join []) (string.Join []) (string.rolls-Join []));
  value = λ earlier f g fits. str_at (c.Join []) (string.Join []) g (string.rolls-Join []);
  piece = λ earlier f g fits. piece_same g quoting.Quoted (string.Join []) (word.do_join []) (str_at (c.Join []) (string.Join []) g (string.rolls-Join []));
}
part_layer_same (o.Run at y quoted) = record {
  bytes = refl;
  is_all = refl;
  expands = λ e. absurd (cc e);
  spelled = λ earlier. let q = translated y.0 earlier in expansion_static quoted (string.Output q) (str_static (c.Output q) (string.Output q) (string.rolls-Output q));
  value = λ earlier f g fits. let q = translated y.0 earlier in str_at (c.Output q) (string.Output q) g (string.rolls-Output q) ∙ ap word.do_output (y.1 earlier f g fits);
  piece = λ earlier f g fits. let q = translated y.0 earlier in
      expanded_same g quoted (string.Output q) (word.do_output (sh y.0 f)) (str_at (c.Output q) (string.Output q) g (string.rolls-Output q) ∙ ap word.do_output (y.1 earlier f g fits));
}

part_from : (x : o.Part-F Command Part Assign CaseArm IfArm Link Word) → SamePart (to.part_layer (map-Part Command Part Assign CaseArm IfArm Link Word _ _ _ _ _ _ _ translated part_to assign_to case_arm_to if_arm_to link_to word_to x)) (shell.part_layer (map-Part Command Part Assign CaseArm IfArm Link Word _ _ _ _ _ _ _ sh sh_part sh_assign sh_case_arm sh_if_arm sh_link sh_word x)) → Pp (roll-Part x)
part_from x h = rw (fold-roll-Part (To Stmt) PartTo (To SetTo) (To (List PatArm)) (To StmtArm) (To ChainPart) WordTo to.command_layer to.part_layer to.assign_layer to.case_arm_layer to.if_arm_layer to.link_layer to.word_layer x, fold-roll-Part Does PartDoes AssignDoes shell.CaseArmDoes IfArmDoes shell.LinkDoes WordDoes shell.command_layer shell.part_layer shell.assign_layer shell.case_arm_layer shell.if_arm_layer shell.link_layer shell.word_layer x) h

assign_from : (x : o.Assign-F Command Part Assign CaseArm IfArm Link Word) → Pw x.value → Pa (roll-Assign x)
assign_from x h earlier f g fits =
    ap (λ (t : To SetTo). co_set (t earlier) g) (fold-roll-Assign (To Stmt) PartTo (To SetTo) (To (List PatArm)) (To StmtArm) (To ChainPart) WordTo to.command_layer to.part_layer to.assign_layer to.case_arm_layer to.if_arm_layer to.link_layer to.word_layer x)
    ∙ set_at x.name (joined_to (word_to x.value) earlier) g
    ∙ ap (λ d. (x.name, d)) (joined_same earlier f g fits (word_to x.value) (sh_word x.value) h)
    ∙ sym (ap (λ (d : AssignDoes). d f) (fold-roll-Assign Does PartDoes AssignDoes shell.CaseArmDoes IfArmDoes shell.LinkDoes WordDoes shell.command_layer shell.part_layer shell.assign_layer shell.case_arm_layer shell.if_arm_layer shell.link_layer shell.word_layer x))

case_arm_from : (x : o.CaseArm-F Command Part Assign CaseArm IfArm Link Word) (ws : List ((x : Word) × Pw x)) → map (λ y. y.0) ws ≡ x.patterns → P x.body → Pc (roll-CaseArm x)
case_arm_from x ws ew h earlier f g fits t ds es k =
    ap (λ (a : To (List PatArm)). cases.first_arm t (with g (map co_case_arm (a earlier)) ++ ds)) (fold-roll-CaseArm (To Stmt) PartTo (To SetTo) (To (List PatArm)) (To StmtArm) (To ChainPart) WordTo to.command_layer to.part_layer to.assign_layer to.case_arm_layer to.if_arm_layer to.link_layer to.word_layer x)
    ∙ ap (λ ps. cases.first_arm t (with g (map co_case_arm (arm_of (map word_to ps) (translated x.body earlier) earlier)) ++ ds)) (sym ew)
    ∙ case_arm_same earlier f g fits ws (translated x.body earlier) (sh x.body f) (h earlier f g fits) t ds es k
    ∙ ap (λ ps. cases.first_arm t ((map (λ pattern. shell.pieces pattern f) (map sh_word ps), sh x.body f) ∷ es)) ew
    ∙ sym (ap (λ (d : shell.CaseArmDoes). cases.first_arm t (d f ∷ es)) (fold-roll-CaseArm Does PartDoes AssignDoes shell.CaseArmDoes IfArmDoes shell.LinkDoes WordDoes shell.command_layer shell.part_layer shell.assign_layer shell.case_arm_layer shell.if_arm_layer shell.link_layer shell.word_layer x))

if_arm_from : (x : o.IfArm-F Command Part Assign CaseArm IfArm Link Word) → P x.cond → P x.body → Pi (roll-IfArm x)
if_arm_from x h k earlier f g fits =
    ap (λ (t : To StmtArm). co_arm (t earlier) g) (fold-roll-IfArm (To Stmt) PartTo (To SetTo) (To (List PatArm)) (To StmtArm) (To ChainPart) WordTo to.command_layer to.part_layer to.assign_layer to.case_arm_layer to.if_arm_layer to.link_layer to.word_layer x)
    ∙ arm_at (translated x.cond earlier) (translated x.body earlier) g
    ∙ (λ i. (h earlier f g fits i, k earlier f g fits i))
    ∙ sym (ap (λ (d : IfArmDoes). d f) (fold-roll-IfArm Does PartDoes AssignDoes shell.CaseArmDoes IfArmDoes shell.LinkDoes WordDoes shell.command_layer shell.part_layer shell.assign_layer shell.case_arm_layer shell.if_arm_layer shell.link_layer shell.word_layer x))

link_from : (x : o.Link-F Command Part Assign CaseArm IfArm Link Word) → P x.command → Pl (roll-Link x)
link_from x h earlier f g fits =
    ap (λ (t : To ChainPart). co_link (t earlier) g) (fold-roll-Link (To Stmt) PartTo (To SetTo) (To (List PatArm)) (To StmtArm) (To ChainPart) WordTo to.command_layer to.part_layer to.assign_layer to.case_arm_layer to.if_arm_layer to.link_layer to.word_layer x)
    ∙ link_at x.and (translated x.command earlier) g
    ∙ ap (λ d. (x.and, d)) (h earlier f g fits)
    ∙ sym (ap (λ (d : shell.LinkDoes). d f) (fold-roll-Link Does PartDoes AssignDoes shell.CaseArmDoes IfArmDoes shell.LinkDoes WordDoes shell.command_layer shell.part_layer shell.assign_layer shell.case_arm_layer shell.if_arm_layer shell.link_layer shell.word_layer x))

parts_word : (ys : List ((x : Part) × Pp x)) → SameWord (map part_to (map (λ y. y.0) ys)) (map sh_part (map (λ y. y.0) ys))
parts_word ys = record {
  static = parts_static ys;
  alone = parts_alone ys;
  expands = parts_expand ys;
  spelled = λ earlier. parts_spelled earlier ys;
  values = λ earlier f g fits. parts_values earlier f g fits ys;
  pieces = λ earlier f g fits. parts_pieces earlier f g fits ys;
}

word_from : (x : o.Word-F Command Part Assign CaseArm IfArm Link Word) (ys : List ((x : Part) × Pp x)) → map (λ y. y.0) ys ≡ x.parts → Pw (roll-Word x)
word_from x ys e = rw (fold-roll-Word (To Stmt) PartTo (To SetTo) (To (List PatArm)) (To StmtArm) (To ChainPart) WordTo to.command_layer to.part_layer to.assign_layer to.case_arm_layer to.if_arm_layer to.link_layer to.word_layer x, fold-roll-Word Does PartDoes AssignDoes shell.CaseArmDoes IfArmDoes shell.LinkDoes WordDoes shell.command_layer shell.part_layer shell.assign_layer shell.case_arm_layer shell.if_arm_layer shell.link_layer shell.word_layer x) (subst (λ (ps : List Part). SameWord (map part_to ps) (map sh_part ps)) e (parts_word ys))

pub translated_same : (x : Command) → P x
translated_same = ind-Command P Pp Pa Pc Pi Pl Pw
    (λ x y is. subst (λ x. P (roll-Command x)) is (from_layer (base y) (layer_same y)))
    (λ x y is. subst (λ x. Pp (roll-Part x)) is (part_from _ (part_layer_same y)))
    (λ x y is. subst (λ x. Pa (roll-Assign x)) is (assign_from _ y.value.1))
    (λ x y is. subst (λ x. Pc (roll-CaseArm x)) is (case_arm_from _ y.patterns refl y.body.1))
    (λ x y is. subst (λ x. Pi (roll-IfArm x)) is (if_arm_from _ y.cond.1 y.body.1))
    (λ x y is. subst (λ x. Pl (roll-Link x)) is (link_from _ y.command.1))
    (λ x y is. subst (λ x. Pw (roll-Word x)) is (word_from _ y.parts refl))

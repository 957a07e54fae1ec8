-- A command without unsupported forms becomes what may stand in a program: by induction on the command.
use Rattle.std.proofs.Common.{◌≡◌, ℕ, true, not, ◌&&◌, ◌||◌, List, [], ◌∷◌, ◌++◌, map, Option, Some, None, refl, sym, ap, ◌∙◌, subst, append_assoc, codes}
use Rattle.std.specs.List.{list_all, flat_map}
use Rattle.std.specs.Str.{bytes_eq}
use Rattle.std.proofs.lemmas.Bool.{and_from, and_parts}
use Rattle.shell_syntax.specs.declared.syntax.Command.{Command, roll-Command}
use Rattle.shell_syntax.specs.declared.syntax.Part.{Part, roll-Part}
use Rattle.shell_syntax.specs.declared.syntax.Assign.{Assign, roll-Assign}
use Rattle.shell_syntax.specs.declared.syntax.CaseArm.{CaseArm, roll-CaseArm}
use Rattle.shell_syntax.specs.declared.syntax.IfArm.{IfArm, roll-IfArm}
use Rattle.shell_syntax.specs.declared.syntax.Link.{Link, roll-Link}
use Rattle.shell_syntax.specs.declared.syntax.Word.{Word, roll-Word}
use Rattle.shell_syntax.specs.declared.syntax.Command.TheOpen as o
use Rattle.shell_syntax.specs.declared.syntax.Command.TheFolds.{fold-roll-Command, fold-roll-Part, fold-roll-Assign, fold-roll-CaseArm, fold-roll-IfArm, fold-roll-Link, fold-roll-Word, ind-Command, map-Command, map-Part}
use Rattle.shell_forms.specs.Names.{Text}
use Rattle.shell_forms.specs.Words.{PartSays, WordSays, AssignSays, both_bytes, command_of, commands_of}
use Rattle.shell_forms.specs.Words as says
use Rattle.shell_forms.specs.Forms as form
use Rattle.shell_forms.specs.Forms.{Forms, Found, forms_of, part_says, assign_says, case_arm_says, if_arm_says, link_says, word_says, within, member, looped, apart, function_body, when, all_of, in_word, in_words, in_assigns, in_pattern, in_patterns, in_arm, in_arms, in_case_arm, in_case_arms, in_list, if_there, is_name, is_named, are_any, static_name, operands}
use Rattle.shell_forms.specs.declared.place.Place.{Place}
use Rattle.colis_syntax.specs.declared.syntax.Stmt.{Stmt}
use Rattle.colis_syntax.specs.declared.syntax.Stmt.TheVariants as stmt
use Rattle.colis_syntax.specs.declared.syntax.Str.TheVariants as string
use Rattle.colis_syntax.specs.declared.syntax.Fields.TheVariants as fields
use Rattle.colis_syntax.specs.declared.syntax.Fields.TheOpen as c
use Rattle.colis_syntax.specs.declared.syntax.SetTo.{SetTo}
use Rattle.colis_syntax.specs.declared.syntax.ChainPart.{ChainPart}
use Rattle.colis_syntax.specs.declared.syntax.StmtArm.{StmtArm}
use Rattle.colis_syntax.specs.declared.syntax.PatArm.{PatArm}
use Rattle.colis_syntax.specs.declared.def.Def.{Def}
use Rattle.colis_syntax.specs.WellFormed.{Scope, all_pass, stmt_passes, str_passes, piece_passes, set_passes, part_passes, arm_passes, pat_arm_passes}
use Rattle.shell_to_colis.specs.Translated.{To, PartTo, WordTo, each, static, piece_of, piece_to, pieces_to, joined_to, is_all_alone, field_to, fields_to, rest_of, parameter_to, default_to, expansion, flag_kind, called_kind, named_kind, kind_of, assigned_to, simple_to, redirect_to, redirected_to, seq_to, chain_to, if_to, otherwise_to, list_to, condition_to, body_to, arm_of, translated, part_to, assign_to, case_arm_to, if_arm_to, link_to, word_to}
use Rattle.shell_to_colis.specs.Translated as to
use Rattle.script_names.specs.declared.reason.Reason.TheVariants as reason
use Rattle.shell_to_colis.proofs.Passes.{no_front, no_back, not_when, stmt_at, str_at, set_at, part_at, arm_at, pat_arm_at, all_stmts, all_fields, all_strs, skip_passes, not_passes, seq_passes, chain_passes, if_passes, redirected_passes, condition_passes, body_passes, values, pieces_pass, field_pass, joined_passes, parameter_passes, default_passes, kind_allowed, simple_passes, name_of, scope, Known, args_pass, has_one}

all_of_append : (xs ys : List Forms) (q : Place) → all_of (xs ++ ys) q ≡ all_of xs q ++ all_of ys q
all_of_append [] ys q = refl
all_of_append (x ∷ xs) ys q = ap (λ l. x q ++ l) (all_of_append xs ys q) ∙ sym (append_assoc (x q) (all_of xs q) (all_of ys q))

pat_arms_append : (s : Scope) (xs ys : List PatArm) → all_pass s (map pat_arm_passes xs) ≡ true → all_pass s (map pat_arm_passes ys) ≡ true
    → all_pass s (map pat_arm_passes (xs ++ ys)) ≡ true
pat_arms_append s [] ys e h = h
pat_arms_append s (x ∷ xs) ys e h =
    let t = and_parts (pat_arm_passes x s) (all_pass s (map pat_arm_passes xs)) e in
    and_from _ _ t.0 (pat_arms_append s xs ys t.1 h)

peeled : (a b c d e f g : List Found) → a ++ (b ++ (c ++ (d ++ (e ++ (f ++ g))))) ≡ [] → (e ≡ []) × (f ≡ [])
peeled a b c d e f g h =
    let k = no_back d (e ++ (f ++ g)) (no_back c (d ++ (e ++ (f ++ g))) (no_back b (c ++ (d ++ (e ++ (f ++ g)))) (no_back a (b ++ (c ++ (d ++ (e ++ (f ++ g))))) h))) in
    (no_front e (f ++ g) k, no_front f g (no_back e (f ++ g) k))

abbrev texts_of : List (WordSays Forms) → List (Option Text)
texts_of ws = map (λ (w : WordSays Forms). says.static w.parts) ws

static_name_is : (ws : List (WordSays Forms)) → static_name ws ≡ name_of (texts_of ws)
static_name_is [] = refl
static_name_is (w ∷ ws) = refl

-- ---- what is shown of each type of the syntax, where `first` has the functions of the script

module _ (first : Text → Option ℕ) where
  abbrev pub P : Command → Type 0
  P x = (p : Place) (earlier defs : List Def) → Known earlier defs → forms_of first x p ≡ [] → stmt_passes (translated x earlier) (scope p defs) ≡ true

  abbrev PartPasses : PartTo → PartSays Forms → Type 0
  PartPasses t s = (t.bytes ≡ s.bytes) × ((p : Place) (earlier defs : List Def) → Known earlier defs → all_of (command_of s.runs) (apart p) ≡ [] → str_passes (t.value earlier) (scope p defs) ≡ true)

  abbrev WordPasses : WordTo → WordSays Forms → Type 0
  WordPasses t s = (static t ≡ says.static s.parts) × ((p : Place) (earlier defs : List Def) → Known earlier defs → in_word s p ≡ [] → all_strs (scope p defs) (values t earlier) ≡ true)

  abbrev Pp : Part → Type 0
  Pp x = PartPasses (part_to x) (part_says first x)

  abbrev Pa : Assign → Type 0
  Pa x = (p : Place) (earlier defs : List Def) → Known earlier defs → in_word (assign_says first x).value p ≡ [] → set_passes (assign_to x earlier) (scope p defs) ≡ true

  abbrev Pc : CaseArm → Type 0
  Pc x = (p : Place) (earlier defs : List Def) → Known earlier defs → in_case_arm (case_arm_says first x) p ≡ [] → all_pass (scope p defs) (map pat_arm_passes (case_arm_to x earlier)) ≡ true

  abbrev Pi : IfArm → Type 0
  Pi x = (p : Place) (earlier defs : List Def) → Known earlier defs → in_arm (if_arm_says first x) p ≡ [] → arm_passes (if_arm_to x earlier) (scope p defs) ≡ true

  abbrev Pl : Link → Type 0
  Pl x = (p : Place) (earlier defs : List Def) → Known earlier defs → link_says first x p ≡ [] → part_passes (link_to x earlier) (scope p defs) ≡ true

  abbrev Pw : Word → Type 0
  Pw x = WordPasses (word_to x) (word_says first x)

  -- ---- lists

  statics_same : (ys : List ((x : Word) × Pw x)) → map static (map word_to (map (λ y. y.0) ys)) ≡ texts_of (map (word_says first) (map (λ y. y.0) ys))
  statics_same [] = refl
  statics_same (y ∷ ys) = cc (y.1.0, statics_same ys)

  parts_static : (ys : List ((x : Part) × Pp x)) → static (map part_to (map (λ y. y.0) ys)) ≡ says.static (map (part_says first) (map (λ y. y.0) ys))
  parts_static [] = refl
  parts_static (y ∷ ys) = cc (y.1.0, parts_static ys)

  module _ (p : Place) (earlier defs : List Def) (known : Known earlier defs) where
    commands_pass : (ys : List ((x : Command) × P x)) → all_of (map (forms_of first) (map (λ y. y.0) ys)) p ≡ [] → all_stmts (scope p defs) (each (map translated (map (λ y. y.0) ys)) earlier) ≡ true
    commands_pass [] e = refl
    commands_pass (y ∷ ys) e =
        let a = forms_of first y.0 p in let b = all_of (map (forms_of first) (map (λ y. y.0) ys)) p in
        and_from _ _ (y.1 p earlier defs known (no_front a b e)) (commands_pass ys (no_back a b e))

    parts_pass : (ys : List ((x : Part) × Pp x)) → all_of (commands_of (map (part_says first) (map (λ y. y.0) ys))) (apart p) ≡ [] → all_strs (scope p defs) (values (map part_to (map (λ y. y.0) ys)) earlier) ≡ true
    parts_pass [] e = refl
    parts_pass (y ∷ ys) e =
        let a = command_of (part_says first y.0).runs in let b = commands_of (map (part_says first) (map (λ y. y.0) ys)) in
        let h = sym (all_of_append a b (apart p)) ∙ e in
        and_from _ _ (y.1.1 p earlier defs known (no_front (all_of a (apart p)) (all_of b (apart p)) h)) (parts_pass ys (no_back (all_of a (apart p)) (all_of b (apart p)) h))

    words_pass : (ys : List ((x : Word) × Pw x)) → in_words (map (word_says first) (map (λ y. y.0) ys)) p ≡ [] → all_fields (scope p defs) (fields_to (map word_to (map (λ y. y.0) ys)) earlier) ≡ true
    words_pass [] e = refl
    words_pass (y ∷ ys) e =
        let a = in_word (word_says first y.0) p in let b = in_words (map (word_says first) (map (λ y. y.0) ys)) p in
        and_from _ _ (field_pass (scope p defs) (word_to y.0) earlier (y.1.1 p earlier defs known (no_front a b e))) (words_pass ys (no_back a b e))

    patterns_pass : (ys : List ((x : Word) × Pw x)) → in_patterns (map (word_says first) (map (λ y. y.0) ys)) p ≡ []
        → list_all (λ pieces. all_pass (scope p defs) pieces) (map (map piece_passes) (map (λ word. pieces_to word earlier) (map word_to (map (λ y. y.0) ys)))) ≡ true
    patterns_pass [] e = refl
    patterns_pass (y ∷ ys) e =
        let a = in_pattern (word_says first y.0) p in let b = in_patterns (map (word_says first) (map (λ y. y.0) ys)) p in
        and_from _ _ (pieces_pass (scope p defs) (word_to y.0) earlier (y.1.1 p earlier defs known (no_back (form.all_args (word_says first y.0)) (in_word (word_says first y.0) p) (no_front a b e)))) (patterns_pass ys (no_back a b e))

    assigns_pass : (ys : List ((x : Assign) × Pa x)) → in_assigns (map (assign_says first) (map (λ y. y.0) ys)) p ≡ [] → all_pass (scope p defs) (map set_passes (each (map assign_to (map (λ y. y.0) ys)) earlier)) ≡ true
    assigns_pass [] e = refl
    assigns_pass (y ∷ ys) e =
        let a = in_word (assign_says first y.0).value p in let b = in_assigns (map (assign_says first) (map (λ y. y.0) ys)) p in
        and_from _ _ (y.1 p earlier defs known (no_front a b e)) (assigns_pass ys (no_back a b e))

    links_pass : (ys : List ((x : Link) × Pl x)) → all_of (map (link_says first) (map (λ y. y.0) ys)) p ≡ [] → all_pass (scope p defs) (map part_passes (each (map link_to (map (λ y. y.0) ys)) earlier)) ≡ true
    links_pass [] e = refl
    links_pass (y ∷ ys) e =
        let a = link_says first y.0 p in let b = all_of (map (link_says first) (map (λ y. y.0) ys)) p in
        and_from _ _ (y.1 p earlier defs known (no_front a b e)) (links_pass ys (no_back a b e))

    arms_pass : (ys : List ((x : IfArm) × Pi x)) → in_arms (map (if_arm_says first) (map (λ y. y.0) ys)) p ≡ [] → all_pass (scope p defs) (map arm_passes (each (map if_arm_to (map (λ y. y.0) ys)) earlier)) ≡ true
    arms_pass [] e = refl
    arms_pass (y ∷ ys) e =
        let a = in_arm (if_arm_says first y.0) p in let b = in_arms (map (if_arm_says first) (map (λ y. y.0) ys)) p in
        and_from _ _ (y.1 p earlier defs known (no_front a b e)) (arms_pass ys (no_back a b e))

    case_arms_pass : (ys : List ((x : CaseArm) × Pc x)) → in_case_arms (map (case_arm_says first) (map (λ y. y.0) ys)) p ≡ []
        → all_pass (scope p defs) (map pat_arm_passes (flat_map (λ arm. arm earlier) (map case_arm_to (map (λ y. y.0) ys)))) ≡ true
    case_arms_pass [] e = refl
    case_arms_pass (y ∷ ys) e =
        let a = in_case_arm (case_arm_says first y.0) p in let b = in_case_arms (map (case_arm_says first) (map (λ y. y.0) ys)) p in
        pat_arms_append (scope p defs) (case_arm_to y.0 earlier) (flat_map (λ arm. arm earlier) (map case_arm_to (map (λ y. y.0) ys)))
        (y.1 p earlier defs known (no_front a b e)) (case_arms_pass ys (no_back a b e))

    case_arm_pass : (ws : List ((x : Word) × Pw x)) (y : (x : Command) × P x) → in_patterns (map (word_says first) (map (λ y. y.0) ws)) p ++ forms_of first y.0 p ≡ []
        → all_pass (scope p defs) (map pat_arm_passes (arm_of (map word_to (map (λ y. y.0) ws)) (translated y.0 earlier) earlier)) ≡ true
    case_arm_pass [] y e = refl
    case_arm_pass (w ∷ ws) y e =
        let a = in_patterns (map (word_says first) (map (λ y. y.0) (w ∷ ws))) p in let b = forms_of first y.0 p in
        and_from _ true
        (pat_arm_at (map (λ word. pieces_to word earlier) (map word_to (map (λ y. y.0) (w ∷ ws)))) (translated y.0 earlier) (scope p defs)
        ∙ and_from _ _ (has_one (map piece_passes (pieces_to (word_to w.0) earlier)) (map (map piece_passes) (map (λ word. pieces_to word earlier) (map word_to (map (λ y. y.0) ws))))) (and_from _ _ (patterns_pass (w ∷ ws) (no_front a b e)) (y.1 p earlier defs known (no_back a b e)))) refl

  -- ---- a layer of a command

  abbrev Y : Type 0
  Y = o.Command-F ((x : Command) × P x) ((x : Part) × Pp x) ((x : Assign) × Pa x) ((x : CaseArm) × Pc x) ((x : IfArm) × Pi x) ((x : Link) × Pl x) ((x : Word) × Pw x)

  abbrev base : Y → o.Command-F Command Part Assign CaseArm IfArm Link Word
  base y = map-Command _ _ _ _ _ _ _ Command Part Assign CaseArm IfArm Link Word (λ y. y.0) (λ y. y.0) (λ y. y.0) (λ y. y.0) (λ y. y.0) (λ y. y.0) (λ y. y.0) y

  abbrev to_layer : o.Command-F Command Part Assign CaseArm IfArm Link Word → o.Command-F (To Stmt) PartTo (To SetTo) (To (List PatArm)) (To StmtArm) (To ChainPart) WordTo
  to_layer x = map-Command Command Part Assign CaseArm IfArm Link Word _ _ _ _ _ _ _ translated part_to assign_to case_arm_to if_arm_to link_to word_to x

  abbrev says_layer : o.Command-F Command Part Assign CaseArm IfArm Link Word → o.Command-F Forms (PartSays Forms) (AssignSays Forms) (List (WordSays Forms) × Forms) (Forms × Forms) Forms (WordSays Forms)
  says_layer x = map-Command Command Part Assign CaseArm IfArm Link Word _ _ _ _ _ _ _ (forms_of first) (part_says first) (assign_says first) (case_arm_says first) (if_arm_says first) (link_says first) (word_says first) x

  abbrev Passes : To Stmt → Forms → Type 0
  Passes t f = (p : Place) (earlier defs : List Def) → Known earlier defs → f p ≡ [] → stmt_passes (t earlier) (scope p defs) ≡ true

  from_layer : (x : o.Command-F Command Part Assign CaseArm IfArm Link Word) → Passes (to.command_layer (to_layer x)) (form.command_layer first (says_layer x)) → P (roll-Command x)
  from_layer x h p earlier defs known e =
      ap (λ (t : To Stmt). stmt_passes (t earlier) (scope p defs)) (fold-roll-Command (To Stmt) PartTo (To SetTo) (To (List PatArm)) (To StmtArm) (To ChainPart) WordTo to.command_layer to.part_layer to.assign_layer to.case_arm_layer to.if_arm_layer to.link_layer to.word_layer x)
      ∙ h p earlier defs known (sym (ap (λ (f : Forms). f p) (fold-roll-Command Forms (PartSays Forms) (AssignSays Forms) (List (WordSays Forms) × Forms) (Forms × Forms) Forms (WordSays Forms) (form.command_layer first) (form.part_layer first) (form.assign_layer first) (form.case_arm_layer first) (form.if_arm_layer first) (form.link_layer first) (form.word_layer first) x)) ∙ e)

  layer_passes : (y : Y) → Passes (to.command_layer (to_layer (base y))) (form.command_layer first (says_layer (base y)))
  layer_passes (o.Simple at assigns words) p earlier defs known e =
      let as' = map (assign_says first) (map (λ y. y.0) assigns) in
      let ws = map (word_says first) (map (λ y. y.0) words) in
      let own = form.simple_forms first at as' ws p in
      let a = in_assigns as' p in let b = in_words ws p in
      let mine = no_front own (a ++ b) e in
      let rest = no_back own (a ++ b) e in
      let parts = peeled
      (when (is_name (static_name ws) (codes "set") && not (form.is_one_flag (operands ws))) _ at)
      (when (form.sets_ifs as') _ at)
      (when (form.is_prefix first as' ws) _ at)
      (when (is_name (static_name ws) (codes "export") && form.some_unquoted (operands ws)) _ at)
      (when (is_named (static_name ws) (codes "break" ∷ codes "continue" ∷ []) && (are_any (operands ws) || not p.in_loop)) _ at)
      (when (is_name (static_name ws) (codes "return") && not p.may_return) _ at)
      (when (form.calls_later first p.defined_at (static_name ws)) _ at) mine in
      let is = static_name_is ws in
      ap (λ ts. stmt_passes (simple_to at (kind_of ts earlier) (map assign_to (map (λ y. y.0) assigns)) (map word_to (map (λ y. y.0) words)) earlier) (scope p defs)) (statics_same words)
      ∙ simple_passes (kind_of (texts_of ws) earlier) p earlier defs known at (map assign_to (map (λ y. y.0) assigns)) (map word_to (map (λ y. y.0) words))
      (kind_allowed (texts_of ws) p earlier (are_any (operands ws))
      (sym (ap (λ n. is_named n (codes "break" ∷ codes "continue" ∷ []) && (are_any (operands ws) || not p.in_loop)) is) ∙ not_when _ _ at parts.0)
      (sym (ap (λ n. is_name n (codes "return") && not p.may_return) is) ∙ not_when _ _ at parts.1))
      (assigns_pass p earlier defs known assigns (no_front a b rest)) (words_pass p earlier defs known words (no_back a b rest))
  layer_passes (o.Redirected at y redirects) p earlier defs known e =
      redirected_passes (scope p defs) at redirects (translated y.0 earlier) (y.1 (within p) earlier defs known e)
  layer_passes (o.Pipe at ys) p earlier defs known e = stmt_at (c.Stop at reason.Pipe) (stmt.Stop at reason.Pipe) (scope p defs) (stmt.rolls-Stop at reason.Pipe)
  layer_passes (o.Not at y) p earlier defs known e = not_passes (scope p defs) (translated y.0 earlier) (y.1 (within p) earlier defs known e)
  layer_passes (o.Chain y rest) p earlier defs known e =
      let a = forms_of first y.0 (within p) in let b = all_of (map (link_says first) (map (λ y. y.0) rest)) (within p) in
      chain_passes (scope p defs) (translated y.0 earlier) (each (map link_to (map (λ y. y.0) rest)) earlier)
      (y.1 (within p) earlier defs known (no_front a b e)) (links_pass (within p) earlier defs known rest (no_back a b e))
  layer_passes (o.Seq ys) p earlier defs known e =
      seq_passes (scope p defs) (each (map translated (map (λ y. y.0) ys)) earlier) (commands_pass (member p) earlier defs known ys e)
  layer_passes (o.If at arms None) p earlier defs known e =
      let a = in_arms (map (if_arm_says first) (map (λ y. y.0) arms)) (within p) in
      if_passes (scope p defs) (each (map if_arm_to (map (λ y. y.0) arms)) earlier) stmt.Skip
      (arms_pass (within p) earlier defs known arms (no_front a [] e)) (skip_passes (scope p defs))
  layer_passes (o.If at arms (Some y)) p earlier defs known e =
      let a = in_arms (map (if_arm_says first) (map (λ y. y.0) arms)) (within p) in let b = forms_of first y.0 (within p) in
      if_passes (scope p defs) (each (map if_arm_to (map (λ y. y.0) arms)) earlier) (translated y.0 earlier)
      (arms_pass (within p) earlier defs known arms (no_front a b e)) (y.1 (within p) earlier defs known (no_back a b e))
  layer_passes (o.For at name None y) p earlier defs known e =
      let a = when (bytes_eq name (codes "IFS")) _ at in let b = forms_of first y.0 (looped p) in
      let q = translated y.0 earlier in let fs = fields.Args ∷ [] in
      stmt_at (c.For at name fs q) (stmt.For at name fs q) (scope p defs) (stmt.rolls-For at name fs q)
      ∙ and_from _ _ (and_from _ true (args_pass (scope p defs)) refl) (y.1 (looped p) earlier defs known (no_back a b e))
  layer_passes (o.For at name (Some words) y) p earlier defs known e =
      let a = when (bytes_eq name (codes "IFS")) _ at in let b = in_words (map (word_says first) (map (λ y. y.0) words)) p in let d = forms_of first y.0 (looped p) in
      let rest = no_back a (b ++ d) e in
      let q = translated y.0 earlier in let fs = fields_to (map word_to (map (λ y. y.0) words)) earlier in
      stmt_at (c.For at name fs q) (stmt.For at name fs q) (scope p defs) (stmt.rolls-For at name fs q)
      ∙ and_from _ _ (words_pass p earlier defs known words (no_front b d rest)) (y.1 (looped p) earlier defs known (no_back b d rest))
  layer_passes (o.While at until x y) p earlier defs known e =
      let a = forms_of first x.0 (looped p) in let b = forms_of first y.0 (looped p) in
      let q = condition_to until (translated x.0 earlier) in let r = body_to until (translated y.0 earlier) in
      stmt_at (c.While at q r) (stmt.While at q r) (scope p defs) (stmt.rolls-While at q r)
      ∙ and_from _ _ (condition_passes (scope (looped p) defs) until (translated x.0 earlier) (x.1 (looped p) earlier defs known (no_front a b e)))
      (body_passes (scope (looped p) defs) until (translated y.0 earlier) (y.1 (looped p) earlier defs known (no_back a b e)))
  layer_passes (o.Case at w arms) p earlier defs known e =
      let a = in_pattern (word_says first w.0) p in let b = in_case_arms (map (case_arm_says first) (map (λ y. y.0) arms)) (within p) in
      let v = joined_to (word_to w.0) earlier in let qs = flat_map (λ arm. arm earlier) (map case_arm_to (map (λ y. y.0) arms)) in
      stmt_at (c.Case at v qs) (stmt.Case at v qs) (scope p defs) (stmt.rolls-Case at v qs)
      ∙ and_from _ _ (joined_passes (scope p defs) (word_to w.0) earlier (w.1.1 p earlier defs known (no_back (form.all_args (word_says first w.0)) (in_word (word_says first w.0) p) (no_front a b e))))
      (case_arms_pass (within p) earlier defs known arms (no_back a b e))
  layer_passes (o.Sub at y) p earlier defs known e =
      let q = translated y.0 earlier in
      stmt_at (c.Sub at q) (stmt.Sub at q) (scope p defs) (stmt.rolls-Sub at q) ∙ y.1 (apart p) earlier defs known e
  layer_passes (o.Define at name y) p earlier defs known e = skip_passes (scope p defs)

  -- ---- a layer of a part of a word

  part_layer_passes : (y : o.Part-F ((x : Command) × P x) ((x : Part) × Pp x) ((x : Assign) × Pa x) ((x : CaseArm) × Pc x) ((x : IfArm) × Pi x) ((x : Link) × Pl x) ((x : Word) × Pw x))
      → PartPasses (to.part_layer (map-Part Command Part Assign CaseArm IfArm Link Word _ _ _ _ _ _ _ translated part_to assign_to case_arm_to if_arm_to link_to word_to (map-Part _ _ _ _ _ _ _ Command Part Assign CaseArm IfArm Link Word (λ y. y.0) (λ y. y.0) (λ y. y.0) (λ y. y.0) (λ y. y.0) (λ y. y.0) (λ y. y.0) y)))
      (form.part_layer first (map-Part Command Part Assign CaseArm IfArm Link Word _ _ _ _ _ _ _ (forms_of first) (part_says first) (assign_says first) (case_arm_says first) (if_arm_says first) (link_says first) (word_says first) (map-Part _ _ _ _ _ _ _ Command Part Assign CaseArm IfArm Link Word (λ y. y.0) (λ y. y.0) (λ y. y.0) (λ y. y.0) (λ y. y.0) (λ y. y.0) (λ y. y.0) y)))
  part_layer_passes (o.Plain bytes) = (refl, λ p earlier defs known e. str_at (c.Lit bytes) (string.Lit bytes) (scope p defs) (string.rolls-Lit bytes))
  part_layer_passes (o.Quoted bytes) = (refl, λ p earlier defs known e. str_at (c.Lit bytes) (string.Lit bytes) (scope p defs) (string.rolls-Lit bytes))
  part_layer_passes (o.Param key default quoted) = (refl, λ p earlier defs known e. default_passes (scope p defs) default (parameter_to key) (parameter_passes (scope p defs) key))
  part_layer_passes o.All = (refl, λ p earlier defs known e. str_at (c.Join []) (string.Join []) (scope p defs) (string.rolls-Join []))
  part_layer_passes (o.Run at y quoted) = (
    refl,
    λ p earlier defs known e.
        let q = translated y.0 earlier in
        str_at (c.Output q) (string.Output q) (scope p defs) (string.rolls-Output q) ∙ y.1 (apart p) earlier defs known (no_front (forms_of first y.0 (apart p)) [] e),
  )

  part_from : (x : o.Part-F Command Part Assign CaseArm IfArm Link Word) → PartPasses (to.part_layer (map-Part Command Part Assign CaseArm IfArm Link Word _ _ _ _ _ _ _ translated part_to assign_to case_arm_to if_arm_to link_to word_to x)) (form.part_layer first (map-Part Command Part Assign CaseArm IfArm Link Word _ _ _ _ _ _ _ (forms_of first) (part_says first) (assign_says first) (case_arm_says first) (if_arm_says first) (link_says first) (word_says first) x)) → Pp (roll-Part x)
  part_from x h = rw (fold-roll-Part (To Stmt) PartTo (To SetTo) (To (List PatArm)) (To StmtArm) (To ChainPart) WordTo to.command_layer to.part_layer to.assign_layer to.case_arm_layer to.if_arm_layer to.link_layer to.word_layer x, fold-roll-Part Forms (PartSays Forms) (AssignSays Forms) (List (WordSays Forms) × Forms) (Forms × Forms) Forms (WordSays Forms) (form.command_layer first) (form.part_layer first) (form.assign_layer first) (form.case_arm_layer first) (form.if_arm_layer first) (form.link_layer first) (form.word_layer first) x) h

  assign_from : (x : o.Assign-F Command Part Assign CaseArm IfArm Link Word) → Pw x.value → Pa (roll-Assign x)
  assign_from x h p earlier defs known e =
      ap (λ (t : To SetTo). set_passes (t earlier) (scope p defs)) (fold-roll-Assign (To Stmt) PartTo (To SetTo) (To (List PatArm)) (To StmtArm) (To ChainPart) WordTo to.command_layer to.part_layer to.assign_layer to.case_arm_layer to.if_arm_layer to.link_layer to.word_layer x)
      ∙ set_at x.name (joined_to (word_to x.value) earlier) (scope p defs)
      ∙ joined_passes (scope p defs) (word_to x.value) earlier (h.1 p earlier defs known (sym (ap (λ (a : AssignSays Forms). in_word a.value p) (fold-roll-Assign Forms (PartSays Forms) (AssignSays Forms) (List (WordSays Forms) × Forms) (Forms × Forms) Forms (WordSays Forms) (form.command_layer first) (form.part_layer first) (form.assign_layer first) (form.case_arm_layer first) (form.if_arm_layer first) (form.link_layer first) (form.word_layer first) x)) ∙ e))

  case_arm_from : (x : o.CaseArm-F Command Part Assign CaseArm IfArm Link Word) (ws : List ((x : Word) × Pw x)) (y : (x : Command) × P x) → map (λ y. y.0) ws ≡ x.patterns → y.0 ≡ x.body → Pc (roll-CaseArm x)
  case_arm_from x ws y ew ey p earlier defs known e =
      ap (λ (t : To (List PatArm)). all_pass (scope p defs) (map pat_arm_passes (t earlier))) (fold-roll-CaseArm (To Stmt) PartTo (To SetTo) (To (List PatArm)) (To StmtArm) (To ChainPart) WordTo to.command_layer to.part_layer to.assign_layer to.case_arm_layer to.if_arm_layer to.link_layer to.word_layer x)
      ∙ ap (λ ps. all_pass (scope p defs) (map pat_arm_passes (arm_of (map word_to ps) (translated x.body earlier) earlier))) (sym ew)
      ∙ ap (λ b. all_pass (scope p defs) (map pat_arm_passes (arm_of (map word_to (map (λ y. y.0) ws)) (translated b earlier) earlier))) (sym ey)
      ∙ case_arm_pass p earlier defs known ws y
      (ap (λ b. in_patterns (map (word_says first) (map (λ y. y.0) ws)) p ++ forms_of first b p) ey
      ∙ ap (λ ps. in_patterns (map (word_says first) ps) p ++ forms_of first x.body p) ew
      ∙ sym (ap (λ (a : List (WordSays Forms) × Forms). in_case_arm a p) (fold-roll-CaseArm Forms (PartSays Forms) (AssignSays Forms) (List (WordSays Forms) × Forms) (Forms × Forms) Forms (WordSays Forms) (form.command_layer first) (form.part_layer first) (form.assign_layer first) (form.case_arm_layer first) (form.if_arm_layer first) (form.link_layer first) (form.word_layer first) x)) ∙ e)

  if_arm_from : (x : o.IfArm-F Command Part Assign CaseArm IfArm Link Word) → P x.cond → P x.body → Pi (roll-IfArm x)
  if_arm_from x h k p earlier defs known e =
      let a = forms_of first x.cond p in let b = forms_of first x.body p in
      let f = sym (ap (λ (a : Forms × Forms). in_arm a p) (fold-roll-IfArm Forms (PartSays Forms) (AssignSays Forms) (List (WordSays Forms) × Forms) (Forms × Forms) Forms (WordSays Forms) (form.command_layer first) (form.part_layer first) (form.assign_layer first) (form.case_arm_layer first) (form.if_arm_layer first) (form.link_layer first) (form.word_layer first) x)) ∙ e in
      ap (λ (t : To StmtArm). arm_passes (t earlier) (scope p defs)) (fold-roll-IfArm (To Stmt) PartTo (To SetTo) (To (List PatArm)) (To StmtArm) (To ChainPart) WordTo to.command_layer to.part_layer to.assign_layer to.case_arm_layer to.if_arm_layer to.link_layer to.word_layer x)
      ∙ arm_at (translated x.cond earlier) (translated x.body earlier) (scope p defs)
      ∙ and_from _ _ (h p earlier defs known (no_front a b f)) (k p earlier defs known (no_back a b f))

  link_from : (x : o.Link-F Command Part Assign CaseArm IfArm Link Word) → P x.command → Pl (roll-Link x)
  link_from x h p earlier defs known e =
      ap (λ (t : To ChainPart). part_passes (t earlier) (scope p defs)) (fold-roll-Link (To Stmt) PartTo (To SetTo) (To (List PatArm)) (To StmtArm) (To ChainPart) WordTo to.command_layer to.part_layer to.assign_layer to.case_arm_layer to.if_arm_layer to.link_layer to.word_layer x)
      ∙ part_at x.and (translated x.command earlier) (scope p defs)
      ∙ h p earlier defs known (sym (ap (λ (f : Forms). f p) (fold-roll-Link Forms (PartSays Forms) (AssignSays Forms) (List (WordSays Forms) × Forms) (Forms × Forms) Forms (WordSays Forms) (form.command_layer first) (form.part_layer first) (form.assign_layer first) (form.case_arm_layer first) (form.if_arm_layer first) (form.link_layer first) (form.word_layer first) x)) ∙ e)

  word_from : (x : o.Word-F Command Part Assign CaseArm IfArm Link Word) (parts : List ((x : Part) × Pp x)) → map (λ y. y.0) parts ≡ x.parts → Pw (roll-Word x)
  word_from x parts ep = rw (fold-roll-Word (To Stmt) PartTo (To SetTo) (To (List PatArm)) (To StmtArm) (To ChainPart) WordTo to.command_layer to.part_layer to.assign_layer to.case_arm_layer to.if_arm_layer to.link_layer to.word_layer x, fold-roll-Word Forms (PartSays Forms) (AssignSays Forms) (List (WordSays Forms) × Forms) (Forms × Forms) Forms (WordSays Forms) (form.command_layer first) (form.part_layer first) (form.assign_layer first) (form.case_arm_layer first) (form.if_arm_layer first) (form.link_layer first) (form.word_layer first) x)
      (subst (λ (ps : List Part). WordPasses (map part_to ps) (record { at = x.at; parts = map (part_says first) ps })) ep
      (parts_static parts, λ p earlier defs known e. parts_pass p earlier defs known parts e))

  pub command_passes : (x : Command) → P x
  command_passes = ind-Command P Pp Pa Pc Pi Pl Pw
      (λ x y is. subst (λ x. P (roll-Command x)) is (from_layer (base y) (layer_passes y)))
      (λ x y is. subst (λ x. Pp (roll-Part x)) is (part_from _ (part_layer_passes y)))
      (λ x y is. subst (λ x. Pa (roll-Assign x)) is (assign_from _ y.value.1))
      (λ x y is. subst (λ x. Pc (roll-CaseArm x)) is (case_arm_from _ y.patterns y.body refl refl))
      (λ x y is. subst (λ x. Pi (roll-IfArm x)) is (if_arm_from _ y.cond.1 y.body.1))
      (λ x y is. subst (λ x. Pl (roll-Link x)) is (link_from _ y.command.1))
      (λ x y is. subst (λ x. Pw (roll-Word x)) is (word_from _ y.parts refl))

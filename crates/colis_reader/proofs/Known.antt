-- Every construct that the types can represent has a text that is one part, which is read as the construct: by induction over the syntax.
use Rattle.std.proofs.Common.{◌≡◌, Bool, true, List, [], ◌∷◌, ◌++◌, map, codes, decimal, refl, sym, ap, ◌∙◌, subst}
use Rattle.std.specs.Prelude.{◌&&◌, false, take}
use Rattle.std.specs.Str.{bytes_eq}
use Rattle.std.specs.List.{flat_map}
use Rattle.std.proofs.lemmas.Bool.{and_parts}
use Rattle.shown_texts.specs.Show.{show, are_bytes}
use Rattle.shown_texts.specs.Marks.{reason_name}
use Rattle.colis_syntax.specs.declared.syntax.Fields.{Fields, roll-Fields}
use Rattle.colis_syntax.specs.declared.syntax.Stmt.{Stmt, roll-Stmt}
use Rattle.colis_syntax.specs.declared.syntax.Str.{Str, roll-Str}
use Rattle.colis_syntax.specs.declared.syntax.StrPiece.{StrPiece, roll-StrPiece}
use Rattle.colis_syntax.specs.declared.syntax.ChainPart.{ChainPart, roll-ChainPart, rolls-ChainPart'}
use Rattle.colis_syntax.specs.declared.syntax.PatArm.{PatArm, roll-PatArm, rolls-PatArm'}
use Rattle.colis_syntax.specs.declared.syntax.SetTo.{SetTo, roll-SetTo, rolls-SetTo'}
use Rattle.colis_syntax.specs.declared.syntax.StmtArm.{StmtArm, roll-StmtArm, rolls-StmtArm'}
use Rattle.colis_syntax.specs.declared.syntax.Stmt.TheVariants as v
use Rattle.colis_syntax.specs.declared.syntax.Str.TheVariants as sv
use Rattle.colis_syntax.specs.declared.syntax.StrPiece.TheVariants as pv
use Rattle.colis_syntax.specs.declared.syntax.Fields.TheVariants as fv
use Rattle.colis_syntax.specs.declared.syntax.Fields.TheOpen as o
use Rattle.colis_syntax.specs.declared.syntax.Fields.TheFolds.{fold-roll-Fields, fold-roll-Stmt, fold-roll-Str, fold-roll-StrPiece, fold-roll-ChainPart, fold-roll-PatArm, fold-roll-SetTo, fold-roll-StmtArm}
use Rattle.colis_syntax.specs.declared.syntax.Fields.TheFolds.{ind-Stmt}
use Rattle.colis_syntax.specs.ProgramText as t
use Rattle.colis_syntax.specs.ProgramText.{Text, spaced, each_spaced, between, pattern_text_of, stmt_text, str_text, piece_text, field_text, set_text, part_text, arm_text, pat_arm_text}
use Rattle.colis_reader.specs.declared.nest.Nest.{Nest}
use Rattle.colis_reader.specs.declared.nest.Nest.TheVariants.{Node}
use Rattle.colis_reader.specs.Readings.{Read, read, reads, member, but_last, last, argument_in, bytes_in, reason_in, node_read, nothing}
use Rattle.colis_reader.specs.Representable as h
use Rattle.colis_reader.specs.Representable.{fits, all_hold, stmt_representable}
use Rattle.colis_reader.proofs.ReadNode.{word_node, pieces_node, patterns_node, fields_node, set_node, part_node, arm_node, pat_arm_node}
use Rattle.colis_reader.proofs.Lasts.{last_length, last_here, before_last}
use Rattle.colis_reader.proofs.Fills.{Fills, Adds, fills_none, adds_none, adds_space, adds_both, fills_both}
use Rattle.colis_reader.proofs.Shapes as shape
use Rattle.colis_reader.proofs.Shapes.{leaf, named}
use Rattle.colis_reader.proofs.PartsKnown.{argument_back, reason_back, name_back, seq_is, chain_is, not_is, if_is, quiet_is, strict_is, lax_is, break_is, continue_is, skip_is, set_is, fun_is, for_is, while_is, case_is, sub_is, err_is, stop_is, call_is, exit_is, return_is, export_is, unset_is, var_is, arg_is, or_is, output_is, join_is, count_is, p_is, q_is, s_is, word_is, args_is, literal_is, all_filled}
use Rattle.colis_reader.proofs.PartsKnown.{field_representable, str_representable, piece_representable, part_representable, pat_arm_representable, set_representable, arm_representable, KFields, SFields, KStmt, SStmt, KStr, SStr, KStrPiece, SStrPiece, KChainPart, SChainPart, KPatArm, SPatArm, KSetTo, SSetTo, KStmtArm, SStmtArm, field_base, field_words, field_tests, stmt_base, stmt_words, stmt_tests, str_base, str_words, str_tests, piece_base, piece_words, piece_tests, part_base, part_words, part_tests, pat_arm_base, pat_arm_words, pat_arm_tests, set_base, set_words, set_tests, arm_base, arm_words, arm_tests, fields_of, fields_added, stmts_of, stmts_added, strs_of, strs_added, pieces_of, pieces_added, parts_of, parts_added, pat_arms_of, pat_arms_added, sets_of, sets_added, arms_of, arms_added}

-- ---- the ends of a list

but_last_of : (rs : List Read) (r : Read) → but_last (rs ++ r ∷ []) ≡ rs
but_last_of rs r =
    ap (λ k. take k (rs ++ r ∷ [])) (last_length rs r) ∙ before_last rs r

last_of : (rs : List Read) (r : Read) → last (rs ++ r ∷ []) ≡ r
last_of rs r = ap (λ k. member (rs ++ r ∷ []) k) (last_length rs r) ∙ last_here rs r nothing

reads_more : (ns : List Nest) (n : Nest) → reads (ns ++ n ∷ []) ≡ reads ns ++ read n ∷ []
reads_more [] n = refl
reads_more (m ∷ ns) n = ap (λ l. read m ∷ l) (reads_more ns n)

pub but_last_read : (ns : List Nest) (n : Nest) → but_last (reads (ns ++ n ∷ [])) ≡ reads ns
but_last_read ns n = ap but_last (reads_more ns n) ∙ but_last_of (reads ns) (read n)

pub last_read : (ns : List Nest) (n : Nest) → last (reads (ns ++ n ∷ [])) ≡ read n
last_read ns n = ap last (reads_more ns n) ∙ last_of (reads ns) (read n)

-- ---- strings

str_case : (y : o.Str-F SFields SStmt SStr SStrPiece SChainPart SPatArm SSetTo SStmtArm) → h.str_layer (str_tests (str_base y)) ≡ true
    → (n : Nest) × Fills (t.str_layer (str_words (str_base y))) (n ∷ []) × ((read n).string ≡ roll-Str (str_base y))
str_case (o.Lit bytes) h = (leaf (61 ∷ show bytes), shape.lit_fills bytes h, literal_is bytes h ∙ sym (sv.rolls-Lit bytes))
str_case (o.Var name) h = (named (codes "var") (leaf (show name) ∷ []), shape.var_fills name h, var_is (leaf (show name) ∷ []) ∙ ap sv.Var (name_back name h) ∙ sym (sv.rolls-Var name))
str_case (o.Arg number) h = (
  named (codes "arg") (leaf (decimal number) ∷ []),
  shape.arg_fills number h,
  arg_is (leaf (decimal number) ∷ []) ∙ ap (λ l. sv.Arg (argument_in l)) (word_node (decimal number) []) ∙ ap sv.Arg (argument_back number h) ∙ sym (sv.rolls-Arg number),
)
str_case o.Count h = (named (codes "count") [], shape.alone_fills (codes "(count") (codes "count") (λ top up. refl), count_is [] ∙ sym sv.rolls-Count)
str_case (o.Or first other) h =
    let k = and_parts (str_representable first.0) (are_bytes other) h in
    let a = first.1 k.0 in (
      named (codes "or") (a.0 ∷ leaf (show other) ∷ []),
      shape.or_fills (str_text first.0) other a.0 a.1 k.1,
      or_is (a.0 ∷ leaf (show other) ∷ []) ∙ ap (λ x. sv.Or x (bytes_in (read (leaf (show other))).word)) a.2 ∙ ap (sv.Or first.0) (name_back other k.1) ∙ sym (sv.rolls-Or first.0 other),
    )
str_case (o.Output body) h =
    let a = body.1 h in (
      named (codes "output") (a.0 ∷ []),
      shape.one_text_fills (codes "(output") (codes "output") (stmt_text body.0) a.0 (λ top up. refl) a.1,
      output_is (a.0 ∷ []) ∙ ap sv.Output a.2 ∙ sym (sv.rolls-Output body.0),
    )
str_case (o.Join parts) h =
    let m = strs_added parts h in (
      named (codes "join") m.0,
      shape.group_fills (codes "(join") (codes "join") (each_spaced (map str_text (strs_of parts))) m.0 (λ top up. refl) m.1,
      join_is m.0 ∙ ap sv.Join m.2 ∙ sym (sv.rolls-Join (strs_of parts)),
    )

-- ---- pieces and fields

piece_case : (y : o.StrPiece-F SFields SStmt SStr SStrPiece SChainPart SPatArm SSetTo SStmtArm) → h.piece_layer (piece_tests (piece_base y)) ≡ true
    → (n : Nest) × Fills (t.piece_layer (piece_words (piece_base y))) (n ∷ []) × ((read n).piece ≡ roll-StrPiece (piece_base y))
piece_case (o.Plain string) h =
    let a = string.1 h in
    (named (codes "p") (a.0 ∷ []), shape.one_text_fills (codes "(p") (codes "p") (str_text string.0) a.0 (λ top up. refl) a.1, p_is (a.0 ∷ []) ∙ ap pv.Plain a.2 ∙ sym (pv.rolls-Plain string.0))
piece_case (o.Quoted string) h =
    let a = string.1 h in
    (named (codes "q") (a.0 ∷ []), shape.one_text_fills (codes "(q") (codes "q") (str_text string.0) a.0 (λ top up. refl) a.1, q_is (a.0 ∷ []) ∙ ap pv.Quoted a.2 ∙ sym (pv.rolls-Quoted string.0))
piece_case (o.Split string) h =
    let a = string.1 h in
    (named (codes "s") (a.0 ∷ []), shape.one_text_fills (codes "(s") (codes "s") (str_text string.0) a.0 (λ top up. refl) a.1, s_is (a.0 ∷ []) ∙ ap pv.Split a.2 ∙ sym (pv.rolls-Split string.0))

field_case : (y : o.Fields-F SFields SStmt SStr SStrPiece SChainPart SPatArm SSetTo SStmtArm) → h.fields_layer (field_tests (field_base y)) ≡ true
    → (n : Nest) × Fills (t.fields_layer (field_words (field_base y))) (n ∷ []) × ((read n).field ≡ roll-Fields (field_base y))
field_case (o.Word pieces) h =
    let m = pieces_added pieces h in (
      named (codes "word") m.0,
      shape.group_fills (codes "(word") (codes "word") (each_spaced (map piece_text (pieces_of pieces))) m.0 (λ top up. refl) m.1,
      word_is m.0 ∙ ap fv.Word m.2 ∙ sym (fv.rolls-Word (pieces_of pieces)),
    )
field_case o.Args h = (named (codes "args") [], shape.alone_fills (codes "(args") (codes "args") (λ top up. refl), args_is [] ∙ sym fv.rolls-Args)

-- ---- statements

stmt_case : (y : o.Stmt-F SFields SStmt SStr SStrPiece SChainPart SPatArm SSetTo SStmtArm) → h.stmt_layer (stmt_tests (stmt_base y)) ≡ true
    → (n : Nest) × Fills (t.stmt_layer (stmt_words (stmt_base y))) (n ∷ []) × ((read n).stmt ≡ roll-Stmt (stmt_base y))
stmt_case o.Skip h = (named (codes "skip") [], shape.alone_fills (codes "(skip") (codes "skip") (λ top up. refl), skip_is ∙ sym v.rolls-Skip)
stmt_case o.Strict h = (named (codes "strict") [], shape.alone_fills (codes "(strict") (codes "strict") (λ top up. refl), strict_is [] ∙ sym v.rolls-Strict)
stmt_case o.Lax h = (named (codes "lax") [], shape.alone_fills (codes "(lax") (codes "lax") (λ top up. refl), lax_is [] ∙ sym v.rolls-Lax)
stmt_case o.Break h = (named (codes "break") [], shape.alone_fills (codes "(break") (codes "break") (λ top up. refl), break_is [] ∙ sym v.rolls-Break)
stmt_case o.Continue h = (named (codes "continue") [], shape.alone_fills (codes "(continue") (codes "continue") (λ top up. refl), continue_is [] ∙ sym v.rolls-Continue)
stmt_case (o.Set at sets) h =
    let k = and_parts (fits at) (all_hold (map set_representable (sets_of sets))) h in
    let m = sets_added sets k.1 in (
      named (codes "set") (leaf (decimal at) ∷ m.0),
      shape.at_group_fills (codes "(set") (codes "set") at (each_spaced (map set_text (sets_of sets))) m.0 (λ top up. refl) k.0 m.1,
      set_is at m.0 k.0 ∙ ap (v.Set at) m.2 ∙ sym (v.rolls-Set at (sets_of sets)),
    )
stmt_case (o.Call at fields) h =
    let k = and_parts (fits at) (all_hold (map field_representable (fields_of fields))) h in
    let m = fields_added fields k.1 in (
      named (codes "call") (leaf (decimal at) ∷ m.0),
      shape.at_group_fills (codes "(call") (codes "call") at (each_spaced (map field_text (fields_of fields))) m.0 (λ top up. refl) k.0 m.1,
      call_is at m.0 k.0 ∙ ap (v.Call at) m.2 ∙ sym (v.rolls-Call at (fields_of fields)),
    )
stmt_case (o.Exit at fields) h =
    let k = and_parts (fits at) (all_hold (map field_representable (fields_of fields))) h in
    let m = fields_added fields k.1 in (
      named (codes "exit") (leaf (decimal at) ∷ m.0),
      shape.at_group_fills (codes "(exit") (codes "exit") at (each_spaced (map field_text (fields_of fields))) m.0 (λ top up. refl) k.0 m.1,
      exit_is at m.0 k.0 ∙ ap (v.Exit at) m.2 ∙ sym (v.rolls-Exit at (fields_of fields)),
    )
stmt_case (o.Return at fields) h =
    let k = and_parts (fits at) (all_hold (map field_representable (fields_of fields))) h in
    let m = fields_added fields k.1 in (
      named (codes "return") (leaf (decimal at) ∷ m.0),
      shape.at_group_fills (codes "(return") (codes "return") at (each_spaced (map field_text (fields_of fields))) m.0 (λ top up. refl) k.0 m.1,
      return_is at m.0 k.0 ∙ ap (v.Return at) m.2 ∙ sym (v.rolls-Return at (fields_of fields)),
    )
stmt_case (o.Export at fields) h =
    let k = and_parts (fits at) (all_hold (map field_representable (fields_of fields))) h in
    let m = fields_added fields k.1 in (
      named (codes "export") (leaf (decimal at) ∷ m.0),
      shape.at_group_fills (codes "(export") (codes "export") at (each_spaced (map field_text (fields_of fields))) m.0 (λ top up. refl) k.0 m.1,
      export_is at m.0 k.0 ∙ ap (v.Export at) m.2 ∙ sym (v.rolls-Export at (fields_of fields)),
    )
stmt_case (o.Unset at fields) h =
    let k = and_parts (fits at) (all_hold (map field_representable (fields_of fields))) h in
    let m = fields_added fields k.1 in (
      named (codes "unset") (leaf (decimal at) ∷ m.0),
      shape.at_group_fills (codes "(unset") (codes "unset") at (each_spaced (map field_text (fields_of fields))) m.0 (λ top up. refl) k.0 m.1,
      unset_is at m.0 k.0 ∙ ap (v.Unset at) m.2 ∙ sym (v.rolls-Unset at (fields_of fields)),
    )
stmt_case (o.Fun at name fields) h =
    let k = and_parts (fits at) (are_bytes name && all_hold (map field_representable (fields_of fields))) h in
    let j = and_parts (are_bytes name) (all_hold (map field_representable (fields_of fields))) k.1 in
    let m = fields_added fields j.1 in (
      named (codes "fun") (leaf (decimal at) ∷ leaf (show name) ∷ m.0),
      shape.fun_fills at name (each_spaced (map field_text (fields_of fields))) m.0 k.0 j.0 m.1,
      fun_is at (leaf (show name) ∷ m.0) k.0 ∙ ap (λ l. v.Fun at l (map (λ r. r.field) (reads m.0))) (name_back name j.0) ∙ ap (v.Fun at name) m.2 ∙ sym (v.rolls-Fun at name (fields_of fields)),
    )
stmt_case (o.Seq parts) h =
    let m = stmts_added parts h in (
      named (codes "seq") m.0,
      shape.group_fills (codes "(seq") (codes "seq") (each_spaced (map stmt_text (stmts_of parts))) m.0 (λ top up. refl) m.1,
      seq_is m.0 ∙ ap v.Seq m.2 ∙ sym (v.rolls-Seq (stmts_of parts)),
    )
stmt_case (o.Chain first rest) h =
    let k = and_parts (stmt_representable first.0) (all_hold (map part_representable (parts_of rest))) h in
    let a = first.1 k.0 in
    let m = parts_added rest k.1 in (
      named (codes "chain") (a.0 ∷ m.0),
      shape.chain_fills (stmt_text first.0) (each_spaced (map part_text (parts_of rest))) a.0 m.0 a.1 m.1,
      chain_is (a.0 ∷ m.0) ∙ ap (λ x. v.Chain x (map (λ r. r.part) (reads m.0))) a.2 ∙ ap (v.Chain first.0) m.2 ∙ sym (v.rolls-Chain first.0 (parts_of rest)),
    )
stmt_case (o.If arms other) h =
    let k = and_parts (all_hold (map arm_representable (arms_of arms))) (stmt_representable other.0) h in
    let m = arms_added arms k.0 in
    let a = other.1 k.1 in (
      named (codes "if") (m.0 ++ a.0 ∷ []),
      shape.if_fills (each_spaced (map arm_text (arms_of arms))) (stmt_text other.0) m.0 a.0 m.1 a.1,
      if_is (m.0 ++ a.0 ∷ []) ∙ ap (λ rs. v.If (map (λ r. r.arm) rs) (last (reads (m.0 ++ a.0 ∷ []))).stmt) (but_last_read m.0 a.0)
          ∙ ap (λ r. v.If (map (λ r. r.arm) (reads m.0)) r.stmt) (last_read m.0 a.0) ∙ ap (λ x. v.If (map (λ r. r.arm) (reads m.0)) x) a.2
          ∙ ap (λ l. v.If l other.0) m.2 ∙ sym (v.rolls-If (arms_of arms) other.0),
    )
stmt_case (o.For at name fields body) h =
    let k = and_parts (fits at) (are_bytes name && (all_hold (map field_representable (fields_of fields)) && stmt_representable body.0)) h in
    let j = and_parts (are_bytes name) (all_hold (map field_representable (fields_of fields)) && stmt_representable body.0) k.1 in
    let i = and_parts (all_hold (map field_representable (fields_of fields))) (stmt_representable body.0) j.1 in
    let m = all_filled Fields field_text field_representable (λ r. r.field) fields i.0 in
    let a = body.1 i.1 in
    let ns = leaf (show name) ∷ Node [] m.0 ∷ a.0 ∷ [] in (
      named (codes "for") (leaf (decimal at) ∷ ns),
      shape.for_fills at name (between (λ t. t) (map field_text (fields_of fields))) (stmt_text body.0) m.0 a.0 k.0 j.0 m.1 a.1,
      for_is at ns k.0 ∙ ap (λ l. v.For at l (read (Node [] m.0)).fields (read a.0).stmt) (name_back name j.0)
          ∙ ap (λ l. v.For at name l (read a.0).stmt) (fields_node [] m.0 ∙ m.2) ∙ ap (v.For at name (fields_of fields)) a.2
          ∙ sym (v.rolls-For at name (fields_of fields) body.0),
    )
stmt_case (o.While at cond body) h =
    let k = and_parts (fits at) (stmt_representable cond.0 && stmt_representable body.0) h in
    let j = and_parts (stmt_representable cond.0) (stmt_representable body.0) k.1 in
    let a = cond.1 j.0 in
    let b = body.1 j.1 in (
      named (codes "while") (leaf (decimal at) ∷ a.0 ∷ b.0 ∷ []),
      shape.while_fills at (stmt_text cond.0) (stmt_text body.0) a.0 b.0 k.0 a.1 b.1,
      while_is at (a.0 ∷ b.0 ∷ []) k.0 ∙ ap (λ x. v.While at x (read b.0).stmt) a.2 ∙ ap (v.While at cond.0) b.2 ∙ sym (v.rolls-While at cond.0 body.0),
    )
stmt_case (o.Case at subject arms) h =
    let k = and_parts (fits at) (str_representable subject.0 && all_hold (map pat_arm_representable (pat_arms_of arms))) h in
    let j = and_parts (str_representable subject.0) (all_hold (map pat_arm_representable (pat_arms_of arms))) k.1 in
    let a = subject.1 j.0 in
    let m = pat_arms_added arms j.1 in (
      named (codes "case") (leaf (decimal at) ∷ a.0 ∷ m.0),
      shape.case_fills at (str_text subject.0) (each_spaced (map pat_arm_text (pat_arms_of arms))) a.0 m.0 k.0 a.1 m.1,
      case_is at (a.0 ∷ m.0) k.0 ∙ ap (λ x. v.Case at x (map (λ r. r.pat_arm) (reads m.0))) a.2 ∙ ap (v.Case at subject.0) m.2 ∙ sym (v.rolls-Case at subject.0 (pat_arms_of arms)),
    )
stmt_case (o.Not body) h =
    let a = body.1 h in
    (named (codes "not") (a.0 ∷ []), shape.one_text_fills (codes "(not") (codes "not") (stmt_text body.0) a.0 (λ top up. refl) a.1, not_is (a.0 ∷ []) ∙ ap v.Not a.2 ∙ sym (v.rolls-Not body.0))
stmt_case (o.Quiet body) h =
    let a = body.1 h in
    (named (codes "quiet") (a.0 ∷ []), shape.one_text_fills (codes "(quiet") (codes "quiet") (stmt_text body.0) a.0 (λ top up. refl) a.1, quiet_is (a.0 ∷ []) ∙ ap v.Quiet a.2 ∙ sym (v.rolls-Quiet body.0))
stmt_case (o.Sub at body) h =
    let k = and_parts (fits at) (stmt_representable body.0) h in
    let a = body.1 k.1 in (
      named (codes "sub") (leaf (decimal at) ∷ a.0 ∷ []),
      shape.at_text_fills (codes "(sub") (codes "sub") at (stmt_text body.0) a.0 (λ top up. refl) k.0 a.1,
      sub_is at (a.0 ∷ []) k.0 ∙ ap (v.Sub at) a.2 ∙ sym (v.rolls-Sub at body.0),
    )
stmt_case (o.Err at body) h =
    let k = and_parts (fits at) (stmt_representable body.0) h in
    let a = body.1 k.1 in (
      named (codes "err") (leaf (decimal at) ∷ a.0 ∷ []),
      shape.at_text_fills (codes "(err") (codes "err") at (stmt_text body.0) a.0 (λ top up. refl) k.0 a.1,
      err_is at (a.0 ∷ []) k.0 ∙ ap (v.Err at) a.2 ∙ sym (v.rolls-Err at body.0),
    )
stmt_case (o.Stop at r) h = (
  named (codes "stop") (leaf (decimal at) ∷ leaf (reason_name r) ∷ []),
  shape.stop_fills at r h,
  stop_is at (leaf (reason_name r) ∷ []) h ∙ ap (λ l. v.Stop at (reason_in l)) (word_node (reason_name r) []) ∙ ap (v.Stop at) (reason_back r) ∙ sym (v.rolls-Stop at r),
)

-- ---- what stands in lists

abbrev a_set : Text → Str → SetTo
a_set name value = record { name = name; value = value }

abbrev a_part : Bool → Stmt → ChainPart
a_part and stmt = record { and = and; stmt = stmt }

abbrev an_arm : Stmt → Stmt → StmtArm
an_arm cond body = record { cond = cond; body = body }

abbrev a_pat_arm : List (List StrPiece) → Stmt → PatArm
a_pat_arm patterns body = record { patterns = patterns; body = body }

set_case : (y : o.SetTo-F SFields SStmt SStr SStrPiece SChainPart SPatArm SSetTo SStmtArm) → h.set_layer (set_tests (set_base y)) ≡ true
    → (n : Nest) × Fills (t.set_layer (set_words (set_base y))) (n ∷ []) × ((read n).set ≡ roll-SetTo (set_base y))
unfolding node_read
set_case y h =
    let k = and_parts (are_bytes y.name) (str_representable y.value.0) h in
    let a = y.value.1 k.1 in
    let ns = leaf (show y.name) ∷ a.0 ∷ [] in (
      Node [] ns,
      shape.set_fills y.name (str_text y.value.0) a.0 k.0 a.1,
      set_node [] ns ∙ ap (λ l. a_set l (read a.0).string) (name_back y.name k.0) ∙ ap (a_set y.name) a.2 ∙ sym (rolls-SetTo' (set_base y)),
    )

part_known : (b : Bool) (s : SStmt) → stmt_representable s.0 ≡ true
    → (n : Nest) × Fills (t.one_text (t.link_head b) (stmt_text s.0)) (n ∷ []) × ((read n).part ≡ a_part b s.0)
unfolding node_read
part_known true s h =
    let a = s.1 h in (
      named (codes "and") (a.0 ∷ []),
      shape.one_text_fills (codes "(and") (codes "and") (stmt_text s.0) a.0 (λ top up. refl) a.1,
      part_node [] (leaf (codes "and") ∷ a.0 ∷ []) ∙ ap (λ l. a_part (bytes_eq l (codes "and")) (read a.0).stmt) (word_node (codes "and") []) ∙ ap (a_part true) a.2,
    )
part_known false s h =
    let a = s.1 h in (
      named (codes "or") (a.0 ∷ []),
      shape.one_text_fills (codes "(or") (codes "or") (stmt_text s.0) a.0 (λ top up. refl) a.1,
      part_node [] (leaf (codes "or") ∷ a.0 ∷ []) ∙ ap (λ l. a_part (bytes_eq l (codes "and")) (read a.0).stmt) (word_node (codes "or") []) ∙ ap (a_part false) a.2,
    )

part_case : (y : o.ChainPart-F SFields SStmt SStr SStrPiece SChainPart SPatArm SSetTo SStmtArm) → h.part_layer (part_tests (part_base y)) ≡ true
    → (n : Nest) × Fills (t.part_layer (part_words (part_base y))) (n ∷ []) × ((read n).part ≡ roll-ChainPart (part_base y))
part_case y h = let k = part_known y.and y.stmt h in (k.0, k.1, k.2 ∙ sym (rolls-ChainPart' (part_base y)))

arm_case : (y : o.StmtArm-F SFields SStmt SStr SStrPiece SChainPart SPatArm SSetTo SStmtArm) → h.arm_layer (arm_tests (arm_base y)) ≡ true
    → (n : Nest) × Fills (t.arm_layer (arm_words (arm_base y))) (n ∷ []) × ((read n).arm ≡ roll-StmtArm (arm_base y))
unfolding node_read
arm_case y h =
    let k = and_parts (stmt_representable y.cond.0) (stmt_representable y.body.0) h in
    let a = y.cond.1 k.0 in
    let b = y.body.1 k.1 in (
      Node [] (a.0 ∷ b.0 ∷ []),
      shape.arm_fills (stmt_text y.cond.0) (stmt_text y.body.0) a.0 b.0 a.1 b.1,
      arm_node [] (a.0 ∷ b.0 ∷ []) ∙ ap (λ x. an_arm x (read b.0).stmt) a.2 ∙ ap (an_arm y.cond.0) b.2 ∙ sym (rolls-StmtArm' (arm_base y)),
    )

pattern_known : (ys : List SStrPiece) → all_hold (map piece_representable (pieces_of ys)) ≡ true
    → (n : Nest) × Fills (pattern_text_of (map piece_text (pieces_of ys))) (n ∷ []) × ((read n).pieces ≡ pieces_of ys)
pattern_known ys h =
    let m = pieces_added ys h in (
      named (codes "pat") m.0,
      shape.group_fills (codes "(pat") (codes "pat") (each_spaced (map piece_text (pieces_of ys))) m.0 (λ top up. refl) m.1,
      pieces_node [] (leaf (codes "pat") ∷ m.0) ∙ m.2,
    )

abbrev patterns_of : List (List SStrPiece) → List (List StrPiece)
patterns_of yss = map (λ ys. pieces_of ys) yss

patterns_added : (yss : List (List SStrPiece)) → all_hold (map all_hold (map (λ ys. map piece_representable ys) (patterns_of yss))) ≡ true
    → (ns : List Nest) × Adds (flat_map (λ ts. spaced (pattern_text_of ts)) (map (λ ys. map piece_text ys) (patterns_of yss))) ns
    × (map (λ r. r.pieces) (reads ns) ≡ patterns_of yss)
patterns_added [] h = ([], adds_none, refl)
patterns_added (ys ∷ yss) h =
    let k = and_parts (all_hold (map piece_representable (pieces_of ys))) (all_hold (map all_hold (map (λ ys. map piece_representable ys) (patterns_of yss)))) h in
    let one = pattern_known ys k.0 in
    let more = patterns_added yss k.1 in
    let text = pattern_text_of (map piece_text (pieces_of ys)) in (
      one.0 ∷ more.0,
      adds_both (32 ∷ text) (flat_map (λ ts. spaced (pattern_text_of ts)) (map (λ ys. map piece_text ys) (patterns_of yss))) (one.0 ∷ []) more.0 (adds_space text (one.0 ∷ []) one.1) more.1,
      ap (λ x. x ∷ map (λ r. r.pieces) (reads more.0)) one.2 ∙ ap (λ l. pieces_of ys ∷ l) more.2,
    )

patterns_filled : (yss : List (List SStrPiece)) → all_hold (map all_hold (map (λ ys. map piece_representable ys) (patterns_of yss))) ≡ true
    → (ns : List Nest) × Fills (between pattern_text_of (map (λ ys. map piece_text ys) (patterns_of yss))) ns × (map (λ r. r.pieces) (reads ns) ≡ patterns_of yss)
patterns_filled [] h = ([], fills_none, refl)
patterns_filled (ys ∷ yss) h =
    let k = and_parts (all_hold (map piece_representable (pieces_of ys))) (all_hold (map all_hold (map (λ ys. map piece_representable ys) (patterns_of yss)))) h in
    let one = pattern_known ys k.0 in
    let more = patterns_added yss k.1 in
    let text = pattern_text_of (map piece_text (pieces_of ys)) in (
      one.0 ∷ more.0,
      fills_both text (flat_map (λ ts. spaced (pattern_text_of ts)) (map (λ ys. map piece_text ys) (patterns_of yss))) (one.0 ∷ []) more.0 one.1 more.1,
      ap (λ x. x ∷ map (λ r. r.pieces) (reads more.0)) one.2 ∙ ap (λ l. pieces_of ys ∷ l) more.2,
    )

pat_arm_case : (y : o.PatArm-F SFields SStmt SStr SStrPiece SChainPart SPatArm SSetTo SStmtArm) → h.pat_arm_layer (pat_arm_tests (pat_arm_base y)) ≡ true
    → (n : Nest) × Fills (t.pat_arm_layer (pat_arm_words (pat_arm_base y))) (n ∷ []) × ((read n).pat_arm ≡ roll-PatArm (pat_arm_base y))
unfolding node_read
pat_arm_case y h =
    let k = and_parts (all_hold (map all_hold (map (λ ys. map piece_representable ys) (patterns_of y.patterns)))) (stmt_representable y.body.0) h in
    let m = patterns_filled y.patterns k.0 in
    let b = y.body.1 k.1 in
    let ns = Node [] m.0 ∷ b.0 ∷ [] in (
      Node [] ns,
      shape.pat_arm_fills (between pattern_text_of (map (λ ys. map piece_text ys) (patterns_of y.patterns))) (stmt_text y.body.0) m.0 b.0 m.1 b.1,
      pat_arm_node [] ns ∙ ap (λ l. a_pat_arm l (read b.0).stmt) (patterns_node [] m.0 ∙ m.2) ∙ ap (a_pat_arm (patterns_of y.patterns)) b.2 ∙ sym (rolls-PatArm' (pat_arm_base y)),
    )

-- ---- the induction

field_made : (x : o.Fields-F Fields Stmt Str StrPiece ChainPart PatArm SetTo StmtArm) (y : o.Fields-F SFields SStmt SStr SStrPiece SChainPart SPatArm SSetTo SStmtArm) → field_base y ≡ x → KFields (roll-Fields x)
field_made x y is =
    subst (λ z. KFields (roll-Fields z)) is (λ held.
    let k = field_case y (sym (fold-roll-Fields Bool Bool Bool Bool Bool Bool Bool Bool h.fields_layer h.stmt_layer h.str_layer h.piece_layer h.part_layer h.pat_arm_layer h.set_layer h.arm_layer (field_base y)) ∙ held) in
    (k.0, subst (λ text. Fills text (k.0 ∷ [])) (sym (fold-roll-Fields Text Text Text Text Text Text Text Text t.fields_layer t.stmt_layer t.str_layer t.piece_layer t.part_layer t.pat_arm_layer t.set_layer t.arm_layer (field_base y))) k.1, k.2))

stmt_made : (x : o.Stmt-F Fields Stmt Str StrPiece ChainPart PatArm SetTo StmtArm) (y : o.Stmt-F SFields SStmt SStr SStrPiece SChainPart SPatArm SSetTo SStmtArm) → stmt_base y ≡ x → KStmt (roll-Stmt x)
stmt_made x y is =
    subst (λ z. KStmt (roll-Stmt z)) is (λ held.
    let k = stmt_case y (sym (fold-roll-Stmt Bool Bool Bool Bool Bool Bool Bool Bool h.fields_layer h.stmt_layer h.str_layer h.piece_layer h.part_layer h.pat_arm_layer h.set_layer h.arm_layer (stmt_base y)) ∙ held) in
    (k.0, subst (λ text. Fills text (k.0 ∷ [])) (sym (fold-roll-Stmt Text Text Text Text Text Text Text Text t.fields_layer t.stmt_layer t.str_layer t.piece_layer t.part_layer t.pat_arm_layer t.set_layer t.arm_layer (stmt_base y))) k.1, k.2))

str_made : (x : o.Str-F Fields Stmt Str StrPiece ChainPart PatArm SetTo StmtArm) (y : o.Str-F SFields SStmt SStr SStrPiece SChainPart SPatArm SSetTo SStmtArm) → str_base y ≡ x → KStr (roll-Str x)
str_made x y is =
    subst (λ z. KStr (roll-Str z)) is (λ held.
    let k = str_case y (sym (fold-roll-Str Bool Bool Bool Bool Bool Bool Bool Bool h.fields_layer h.stmt_layer h.str_layer h.piece_layer h.part_layer h.pat_arm_layer h.set_layer h.arm_layer (str_base y)) ∙ held) in
    (k.0, subst (λ text. Fills text (k.0 ∷ [])) (sym (fold-roll-Str Text Text Text Text Text Text Text Text t.fields_layer t.stmt_layer t.str_layer t.piece_layer t.part_layer t.pat_arm_layer t.set_layer t.arm_layer (str_base y))) k.1, k.2))

piece_made : (x : o.StrPiece-F Fields Stmt Str StrPiece ChainPart PatArm SetTo StmtArm) (y : o.StrPiece-F SFields SStmt SStr SStrPiece SChainPart SPatArm SSetTo SStmtArm) → piece_base y ≡ x → KStrPiece (roll-StrPiece x)
piece_made x y is =
    subst (λ z. KStrPiece (roll-StrPiece z)) is (λ held.
    let k = piece_case y (sym (fold-roll-StrPiece Bool Bool Bool Bool Bool Bool Bool Bool h.fields_layer h.stmt_layer h.str_layer h.piece_layer h.part_layer h.pat_arm_layer h.set_layer h.arm_layer (piece_base y)) ∙ held) in
    (k.0, subst (λ text. Fills text (k.0 ∷ [])) (sym (fold-roll-StrPiece Text Text Text Text Text Text Text Text t.fields_layer t.stmt_layer t.str_layer t.piece_layer t.part_layer t.pat_arm_layer t.set_layer t.arm_layer (piece_base y))) k.1, k.2))

part_made : (x : o.ChainPart-F Fields Stmt Str StrPiece ChainPart PatArm SetTo StmtArm) (y : o.ChainPart-F SFields SStmt SStr SStrPiece SChainPart SPatArm SSetTo SStmtArm) → part_base y ≡ x → KChainPart (roll-ChainPart x)
part_made x y is =
    subst (λ z. KChainPart (roll-ChainPart z)) is (λ held.
    let k = part_case y (sym (fold-roll-ChainPart Bool Bool Bool Bool Bool Bool Bool Bool h.fields_layer h.stmt_layer h.str_layer h.piece_layer h.part_layer h.pat_arm_layer h.set_layer h.arm_layer (part_base y)) ∙ held) in
    (k.0, subst (λ text. Fills text (k.0 ∷ [])) (sym (fold-roll-ChainPart Text Text Text Text Text Text Text Text t.fields_layer t.stmt_layer t.str_layer t.piece_layer t.part_layer t.pat_arm_layer t.set_layer t.arm_layer (part_base y))) k.1, k.2))

pat_arm_made : (x : o.PatArm-F Fields Stmt Str StrPiece ChainPart PatArm SetTo StmtArm) (y : o.PatArm-F SFields SStmt SStr SStrPiece SChainPart SPatArm SSetTo SStmtArm) → pat_arm_base y ≡ x → KPatArm (roll-PatArm x)
pat_arm_made x y is =
    subst (λ z. KPatArm (roll-PatArm z)) is (λ held.
    let k = pat_arm_case y (sym (fold-roll-PatArm Bool Bool Bool Bool Bool Bool Bool Bool h.fields_layer h.stmt_layer h.str_layer h.piece_layer h.part_layer h.pat_arm_layer h.set_layer h.arm_layer (pat_arm_base y)) ∙ held) in
    (k.0, subst (λ text. Fills text (k.0 ∷ [])) (sym (fold-roll-PatArm Text Text Text Text Text Text Text Text t.fields_layer t.stmt_layer t.str_layer t.piece_layer t.part_layer t.pat_arm_layer t.set_layer t.arm_layer (pat_arm_base y))) k.1, k.2))

set_made : (x : o.SetTo-F Fields Stmt Str StrPiece ChainPart PatArm SetTo StmtArm) (y : o.SetTo-F SFields SStmt SStr SStrPiece SChainPart SPatArm SSetTo SStmtArm) → set_base y ≡ x → KSetTo (roll-SetTo x)
set_made x y is =
    subst (λ z. KSetTo (roll-SetTo z)) is (λ held.
    let k = set_case y (sym (fold-roll-SetTo Bool Bool Bool Bool Bool Bool Bool Bool h.fields_layer h.stmt_layer h.str_layer h.piece_layer h.part_layer h.pat_arm_layer h.set_layer h.arm_layer (set_base y)) ∙ held) in
    (k.0, subst (λ text. Fills text (k.0 ∷ [])) (sym (fold-roll-SetTo Text Text Text Text Text Text Text Text t.fields_layer t.stmt_layer t.str_layer t.piece_layer t.part_layer t.pat_arm_layer t.set_layer t.arm_layer (set_base y))) k.1, k.2))

arm_made : (x : o.StmtArm-F Fields Stmt Str StrPiece ChainPart PatArm SetTo StmtArm) (y : o.StmtArm-F SFields SStmt SStr SStrPiece SChainPart SPatArm SSetTo SStmtArm) → arm_base y ≡ x → KStmtArm (roll-StmtArm x)
arm_made x y is =
    subst (λ z. KStmtArm (roll-StmtArm z)) is (λ held.
    let k = arm_case y (sym (fold-roll-StmtArm Bool Bool Bool Bool Bool Bool Bool Bool h.fields_layer h.stmt_layer h.str_layer h.piece_layer h.part_layer h.pat_arm_layer h.set_layer h.arm_layer (arm_base y)) ∙ held) in
    (k.0, subst (λ text. Fills text (k.0 ∷ [])) (sym (fold-roll-StmtArm Text Text Text Text Text Text Text Text t.fields_layer t.stmt_layer t.str_layer t.piece_layer t.part_layer t.pat_arm_layer t.set_layer t.arm_layer (arm_base y))) k.1, k.2))

pub stmt_known : (s : Stmt) → KStmt s
stmt_known = ind-Stmt KFields KStmt KStr KStrPiece KChainPart KPatArm KSetTo KStmtArm field_made stmt_made str_made piece_made part_made pat_arm_made set_made arm_made

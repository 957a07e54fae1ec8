-- A text has one reading.
use Rattle.std.proofs.Common.{◌≡◌, ℕ, Bool, true, false, List, [], ◌∷◌, ◌++◌, Option, Some, None, refl, sym, ap, ◌∙◌, subst}
use Rattle.shell_lexer.specs.declared.sight.Sign.{Sign}
use Rattle.shell_lexer.specs.declared.sight.ByteNote.TheVariants as note
use Rattle.shell_lexer.specs.declared.fault.LexFault.{LexFault}
use Rattle.shell_lexer.specs.declared.token.Token.{Token}
use Rattle.shell_lexer.specs.declared.token.RawPart.{RawPart}
use Rattle.shell_lexer.specs.declared.token.RawPart.TheVariants as part
use Rattle.shell_lexer.specs.declared.token.TokenKind.TheVariants as token
use Rattle.shell_lexer.specs.Text.{Bytes, skip, place}
use Rattle.shell_lexer.specs.Operators.{sight, Sight, End, Passed, Operator, Wrong, Word}
use Rattle.shell_lexer.specs.Parts.{look, inner, Look, Ends, Byte, Piece, AllArgs, DoubleQuote, Substitution, Bad}
use Rattle.shell_lexer.specs.Late.{late}
use Rattle.shell_lexer.specs.Reading.{Out, Whole, Stop, Read, behind, grown, closes, opened, token_at, kind_of_sign, plain_run, quoted_run, last_run, IsItems, items_end, items_pass, items_wrong, items_close, items_sign, items_word, items_late, items_bad, IsWord, word_ends, word_byte, word_piece, word_all, word_double, word_run, word_wrong, word_bad_double, word_bad_run, IsInner, inner_open, inner_ends, inner_byte, inner_piece, inner_all, inner_run, inner_wrong, inner_bad_run, IsSub, sub_deep, sub_items}
use Rattle.shell_lexer.proofs.PrintedBytes.{clash}

-- ---- what stands at a place tells most rules apart

data Tag : Type 0 where
  T0 : Tag
  T1 : Tag
  T2 : Tag
  T3 : Tag
  T4 : Tag
  T5 : Tag
  T6 : Tag

abbrev sight_tag : Sight → Tag
sight_tag End = T0
sight_tag (Passed t) = T1
sight_tag (Operator s t) = T2
sight_tag (Wrong f) = T3
sight_tag Word = T4

abbrev look_tag : Look → Tag
look_tag Ends = T0
look_tag (Byte b t) = T1
look_tag (Piece p t) = T2
look_tag (DoubleQuote t) = T3
look_tag (AllArgs t) = T4
look_tag (Substitution t) = T5
look_tag (Bad f) = T6

module _ {deep : ℕ → Bool} {len depth from parens : ℕ} {text : Bytes} where
  abbrev items_tag : {q : Out (List Token)} → IsItems deep len depth from parens text q → Tag
  items_tag (items_end h e) = T0
  items_tag (items_pass t h x) = T1
  items_tag (items_wrong f h e) = T3
  items_tag (items_close s t h c e) = T2
  items_tag (items_sign s t q1 h c x e) = T2
  items_tag (items_word v t q1 h w l x e) = T4
  items_tag (items_late v t f h w l e) = T4
  items_tag (items_bad f h w e) = T4

  items_right : {q : Out (List Token)} (x : IsItems deep len depth from parens text q) → sight_tag (sight len text) ≡ items_tag x
  items_right (items_end h e) = ap sight_tag h
  items_right (items_pass t h x) = ap sight_tag h
  items_right (items_wrong f h e) = ap sight_tag h
  items_right (items_close s t h c e) = ap sight_tag h
  items_right (items_sign s t q1 h c x e) = ap sight_tag h
  items_right (items_word v t q1 h w l x e) = ap sight_tag h
  items_right (items_late v t f h w l e) = ap sight_tag h
  items_right (items_bad f h w e) = ap sight_tag h

module _ {deep : ℕ → Bool} {len depth : ℕ} {run text : Bytes} where
  abbrev word_tag : {q : Out Read} → IsWord deep len depth run text q → Tag
  word_tag (word_ends h e) = T0
  word_tag (word_byte b t q1 h x e) = T1
  word_tag (word_piece p t q1 h x e) = T2
  word_tag (word_all t q1 h x e) = T4
  word_tag (word_double s v t q1 h i x e) = T3
  word_tag (word_run s ts t q1 h i x e) = T5
  word_tag (word_wrong f h e) = T6
  word_tag (word_bad_double s f h i e) = T3
  word_tag (word_bad_run s f h i e) = T5

  word_right : {q : Out Read} (x : IsWord deep len depth run text q) → look_tag (look len text) ≡ word_tag x
  word_right (word_ends h e) = ap look_tag h
  word_right (word_byte b t q1 h x e) = ap look_tag h
  word_right (word_piece p t q1 h x e) = ap look_tag h
  word_right (word_all t q1 h x e) = ap look_tag h
  word_right (word_double s v t q1 h i x e) = ap look_tag h
  word_right (word_run s ts t q1 h i x e) = ap look_tag h
  word_right (word_wrong f h e) = ap look_tag h
  word_right (word_bad_double s f h i e) = ap look_tag h
  word_right (word_bad_run s f h i e) = ap look_tag h

module _ {deep : ℕ → Bool} {len depth from : ℕ} {fresh : Bool} {run text : Bytes} where
  abbrev inner_tag : {q : Out Read} → IsInner deep len depth from fresh run text q → Tag
  inner_tag (inner_open h e) = T0
  inner_tag (inner_ends t h e) = T3
  inner_tag (inner_byte b t q1 h x e) = T1
  inner_tag (inner_piece p t q1 h x e) = T2
  inner_tag (inner_all t q1 h x e) = T4
  inner_tag (inner_run s ts t q1 h i x e) = T5
  inner_tag (inner_wrong f h e) = T6
  inner_tag (inner_bad_run s f h i e) = T5

  inner_right : {q : Out Read} (x : IsInner deep len depth from fresh run text q) → look_tag (inner len text) ≡ inner_tag x
  inner_right (inner_open h e) = ap look_tag h
  inner_right (inner_ends t h e) = ap look_tag h
  inner_right (inner_byte b t q1 h x e) = ap look_tag h
  inner_right (inner_piece p t q1 h x e) = ap look_tag h
  inner_right (inner_all t q1 h x e) = ap look_tag h
  inner_right (inner_run s ts t q1 h i x e) = ap look_tag h
  inner_right (inner_wrong f h e) = ap look_tag h
  inner_right (inner_bad_run s f h i e) = ap look_tag h

-- ---- pieces

pub same_value : {A : Type 0} {v w : A} {r s : Bytes} → Whole v r ≡ Whole w s → v ≡ w
same_value e = cc

same_rest : {A : Type 0} {v w : A} {r s : Bytes} → Whole v r ≡ Whole w s → r ≡ s
same_rest e = cc

pub no_stop : {A : Type 0} {v : A} {r : Bytes} {f : LexFault} → Whole v r ≡ Stop f → ⊥
no_stop e = cc

pub same_stop : {A : Type 0} {x : Out A} {f g : LexFault} → x ≡ Stop g → x ≡ Stop f → f ≡ g
same_stop e h = cc

no_late : {x : Option LexFault} {f : LexFault} → x ≡ None → x ≡ Some f → ⊥
no_late e f = cc

same_some : {x : Option LexFault} {f g : LexFault} → x ≡ Some f → x ≡ Some g → f ≡ g
same_some e f = cc

passed : {x : Sight} {t u : Bytes} → x ≡ Passed t → x ≡ Passed u → t ≡ u
passed e f = cc

sign_of : {x : Sight} {s r : Sign} {t u : Bytes} → x ≡ Operator s t → x ≡ Operator r u → s ≡ r
sign_of e f = cc

sign_rest : {x : Sight} {s r : Sign} {t u : Bytes} → x ≡ Operator s t → x ≡ Operator r u → t ≡ u
sign_rest e f = cc

wrong : {x : Sight} {s r : LexFault} → x ≡ Wrong s → x ≡ Wrong r → s ≡ r
wrong e f = cc

byte_of : {x : Look} {b c : ℕ} {t u : Bytes} → x ≡ Byte b t → x ≡ Byte c u → b ≡ c
byte_of e f = cc

byte_rest : {x : Look} {b c : ℕ} {t u : Bytes} → x ≡ Byte b t → x ≡ Byte c u → t ≡ u
byte_rest e f = cc

piece_of : {x : Look} {p r : RawPart} {t u : Bytes} → x ≡ Piece p t → x ≡ Piece r u → p ≡ r
piece_of e f = cc

piece_rest : {x : Look} {p r : RawPart} {t u : Bytes} → x ≡ Piece p t → x ≡ Piece r u → t ≡ u
piece_rest e f = cc

all_rest : {x : Look} {t u : Bytes} → x ≡ AllArgs t → x ≡ AllArgs u → t ≡ u
all_rest e f = cc

double_rest : {x : Look} {t u : Bytes} → x ≡ DoubleQuote t → x ≡ DoubleQuote u → t ≡ u
double_rest e f = cc

run_rest : {x : Look} {t u : Bytes} → x ≡ Substitution t → x ≡ Substitution u → t ≡ u
run_rest e f = cc

bad : {x : Look} {s r : LexFault} → x ≡ Bad s → x ≡ Bad r → s ≡ r
bad e f = cc

closes_sign : (d n : ℕ) {s r : Sign} {x : Sight} {t u : Bytes} → x ≡ Operator s t → x ≡ Operator r u → closes d n s ≡ true → closes d n r ≡ false → ⊥
closes_sign d n {s} {r} e f c c' = clash c' (subst (λ s. closes d n s ≡ true) (sign_of e f) c)

mutual
  pub items_one : {deep : ℕ → Bool} {len depth from parens : ℕ} {text : Bytes} {q r : Out (List Token)} → IsItems deep len depth from parens text q → IsItems deep len depth from parens text r → q ≡ r
  items_one {deep} {len} {depth} {from} {parens} {text} (items_end h e) (items_end h' e') = e ∙ sym e'
  items_one {deep} {len} {depth} {from} {parens} {text} {r = r} (items_pass t h x) (items_pass t' h' y) = items_one x (subst (λ t. IsItems deep len depth from parens t r) (passed h' h) y)
  items_one {deep} {len} {depth} {from} {parens} {text} (items_wrong f h e) (items_wrong f' h' e') = e ∙ ap Stop (wrong h h') ∙ sym e'
  items_one {deep} {len} {depth} {from} {parens} {text} (items_close s t h c e) (items_close s' t' h' c' e') = e ∙ ap (Whole []) (sign_rest h h') ∙ sym e'
  items_one {deep} {len} {depth} {from} {parens} {text} (items_close s t h c e) (items_sign s' t' q1 h' c' x e') = absurd (closes_sign _ _ h h' c c')
  items_one {deep} {len} {depth} {from} {parens} {text} (items_sign s t q1 h c x e) (items_close s' t' h' c' e') = absurd (closes_sign _ _ h' h c' c)
  items_one {deep} {len} {depth} {from} {parens} {text} (items_sign s t q1 h c x e) (items_sign s' t' q2 h' c' y e') =
      let ih = items_one x (subst (λ s. IsItems deep len depth from (opened s parens) t q2) (sign_of h' h) (subst (λ t. IsItems deep len depth from (opened s' parens) t q2) (sign_rest h' h) y)) in
      e ∙ ap (behind (token_at (place len (skip text)) (kind_of_sign s) ∷ [])) ih ∙ ap (λ s. behind (token_at (place len (skip text)) (kind_of_sign s) ∷ []) q2) (sign_of h h') ∙ sym e'
  items_one {deep} {len} {depth} {from} {parens} {text} (items_word v t q1 h w l x e) (items_word v' t' q2 h' w' l' y e') =
      let a = word_one w w' in
      let ih = items_one x (subst (λ t. IsItems deep len depth from parens t q2) (sym (same_rest a)) y) in
      e ∙ ap (behind (token_at (place len (skip text)) (token.Word v.0) ∷ [])) ih ∙ ap (λ (v : Read). behind (token_at (place len (skip text)) (token.Word v.0) ∷ []) q2) (same_value a) ∙ sym e'
  items_one {deep} {len} {depth} {from} {parens} {text} (items_word v t q1 h w l x e) (items_late v' t' f h' w' l' e') = absurd (no_late (subst (λ (v : Read). late depth (place len (skip text)) v.1 ≡ None) (same_value (word_one w w')) l) l')
  items_one {deep} {len} {depth} {from} {parens} {text} (items_word v t q1 h w l x e) (items_bad f h' w' e') = absurd (no_stop (word_one w w'))
  items_one {deep} {len} {depth} {from} {parens} {text} (items_late v t f h w l e) (items_word v' t' q2 h' w' l' y e') = absurd (no_late (subst (λ (v : Read). late depth (place len (skip text)) v.1 ≡ None) (sym (same_value (word_one w w'))) l') l)
  items_one {deep} {len} {depth} {from} {parens} {text} (items_late v t f h w l e) (items_late v' t' f' h' w' l' e') = e ∙ ap Stop (same_some (subst (λ (v : Read). late depth (place len (skip text)) v.1 ≡ Some f) (same_value (word_one w w')) l) l') ∙ sym e'
  items_one {deep} {len} {depth} {from} {parens} {text} (items_late v t f h w l e) (items_bad f' h' w' e') = absurd (no_stop (word_one w w'))
  items_one {deep} {len} {depth} {from} {parens} {text} (items_bad f h w e) (items_word v' t' q2 h' w' l' y e') = absurd (no_stop (sym (word_one w w')))
  items_one {deep} {len} {depth} {from} {parens} {text} (items_bad f h w e) (items_late v' t' f' h' w' l' e') = absurd (no_stop (sym (word_one w w')))
  items_one {deep} {len} {depth} {from} {parens} {text} (items_bad f h w e) (items_bad f' h' w' e') = e ∙ ap Stop (same_stop (word_one w w') refl) ∙ sym e'
  items_one x y = absurd (cc (sym (items_right x) ∙ items_right y))

  pub word_one : {deep : ℕ → Bool} {len depth : ℕ} {run text : Bytes} {q r : Out Read} → IsWord deep len depth run text q → IsWord deep len depth run text r → q ≡ r
  word_one {deep} {len} {depth} {run} {text} (word_ends h e) (word_ends h' e') = e ∙ sym e'
  word_one {deep} {len} {depth} {run} {text} (word_byte b t q1 h x e) (word_byte b' t' q2 h' y e') =
      let ih = word_one x (subst (λ b. IsWord deep len depth (run ++ b ∷ []) t q2) (byte_of h' h) (subst (λ t. IsWord deep len depth (run ++ b' ∷ []) t q2) (byte_rest h' h) y)) in
      e ∙ ap (grown [] (note.Plain b (place len (skip text)) ∷ [])) ih ∙ ap (λ b. grown [] (note.Plain b (place len (skip text)) ∷ []) q2) (byte_of h h') ∙ sym e'
  word_one {deep} {len} {depth} {run} {text} (word_piece p t q1 h x e) (word_piece p' t' q2 h' y e') =
      let ih = word_one x (subst (λ t. IsWord deep len depth [] t q2) (piece_rest h' h) y) in
      e ∙ ap (grown (plain_run run ++ p ∷ []) (note.Gap ∷ [])) ih ∙ ap (λ p. grown (plain_run run ++ p ∷ []) (note.Gap ∷ []) q2) (piece_of h h') ∙ sym e'
  word_one {deep} {len} {depth} {run} {text} (word_all t q1 h x e) (word_all t' q2 h' y e') =
      let ih = word_one x (subst (λ t. IsWord deep len depth [] t q2) (all_rest h' h) y) in
      e ∙ ap (grown (plain_run run ++ part.All ∷ []) (note.All (place len (skip text)) false ∷ [])) ih ∙ sym e'
  word_one {deep} {len} {depth} {run} {text} (word_double s v t q1 h i x e) (word_double s' v' t' q2 h' i' y e') =
      let a = inner_one i (subst (λ s. IsInner deep len depth (place len (skip text)) true [] s (Whole v' t')) (double_rest h' h) i') in
      let ih = word_one x (subst (λ t. IsWord deep len depth [] t q2) (sym (same_rest a)) y) in
      e ∙ ap (grown (plain_run run ++ v.0) (v.1 ++ note.Gap ∷ [])) ih ∙ ap (λ (v : Read). grown (plain_run run ++ v.0) (v.1 ++ note.Gap ∷ []) q2) (same_value a) ∙ sym e'
  word_one {deep} {len} {depth} {run} {text} (word_double s v t q1 h i x e) (word_bad_double s' f h' i' e') = absurd (no_stop (inner_one i (subst (λ s. IsInner deep len depth (place len (skip text)) true [] s (Stop f)) (double_rest h' h) i')))
  word_one {deep} {len} {depth} {run} {text} (word_bad_double s f h i e) (word_double s' v t q1 h' i' x e') = absurd (no_stop (sym (inner_one i (subst (λ s. IsInner deep len depth (place len (skip text)) true [] s (Whole v t)) (double_rest h' h) i'))))
  word_one {deep} {len} {depth} {run} {text} (word_bad_double s f h i e) (word_bad_double s' f' h' i' e') = e ∙ ap Stop (same_stop (inner_one i (subst (λ s. IsInner deep len depth (place len (skip text)) true [] s (Stop f')) (double_rest h' h) i')) refl) ∙ sym e'
  word_one {deep} {len} {depth} {run} {text} (word_run s ts t q1 h i x e) (word_run s' ts' t' q2 h' i' y e') =
      let a = sub_one i (subst (λ s. IsSub deep len depth (place len (skip text)) s (Whole ts' t')) (run_rest h' h) i') in
      let ih = word_one x (subst (λ t. IsWord deep len depth [] t q2) (sym (same_rest a)) y) in
      e ∙ ap (grown (plain_run run ++ part.Run (place len (skip text)) ts false ∷ []) (note.Gap ∷ [])) ih ∙ ap (λ ts. grown (plain_run run ++ part.Run (place len (skip text)) ts false ∷ []) (note.Gap ∷ []) q2) (same_value a) ∙ sym e'
  word_one {deep} {len} {depth} {run} {text} (word_run s ts t q1 h i x e) (word_bad_run s' f h' i' e') = absurd (no_stop (sub_one i (subst (λ s. IsSub deep len depth (place len (skip text)) s (Stop f)) (run_rest h' h) i')))
  word_one {deep} {len} {depth} {run} {text} (word_bad_run s f h i e) (word_run s' ts t q1 h' i' x e') = absurd (no_stop (sym (sub_one i (subst (λ s. IsSub deep len depth (place len (skip text)) s (Whole ts t)) (run_rest h' h) i'))))
  word_one {deep} {len} {depth} {run} {text} (word_bad_run s f h i e) (word_bad_run s' f' h' i' e') = e ∙ ap Stop (same_stop (sub_one i (subst (λ s. IsSub deep len depth (place len (skip text)) s (Stop f')) (run_rest h' h) i')) refl) ∙ sym e'
  word_one {deep} {len} {depth} {run} {text} (word_wrong f h e) (word_wrong f' h' e') = e ∙ ap Stop (bad h h') ∙ sym e'
  word_one x y = absurd (cc (sym (word_right x) ∙ word_right y))

  pub inner_one : {deep : ℕ → Bool} {len depth from : ℕ} {fresh : Bool} {run text : Bytes} {q r : Out Read} → IsInner deep len depth from fresh run text q → IsInner deep len depth from fresh run text r → q ≡ r
  inner_one {deep} {len} {depth} {from} {fresh} {run} {text} (inner_open h e) (inner_open h' e') = e ∙ sym e'
  inner_one {deep} {len} {depth} {from} {fresh} {run} {text} (inner_ends t h e) (inner_ends t' h' e') = e ∙ ap (Whole (last_run fresh run, [])) (double_rest h h') ∙ sym e'
  inner_one {deep} {len} {depth} {from} {fresh} {run} {text} (inner_byte b t q1 h x e) (inner_byte b' t' q2 h' y e') =
      let ih = inner_one x (subst (λ b. IsInner deep len depth from fresh (run ++ b ∷ []) t q2) (byte_of h' h) (subst (λ t. IsInner deep len depth from fresh (run ++ b' ∷ []) t q2) (byte_rest h' h) y)) in
      e ∙ ap (grown [] (note.Gap ∷ [])) ih ∙ sym e'
  inner_one {deep} {len} {depth} {from} {fresh} {run} {text} (inner_piece p t q1 h x e) (inner_piece p' t' q2 h' y e') =
      let ih = inner_one x (subst (λ t. IsInner deep len depth from false [] t q2) (piece_rest h' h) y) in
      e ∙ ap (grown (quoted_run run ++ p ∷ []) (note.Gap ∷ [])) ih ∙ ap (λ p. grown (quoted_run run ++ p ∷ []) (note.Gap ∷ []) q2) (piece_of h h') ∙ sym e'
  inner_one {deep} {len} {depth} {from} {fresh} {run} {text} (inner_all t q1 h x e) (inner_all t' q2 h' y e') =
      let ih = inner_one x (subst (λ t. IsInner deep len depth from false [] t q2) (all_rest h' h) y) in
      e ∙ ap (grown (quoted_run run ++ part.All ∷ []) (note.All (place len (skip text)) true ∷ [])) ih ∙ sym e'
  inner_one {deep} {len} {depth} {from} {fresh} {run} {text} (inner_run s ts t q1 h i x e) (inner_run s' ts' t' q2 h' i' y e') =
      let a = sub_one i (subst (λ s. IsSub deep len depth (place len (skip text)) s (Whole ts' t')) (run_rest h' h) i') in
      let ih = inner_one x (subst (λ t. IsInner deep len depth from false [] t q2) (sym (same_rest a)) y) in
      e ∙ ap (grown (quoted_run run ++ part.Run (place len (skip text)) ts true ∷ []) (note.Gap ∷ [])) ih ∙ ap (λ ts. grown (quoted_run run ++ part.Run (place len (skip text)) ts true ∷ []) (note.Gap ∷ []) q2) (same_value a) ∙ sym e'
  inner_one {deep} {len} {depth} {from} {fresh} {run} {text} (inner_run s ts t q1 h i x e) (inner_bad_run s' f h' i' e') = absurd (no_stop (sub_one i (subst (λ s. IsSub deep len depth (place len (skip text)) s (Stop f)) (run_rest h' h) i')))
  inner_one {deep} {len} {depth} {from} {fresh} {run} {text} (inner_bad_run s f h i e) (inner_run s' ts t q1 h' i' x e') = absurd (no_stop (sym (sub_one i (subst (λ s. IsSub deep len depth (place len (skip text)) s (Whole ts t)) (run_rest h' h) i'))))
  inner_one {deep} {len} {depth} {from} {fresh} {run} {text} (inner_bad_run s f h i e) (inner_bad_run s' f' h' i' e') = e ∙ ap Stop (same_stop (sub_one i (subst (λ s. IsSub deep len depth (place len (skip text)) s (Stop f')) (run_rest h' h) i')) refl) ∙ sym e'
  inner_one {deep} {len} {depth} {from} {fresh} {run} {text} (inner_wrong f h e) (inner_wrong f' h' e') = e ∙ ap Stop (bad h h') ∙ sym e'
  inner_one x y = absurd (cc (sym (inner_right x) ∙ inner_right y))

  pub sub_one : {deep : ℕ → Bool} {len depth from : ℕ} {text : Bytes} {q r : Out (List Token)} → IsSub deep len depth from text q → IsSub deep len depth from text r → q ≡ r
  sub_one (sub_deep l e) (sub_deep l' e') = e ∙ sym e'
  sub_one (sub_deep l e) (sub_items l' x) = absurd (clash l' l)
  sub_one (sub_items l x) (sub_deep l' e') = absurd (clash l l')
  sub_one (sub_items l x) (sub_items l' y) = items_one x y

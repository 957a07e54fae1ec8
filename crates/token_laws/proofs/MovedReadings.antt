-- A text is read the same way at each offset, but for the offsets of its tokens.
use Rattle.std.proofs.Common.{◌≡◌, ℕ, zero, suc, ◌+◌, ◌≤◌, Bool, true, false, List, [], ◌∷◌, ◌++◌, length, length-append, refl, sym, ap, subst, arith, not, nat_eq, None}
use Rattle.std.specs.List.{list_all}
use Rattle.shell_lexer.specs.declared.fault.LexFault.{LexFault}
use Rattle.shell_lexer.specs.declared.sight.ByteNote.{ByteNote}
use Rattle.shell_lexer.specs.declared.sight.ByteNote.TheVariants as note
use Rattle.shell_lexer.specs.declared.token.Token.{Token}
use Rattle.shell_lexer.specs.declared.token.RawPart.{RawPart}
use Rattle.shell_lexer.specs.declared.token.RawPart.TheVariants as part
use Rattle.shell_lexer.specs.declared.token.TokenKind.TheVariants as token_kind
use Rattle.shell_lexer.specs.declared.token.Lexed.{Lexed}
use Rattle.shell_lexer.specs.FirstLine.{nul_of}
use Rattle.token_laws.specs.Laws.{last_is, IsReadAt, with_line}
use Rattle.shell_lexer.specs.Lexed.{CutBy}
use Rattle.token_laws.specs.Moved.{has_offsets, AreMoved, none, operator, word, PartsAreMoved, no_part, substitution, other}
use Rattle.shell_lexer.specs.Operators.{End, Passed, Operator, Word, sight}
use Rattle.shell_lexer.specs.Parts.{Ends, Byte, Piece, AllArgs, DoubleQuote, Substitution}
use Rattle.shell_lexer.specs.Reading.{Out, Whole, Stop, Read, behind, grown, ended, token_at, kind_of_sign, opened, plain_run, quoted_run, last_run, IsItems, items_end, items_pass, items_wrong, items_close, items_sign, items_word, items_late, items_bad, IsWord, word_ends, word_byte, word_piece, word_all, word_double, word_run, word_wrong, word_bad_double, word_bad_run, IsInner, inner_open, inner_ends, inner_byte, inner_piece, inner_all, inner_run, inner_wrong, inner_bad_run, IsSub, sub_deep, sub_items}
use Rattle.shell_lexer.specs.SpelledParts.{IsPiece}
use Rattle.shell_lexer.specs.Text.{Bytes, offset}
use Rattle.shell_lexer.proofs.Ahead.{Behind}
use Rattle.token_laws.proofs.AnyOffset.{moved, moved_append, late_moved, sight_same, look_same, inner_same}
use Rattle.shell_lexer.proofs.Rests.{passed_rest, operator_rest, byte_rest, piece_rest, all_rest, double_rest, run_rest, inner_byte_rest, inner_piece_rest, inner_all_rest, inner_run_rest}
use Rattle.shell_lexer.proofs.SpelledParts.{look_seen, inner_seen}
use Rattle.token_laws.proofs.TwoCuts.{cut_apart}
use Rattle.shell_lexer.proofs.Tiles.{skip_length, word_leave, inner_leave, sub_leave}

piece_other : (inside : Bool) (p : RawPart) (text rest : Bytes) → IsPiece inside p text rest → has_offsets p ≡ false
piece_other inside (part.Param key default quoted) text rest h = refl
piece_other inside (part.Quoted bytes) text rest h = refl
piece_other inside _ text rest h = absurd h

module _ (bytes : ℕ) where
  -- ---- parts without offsets

  plain_moved : (run : Bytes) → PartsAreMoved bytes (plain_run run) (plain_run run)
  plain_moved [] = no_part
  plain_moved (b ∷ run) = other refl no_part

  quoted_moved : (run : Bytes) → PartsAreMoved bytes (quoted_run run) (quoted_run run)
  quoted_moved [] = no_part
  quoted_moved (b ∷ run) = other refl no_part

  last_moved : (fresh : Bool) (run : Bytes) → PartsAreMoved bytes (last_run fresh run) (last_run fresh run)
  last_moved true [] = other refl no_part
  last_moved true (b ∷ run) = other refl no_part
  last_moved false [] = no_part
  last_moved false (b ∷ run) = other refl no_part

  parts_append : {ps qs rs ss : List RawPart} → PartsAreMoved bytes ps qs → PartsAreMoved bytes rs ss → PartsAreMoved bytes (ps ++ rs) (qs ++ ss)
  parts_append no_part m = m
  parts_append (substitution at quoted ts us a x) m = substitution at quoted ts us a (parts_append x m)
  parts_append (other e x) m = other e (parts_append x m)

  -- ---- whole outcomes, moved; nothing is said of faults

  abbrev ItemsOut : (Out (List Token) → Type 0) → Out (List Token) → Type 0
  ItemsOut X (Whole ts rest) = (us : List Token) × AreMoved bytes ts us × X (Whole us rest)
  ItemsOut X (Stop f) = Unit {0}

  abbrev ReadOut : (Out Read → Type 0) → Out Read → Type 0
  ReadOut X (Whole v rest) = (ps : List RawPart) × PartsAreMoved bytes v.0 ps × X (Whole (ps, moved bytes v.1) rest)
  ReadOut X (Stop f) = Unit {0}

  items_stop : (X : Out (List Token) → Type 0) (q : Out (List Token)) (f : LexFault) → q ≡ Stop f → ItemsOut X q
  items_stop X q f e = subst (ItemsOut X) (sym e) tt

  read_stop : (X : Out Read → Type 0) (q : Out Read) (f : LexFault) → q ≡ Stop f → ReadOut X q
  read_stop X q f e = subst (ReadOut X) (sym e) tt

  items_map : (X Y : Out (List Token) → Type 0) (q : Out (List Token)) → ((r : Out (List Token)) → X r → Y r) → ItemsOut X q → ItemsOut Y q
  items_map X Y (Whole ts rest) f h = (h.0, h.1, f (Whole h.0 rest) h.2)
  items_map X Y (Stop g) f h = tt

  items_behind : (X Y : Out (List Token) → Type 0) (t u : Token) (q : Out (List Token)) → ((ts us : List Token) → AreMoved bytes ts us → AreMoved bytes (t ∷ ts) (u ∷ us))
      → ((r : Out (List Token)) → X r → Y (behind (u ∷ []) r)) → ItemsOut X q → ItemsOut Y (behind (t ∷ []) q)
  items_behind X Y t u (Whole ts rest) step f h = (u ∷ h.0, step ts h.0 h.1, f (Whole h.0 rest) h.2)
  items_behind X Y t u (Stop g) step f h = tt

  read_grown : (X Y : Out Read → Type 0) (ps qs : List RawPart) (ms : List ByteNote) (q : Out Read) → PartsAreMoved bytes ps qs
      → ((r : Out Read) → X r → Y (grown qs (moved bytes ms) r)) → ReadOut X q → ReadOut Y (grown ps ms q)
  read_grown X Y ps qs ms (Whole v rest) m f h =
      (qs ++ h.0, parts_append m h.1, subst (λ (ns : List ByteNote). Y (Whole (qs ++ h.0, ns) rest)) (sym (moved_append bytes ms v.1)) (f (Whole (h.0, moved bytes v.1) rest) h.2))
  read_grown X Y ps qs ms (Stop g) m f h = tt

  -- ---- readings

  module _ (deep : ℕ → Bool) (len : ℕ) where
    offset_moved : (text : Bytes) → length text ≤ len → offset (len + bytes) text ≡ offset len text + bytes
    offset_moved text le = let s = skip_length text in omega arith

    left : (text rest : Bytes) → length text ≤ len → Behind text rest → length rest ≤ len
    left text rest le h = let e : length text ≡ length (h.0 ++ rest) = ap length h.1 in let l = length-append h.0 rest in omega arith

    end_moved : (depth start begun parens : ℕ) (text : Bytes) → sight (len + bytes) text ≡ End → ItemsOut (IsItems deep (len + bytes) depth begun parens text) (ended depth start)
    end_moved zero start begun parens text h = ([], none, items_end h refl)
    end_moved (suc depth) start begun parens text h = tt

    mutual
      items_moved : {depth start parens : ℕ} {text : Bytes} {q : Out (List Token)} (begun : ℕ) → IsItems deep len depth start parens text q → length text ≤ len
          → ItemsOut (IsItems deep (len + bytes) depth begun parens text) q
      items_moved {depth} {start} {parens} {text} {q} begun (items_end h e) le =
          subst (ItemsOut (IsItems deep (len + bytes) depth begun parens text)) (sym e) (end_moved depth start begun parens text (sight_same len (len + bytes) text End h))
      items_moved {depth} {start} {parens} {text} {q} begun (items_pass t h x) le =
          items_map (IsItems deep (len + bytes) depth begun parens t) (IsItems deep (len + bytes) depth begun parens text) q
          (λ r y. items_pass t (sight_same len (len + bytes) text (Passed t) h) y) (items_moved begun x (left text t le (passed_rest len text t h)))
      items_moved {depth} {start} {parens} {text} {q} begun (items_wrong f h e) le = items_stop (IsItems deep (len + bytes) depth begun parens text) q f e
      items_moved {depth} {start} {parens} {text} {q} begun (items_close s t h c e) le =
          subst (ItemsOut (IsItems deep (len + bytes) depth begun parens text)) (sym e) ([], none, items_close s t (sight_same len (len + bytes) text (Operator s t) h) c refl)
      items_moved {depth} {start} {parens} {text} {q} begun (items_sign s t q1 h c x e) le =
          subst (ItemsOut (IsItems deep (len + bytes) depth begun parens text)) (sym e)
          (items_behind (IsItems deep (len + bytes) depth begun (opened s parens) t) (IsItems deep (len + bytes) depth begun parens text) (token_at (offset len text) (kind_of_sign s)) (token_at (offset len text + bytes) (kind_of_sign s)) q1
          (λ ts us m. operator (offset len text) s m)
          (λ r y. items_sign s t r (sight_same len (len + bytes) text (Operator s t) h) c y (ap (λ n. behind (token_at n (kind_of_sign s) ∷ []) r) (sym (offset_moved text le))))
          (items_moved begun x (left text t le (operator_rest len text s t h))))
      items_moved {depth} {start} {parens} {text} {q} begun (items_word v t q1 h w l x e) le =
          let i = word_moved w le in
          subst (ItemsOut (IsItems deep (len + bytes) depth begun parens text)) (sym e)
          (items_behind (IsItems deep (len + bytes) depth begun parens t) (IsItems deep (len + bytes) depth begun parens text) (token_at (offset len text) (token_kind.Word v.0)) (token_at (offset len text + bytes) (token_kind.Word i.0)) q1
          (λ ts us m. word (offset len text) v.0 i.0 i.1 m)
          (λ r y. items_word (i.0, moved bytes v.1) t r (sight_same len (len + bytes) text Word h) i.2 (late_moved bytes depth (offset len text) (offset (len + bytes) text) v.1 l) y
          (ap (λ n. behind (token_at n (token_kind.Word i.0) ∷ []) r) (sym (offset_moved text le))))
          (items_moved begun x (left text t le (word_leave w))))
      items_moved {depth} {start} {parens} {text} {q} begun (items_late v t f h w l e) le = items_stop (IsItems deep (len + bytes) depth begun parens text) q f e
      items_moved {depth} {start} {parens} {text} {q} begun (items_bad f h w e) le = items_stop (IsItems deep (len + bytes) depth begun parens text) q f e

      word_moved : {depth : ℕ} {run text : Bytes} {q : Out Read} → IsWord deep len depth run text q → length text ≤ len → ReadOut (IsWord deep (len + bytes) depth run text) q
      word_moved {depth} {run} {text} {q} (word_ends h e) le =
          subst (ReadOut (IsWord deep (len + bytes) depth run text)) (sym e) (plain_run run, plain_moved run, word_ends (look_same len (len + bytes) text Ends h) refl)
      word_moved {depth} {run} {text} {q} (word_byte c t q1 h x e) le =
          subst (ReadOut (IsWord deep (len + bytes) depth run text)) (sym e)
          (read_grown (IsWord deep (len + bytes) depth (run ++ c ∷ []) t) (IsWord deep (len + bytes) depth run text) [] [] (note.Plain c (offset len text) ∷ []) q1 no_part
          (λ r y. word_byte c t r (look_same len (len + bytes) text (Byte c t) h) y (ap (λ n. grown [] (note.Plain c n ∷ []) r) (sym (offset_moved text le))))
          (word_moved x (left text t le (byte_rest len text c t h))))
      word_moved {depth} {run} {text} {q} (word_piece p t q1 h x e) le =
          let same : has_offsets p ≡ false = piece_other false p text t (look_seen len text (Piece p t) h) in
          subst (ReadOut (IsWord deep (len + bytes) depth run text)) (sym e)
          (read_grown (IsWord deep (len + bytes) depth [] t) (IsWord deep (len + bytes) depth run text) (plain_run run ++ p ∷ []) (plain_run run ++ p ∷ []) (note.Gap ∷ []) q1 (parts_append (plain_moved run) (other same no_part))
          (λ r y. word_piece p t r (look_same len (len + bytes) text (Piece p t) h) y refl)
          (word_moved x (left text t le (piece_rest len text p t h))))
      word_moved {depth} {run} {text} {q} (word_all t q1 h x e) le =
          subst (ReadOut (IsWord deep (len + bytes) depth run text)) (sym e)
          (read_grown (IsWord deep (len + bytes) depth [] t) (IsWord deep (len + bytes) depth run text) (plain_run run ++ part.All ∷ []) (plain_run run ++ part.All ∷ []) (note.All (offset len text) false ∷ []) q1
          (parts_append (plain_moved run) (other refl no_part))
          (λ r y. word_all t r (look_same len (len + bytes) text (AllArgs t) h) y (ap (λ n. grown (plain_run run ++ part.All ∷ []) (note.All n false ∷ []) r) (sym (offset_moved text le))))
          (word_moved x (left text t le (all_rest len text t h))))
      word_moved {depth} {run} {text} {q} (word_double g v t q1 h i x e) le =
          let inside : length g ≤ len = left text g le (double_rest len text g h) in
          let j = inside_moved (offset (len + bytes) text) i inside in
          subst (ReadOut (IsWord deep (len + bytes) depth run text)) (sym e)
          (read_grown (IsWord deep (len + bytes) depth [] t) (IsWord deep (len + bytes) depth run text) (plain_run run ++ v.0) (plain_run run ++ j.0) (v.1 ++ note.Gap ∷ []) q1 (parts_append (plain_moved run) j.1)
          (λ r y. word_double g (j.0, moved bytes v.1) t r (look_same len (len + bytes) text (DoubleQuote g) h) j.2 y
          (ap (λ (ns : List ByteNote). grown (plain_run run ++ j.0) ns r) (moved_append bytes v.1 (note.Gap ∷ []))))
          (word_moved x (left g t inside (inner_leave i))))
      word_moved {depth} {run} {text} {q} (word_run g ts t q1 h i x e) le =
          let inside : length g ≤ len = left text g le (run_rest len text g h) in
          let j = sub_moved (offset (len + bytes) text) i inside in
          subst (ReadOut (IsWord deep (len + bytes) depth run text)) (sym e)
          (read_grown (IsWord deep (len + bytes) depth [] t) (IsWord deep (len + bytes) depth run text)
          (plain_run run ++ part.Run (offset len text) ts false ∷ []) (plain_run run ++ part.Run (offset len text + bytes) j.0 false ∷ []) (note.Gap ∷ []) q1
          (parts_append (plain_moved run) (substitution (offset len text) false ts j.0 j.1 no_part))
          (λ r y. word_run g j.0 t r (look_same len (len + bytes) text (Substitution g) h) j.2 y
          (ap (λ n. grown (plain_run run ++ part.Run n j.0 false ∷ []) (note.Gap ∷ []) r) (sym (offset_moved text le))))
          (word_moved x (left g t inside (sub_leave i))))
      word_moved {depth} {run} {text} {q} (word_wrong f h e) le = read_stop (IsWord deep (len + bytes) depth run text) q f e
      word_moved {depth} {run} {text} {q} (word_bad_double g f h i e) le = read_stop (IsWord deep (len + bytes) depth run text) q f e
      word_moved {depth} {run} {text} {q} (word_bad_run g f h i e) le = read_stop (IsWord deep (len + bytes) depth run text) q f e

      inside_moved : {depth start : ℕ} {fresh : Bool} {run text : Bytes} {q : Out Read} (begun : ℕ) → IsInner deep len depth start fresh run text q → length text ≤ len
          → ReadOut (IsInner deep (len + bytes) depth begun fresh run text) q
      inside_moved {depth} {start} {fresh} {run} {text} {q} begun (inner_open h e) le = read_stop (IsInner deep (len + bytes) depth begun fresh run text) q _ e
      inside_moved {depth} {start} {fresh} {run} {text} {q} begun (inner_ends t h e) le =
          subst (ReadOut (IsInner deep (len + bytes) depth begun fresh run text)) (sym e) (last_run fresh run, last_moved fresh run, inner_ends t (inner_same len (len + bytes) text (DoubleQuote t) h) refl)
      inside_moved {depth} {start} {fresh} {run} {text} {q} begun (inner_byte c t q1 h x e) le =
          subst (ReadOut (IsInner deep (len + bytes) depth begun fresh run text)) (sym e)
          (read_grown (IsInner deep (len + bytes) depth begun fresh (run ++ c ∷ []) t) (IsInner deep (len + bytes) depth begun fresh run text) [] [] (note.Gap ∷ []) q1 no_part
          (λ r y. inner_byte c t r (inner_same len (len + bytes) text (Byte c t) h) y refl)
          (inside_moved begun x (left text t le (inner_byte_rest len text c t h))))
      inside_moved {depth} {start} {fresh} {run} {text} {q} begun (inner_piece p t q1 h x e) le =
          let same : has_offsets p ≡ false = piece_other true p text t (inner_seen len text (Piece p t) h) in
          subst (ReadOut (IsInner deep (len + bytes) depth begun fresh run text)) (sym e)
          (read_grown (IsInner deep (len + bytes) depth begun false [] t) (IsInner deep (len + bytes) depth begun fresh run text) (quoted_run run ++ p ∷ []) (quoted_run run ++ p ∷ []) (note.Gap ∷ []) q1
          (parts_append (quoted_moved run) (other same no_part))
          (λ r y. inner_piece p t r (inner_same len (len + bytes) text (Piece p t) h) y refl)
          (inside_moved begun x (left text t le (inner_piece_rest len text p t h))))
      inside_moved {depth} {start} {fresh} {run} {text} {q} begun (inner_all t q1 h x e) le =
          subst (ReadOut (IsInner deep (len + bytes) depth begun fresh run text)) (sym e)
          (read_grown (IsInner deep (len + bytes) depth begun false [] t) (IsInner deep (len + bytes) depth begun fresh run text) (quoted_run run ++ part.All ∷ []) (quoted_run run ++ part.All ∷ []) (note.All (offset len text) true ∷ []) q1
          (parts_append (quoted_moved run) (other refl no_part))
          (λ r y. inner_all t r (inner_same len (len + bytes) text (AllArgs t) h) y (ap (λ n. grown (quoted_run run ++ part.All ∷ []) (note.All n true ∷ []) r) (sym (offset_moved text le))))
          (inside_moved begun x (left text t le (inner_all_rest len text t h))))
      inside_moved {depth} {start} {fresh} {run} {text} {q} begun (inner_run g ts t q1 h i x e) le =
          let inside : length g ≤ len = left text g le (inner_run_rest len text g h) in
          let j = sub_moved (offset (len + bytes) text) i inside in
          subst (ReadOut (IsInner deep (len + bytes) depth begun fresh run text)) (sym e)
          (read_grown (IsInner deep (len + bytes) depth begun false [] t) (IsInner deep (len + bytes) depth begun fresh run text)
          (quoted_run run ++ part.Run (offset len text) ts true ∷ []) (quoted_run run ++ part.Run (offset len text + bytes) j.0 true ∷ []) (note.Gap ∷ []) q1
          (parts_append (quoted_moved run) (substitution (offset len text) true ts j.0 j.1 no_part))
          (λ r y. inner_run g j.0 t r (inner_same len (len + bytes) text (Substitution g) h) j.2 y
          (ap (λ n. grown (quoted_run run ++ part.Run n j.0 true ∷ []) (note.Gap ∷ []) r) (sym (offset_moved text le))))
          (inside_moved begun x (left g t inside (sub_leave i))))
      inside_moved {depth} {start} {fresh} {run} {text} {q} begun (inner_wrong f h e) le = read_stop (IsInner deep (len + bytes) depth begun fresh run text) q f e
      inside_moved {depth} {start} {fresh} {run} {text} {q} begun (inner_bad_run g f h i e) le = read_stop (IsInner deep (len + bytes) depth begun fresh run text) q f e

      sub_moved : {depth start : ℕ} {text : Bytes} {q : Out (List Token)} (begun : ℕ) → IsSub deep len depth start text q → length text ≤ len → ItemsOut (IsSub deep (len + bytes) depth begun text) q
      sub_moved {depth} {start} {text} {q} begun (sub_deep l e) le = items_stop (IsSub deep (len + bytes) depth begun text) q _ e
      sub_moved {depth} {start} {text} {q} begun (sub_items l x) le =
          items_map (IsItems deep (len + bytes) (suc depth) begun 0 text) (IsSub deep (len + bytes) depth begun text) q (λ r y. sub_items l y) (items_moved begun x le)

pub readings_move : (deep : ℕ → Bool) (bytes at : ℕ) (text : Bytes) (ts : List Token) → IsReadAt deep at text ts → (us : List Token) × AreMoved bytes ts us × IsReadAt deep (at + bytes) text us
readings_move deep bytes at text ts x =
    let all : (at + length text) + bytes ≡ (at + bytes) + length text = omega arith in
    let r = items_moved bytes deep (at + length text) 0 x (omega arith) in
    (r.0, r.1, subst (λ n. IsItems deep n 0 0 0 text (Whole r.0 [])) all r.2)

pub alone_apart : (deep : ℕ → Bool) (text second : Bytes) (l : Lexed) (ts : List Token) → CutBy deep text l → list_all (λ b. not (nat_eq b 10)) text ≡ false → last_is 92 text ≡ false
    → nul_of second ≡ None → IsReadAt deep 0 second ts
    → (us : List Token) × AreMoved (length text + 1) ts us × CutBy deep (text ++ 10 ∷ second) (with_line l second us)
alone_apart deep text second l ts c line last n x =
    let r = readings_move deep (length text + 1) 0 second ts x in
    let behind_newline : 0 + (length text + 1) ≡ length text + 1 = omega arith in
    (r.0, r.1, cut_apart deep text second l r.0 c line last n (subst (λ k. IsReadAt deep k second r.0) behind_newline r.2))

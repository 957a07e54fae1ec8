-- What is read by some limit of substitutions, and does not stop at one that is too deep, is read the same way without a limit.
use Rattle.std.proofs.Common.{◌≡◌, ℕ, Bool, true, false, List, [], ◌∷◌, ◌++◌, refl, subst}
use Rattle.shell_lexer.specs.declared.sight.ByteNote.{ByteNote}
use Rattle.shell_lexer.specs.declared.sight.ByteNote.TheVariants as note
use Rattle.shell_lexer.specs.declared.fault.LexFault.{LexFault}
use Rattle.shell_lexer.specs.declared.fault.LexFault.TheVariants.{Nul, Interpreter, OpenQuote, OpenSubstitution, Unsupported, Deep, Memory}
use Rattle.shell_lexer.specs.declared.token.Token.{Token}
use Rattle.shell_lexer.specs.declared.token.RawPart.{RawPart}
use Rattle.shell_lexer.specs.declared.token.RawPart.TheVariants as part
use Rattle.shell_lexer.specs.declared.token.TokenKind.TheVariants as token
use Rattle.shell_lexer.specs.declared.token.Lexed.{Lexed}
use Rattle.shell_lexer.specs.Depth.{too_deep, no_limit}
use Rattle.shell_lexer.specs.Text.{Bytes, offset}
use Rattle.shell_lexer.specs.Reading.{Out, Whole, Stop, Read, behind, grown, token_at, kind_of_sign, plain_run, quoted_run, IsItems, items_end, items_pass, items_wrong, items_close, items_sign, items_word, items_late, items_bad, IsWord, word_ends, word_byte, word_piece, word_all, word_double, word_run, word_wrong, word_bad_double, word_bad_run, IsInner, inner_open, inner_ends, inner_byte, inner_piece, inner_all, inner_run, inner_wrong, inner_bad_run, IsSub, sub_deep, sub_items}
use Rattle.shell_lexer.specs.Lexed.{Cut, CutAtAnyDepth, Faulty, IsBody}
use Rattle.shell_lexer.proofs.CutOnce.{some_none}
use Rattle.shell_lexer.proofs.Unique.{items_one, no_stop}

-- the fault is no substitution that is too deep
abbrev NotDeep : LexFault → Type 0
NotDeep (Deep at) = ⊥
NotDeep _ = Unit {0}

-- nor is the outcome
abbrev Shallow : {A : Type 0} → Out A → Type 0
Shallow (Whole v rest) = Unit {0}
Shallow (Stop f) = NotDeep f

shallow_behind : {A : Type 0} (xs : List A) (q r : Out (List A)) → q ≡ behind xs r → Shallow q → Shallow r
shallow_behind xs q (Whole v rest) e s = tt
shallow_behind xs q (Stop f) e s = subst Shallow e s

shallow_grown : (ps : List RawPart) (ms : List ByteNote) (q r : Out Read) → q ≡ grown ps ms r → Shallow q → Shallow r
shallow_grown ps ms q (Whole v rest) e s = tt
shallow_grown ps ms q (Stop f) e s = subst Shallow e s

shallow_stop : {A : Type 0} (f : LexFault) (q : Out A) → q ≡ Stop f → Shallow q → NotDeep f
shallow_stop f q e s = subst Shallow e s

mutual
  free_items : {deep : ℕ → Bool} {len depth from parens : ℕ} {text : Bytes} {q : Out (List Token)} → IsItems deep len depth from parens text q → Shallow q → IsItems no_limit len depth from parens text q
  free_items (items_end h e) s = items_end h e
  free_items (items_pass t h x) s = items_pass t h (free_items x s)
  free_items (items_wrong f h e) s = items_wrong f h e
  free_items (items_close r t h c e) s = items_close r t h c e
  free_items {deep} {len} {depth} {from} {parens} {text} {q} (items_sign r t q1 h c x e) s =
      items_sign r t q1 h c (free_items x (shallow_behind (token_at (offset len text) (kind_of_sign r) ∷ []) q q1 e s)) e
  free_items {deep} {len} {depth} {from} {parens} {text} {q} (items_word v t q1 h w l x e) s =
      items_word v t q1 h (free_word w tt) l (free_items x (shallow_behind (token_at (offset len text) (token.Word v.0) ∷ []) q q1 e s)) e
  free_items (items_late v t f h w l e) s = items_late v t f h (free_word w tt) l e
  free_items {deep} {len} {depth} {from} {parens} {text} {q} (items_bad f h w e) s = items_bad f h (free_word w (shallow_stop f q e s)) e

  free_word : {deep : ℕ → Bool} {len depth : ℕ} {run text : Bytes} {q : Out Read} → IsWord deep len depth run text q → Shallow q → IsWord no_limit len depth run text q
  free_word (word_ends h e) s = word_ends h e
  free_word {deep} {len} {depth} {run} {text} {q} (word_byte b t q1 h x e) s = word_byte b t q1 h (free_word x (shallow_grown [] (note.Plain b (offset len text) ∷ []) q q1 e s)) e
  free_word {deep} {len} {depth} {run} {text} {q} (word_piece p t q1 h x e) s = word_piece p t q1 h (free_word x (shallow_grown (plain_run run ++ p ∷ []) (note.Gap ∷ []) q q1 e s)) e
  free_word {deep} {len} {depth} {run} {text} {q} (word_all t q1 h x e) s = word_all t q1 h (free_word x (shallow_grown (plain_run run ++ part.All ∷ []) (note.All (offset len text) false ∷ []) q q1 e s)) e
  free_word {deep} {len} {depth} {run} {text} {q} (word_double g v t q1 h i x e) s = word_double g v t q1 h (free_inner i tt) (free_word x (shallow_grown (plain_run run ++ v.0) (v.1 ++ note.Gap ∷ []) q q1 e s)) e
  free_word {deep} {len} {depth} {run} {text} {q} (word_run g ts t q1 h i x e) s = word_run g ts t q1 h (free_sub i tt) (free_word x (shallow_grown (plain_run run ++ part.Run (offset len text) ts false ∷ []) (note.Gap ∷ []) q q1 e s)) e
  free_word (word_wrong f h e) s = word_wrong f h e
  free_word {deep} {len} {depth} {run} {text} {q} (word_bad_double g f h i e) s = word_bad_double g f h (free_inner i (shallow_stop f q e s)) e
  free_word {deep} {len} {depth} {run} {text} {q} (word_bad_run g f h i e) s = word_bad_run g f h (free_sub i (shallow_stop f q e s)) e

  free_inner : {deep : ℕ → Bool} {len depth from : ℕ} {fresh : Bool} {run text : Bytes} {q : Out Read} → IsInner deep len depth from fresh run text q → Shallow q → IsInner no_limit len depth from fresh run text q
  free_inner (inner_open h e) s = inner_open h e
  free_inner (inner_ends t h e) s = inner_ends t h e
  free_inner {deep} {len} {depth} {from} {fresh} {run} {text} {q} (inner_byte b t q1 h x e) s = inner_byte b t q1 h (free_inner x (shallow_grown [] (note.Gap ∷ []) q q1 e s)) e
  free_inner {deep} {len} {depth} {from} {fresh} {run} {text} {q} (inner_piece p t q1 h x e) s = inner_piece p t q1 h (free_inner x (shallow_grown (quoted_run run ++ p ∷ []) (note.Gap ∷ []) q q1 e s)) e
  free_inner {deep} {len} {depth} {from} {fresh} {run} {text} {q} (inner_all t q1 h x e) s = inner_all t q1 h (free_inner x (shallow_grown (quoted_run run ++ part.All ∷ []) (note.All (offset len text) true ∷ []) q q1 e s)) e
  free_inner {deep} {len} {depth} {from} {fresh} {run} {text} {q} (inner_run g ts t q1 h i x e) s = inner_run g ts t q1 h (free_sub i tt) (free_inner x (shallow_grown (quoted_run run ++ part.Run (offset len text) ts true ∷ []) (note.Gap ∷ []) q q1 e s)) e
  free_inner (inner_wrong f h e) s = inner_wrong f h e
  free_inner {deep} {len} {depth} {from} {fresh} {run} {text} {q} (inner_bad_run g f h i e) s = inner_bad_run g f h (free_sub i (shallow_stop f q e s)) e

  free_sub : {deep : ℕ → Bool} {len depth from : ℕ} {text : Bytes} {q : Out (List Token)} → IsSub deep len depth from text q → Shallow q → IsSub no_limit len depth from text q
  free_sub (sub_deep l e) s = absurd (subst Shallow e s)
  free_sub (sub_items l x) s = sub_items refl (free_items x s)

-- a cut by the limit is one without it
pub cut_free : (text : Bytes) (l : Lexed) → Cut text l → CutAtAnyDepth text l
cut_free text l c = record { no_nul = c.no_nul; first = c.first; body = free_items c.body tt; end = c.end }

-- two readings of a text's body without a limit have one outcome
stop_or_cut : (text : Bytes) (l : Lexed) (f : LexFault) → CutAtAnyDepth text l → IsBody too_deep text (Stop f) → NotDeep f → ⊥
stop_or_cut text l f c x s = no_stop (items_one c.body (free_items x s))

-- a text that has a cut without the limit has no fault but a substitution that is too deep
pub only_deep : (text : Bytes) (l : Lexed) (f : LexFault) → CutAtAnyDepth text l → Faulty text f → (at : ℕ) × (f ≡ Deep at)
only_deep text l (Nul at) c h = absurd (some_none h c.no_nul)
only_deep text l (Interpreter at) c h = absurd (some_none c.first h.1)
only_deep text l (OpenQuote at) c h = absurd (stop_or_cut text l (OpenQuote at) c h.1 tt)
only_deep text l (OpenSubstitution at) c h = absurd (stop_or_cut text l (OpenSubstitution at) c h.1 tt)
only_deep text l (Unsupported form at) c h = absurd (stop_or_cut text l (Unsupported form at) c h.1 tt)
only_deep text l (Deep at) c h = (at, refl)
only_deep text l Memory c h = absurd h

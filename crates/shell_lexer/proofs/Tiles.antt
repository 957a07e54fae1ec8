-- The tokens of a cut text and what stands between them take up the text.
use Rattle.std.proofs.Common.{◌≡◌, ◌⊎◌, inl, inr, ℕ, zero, suc, ◌+◌, ◌≤◌, Bool, true, false, not, ◌&&◌, nat_eq, if◌then◌else◌, List, [], ◌∷◌, ◌++◌, append-nil, length, length-append, Option, Some, None, refl, sym, ap, ◌∙◌, subst, arith}
use Rattle.std.specs.List.{list_all}
use Rattle.shell_syntax.specs.declared.redirect.Redirect.{Redirect}
use Rattle.shell_lexer.specs.declared.byte_kind.ByteKind.{ByteKind}
use Rattle.shell_lexer.specs.declared.byte_kind.ByteKind.TheVariants as k
use Rattle.shell_lexer.specs.declared.byte_kind.RunKind.TheVariants.{Digits}
use Rattle.shell_lexer.specs.declared.sight.ByteNote.{ByteNote}
use Rattle.shell_lexer.specs.declared.sight.ByteNote.TheVariants as note
use Rattle.shell_lexer.specs.declared.token.Token.{Token}
use Rattle.shell_lexer.specs.declared.token.RawPart.{RawPart}
use Rattle.shell_lexer.specs.declared.token.RawPart.TheVariants as part
use Rattle.shell_lexer.specs.declared.token.TokenKind.TheVariants as token_kind
use Rattle.shell_lexer.specs.declared.token.Lexed.{Lexed}
use Rattle.shell_lexer.specs.Text.{Bytes, kind, skip, place, offset, tail, head_is, run, behind as behind_run, is_blank}
use Rattle.shell_lexer.specs.FirstLine.{behind_line}
use Rattle.shell_lexer.specs.Operators.{Sight, End, Passed, Operator, Wrong, Word, sight, sight_at, sight_by, redirected, copied, less, greater, numbered, numbered_by, out_to, in_from, copy_of, null_word, whole_word, after_line}
use Rattle.shell_lexer.specs.Parts.{Byte, Piece, AllArgs, DoubleQuote, Substitution, Ends, look}
use Rattle.shell_lexer.specs.Reading.{Out, Whole, Stop, Read, behind, grown, ended, token_at, kind_of_sign, plain_run, quoted_run, IsItems, items_end, items_pass, items_wrong, items_close, items_sign, items_word, items_late, items_bad, IsWord, word_ends, word_byte, word_piece, word_all, word_double, word_run, word_wrong, word_bad_double, word_bad_run, IsInner, inner_open, inner_ends, inner_byte, inner_piece, inner_all, inner_run, inner_wrong, inner_bad_run, IsSub, sub_deep, sub_items}
use Rattle.shell_lexer.specs.Lexed.{CutAtAnyDepth}
use Rattle.shell_lexer.specs.Tiled.{at_line_end, IsTiled, ends, joined, blank, comment, token, RiseFrom}
use Rattle.shell_lexer.proofs.Ahead.{Behind, Ahead, behind_then, ahead_then, ahead_behind, operator_ahead, piece_ahead, stands_ahead}
use Rattle.shell_lexer.proofs.Begun.{begun}
use Rattle.std.proofs.lemmas.Bool.{and_from, and_parts, cond_both, eqb-true}
use Rattle.shell_lexer.proofs.SpelledKinds.{KindOf, kind_of}
use Rattle.shell_lexer.proofs.SpelledOperators.{operator_seen}
use Rattle.shell_lexer.proofs.SpelledBytes.{byte_ahead}
use Rattle.shell_lexer.proofs.SpelledParts.{look_seen, inner_seen}

-- ---- the end, blanks and comments

-- a comment from behind its `#` on: the rest is its line's end
pub record IsComment (more rest : Bytes) : Type 0 where
  pub bytes : Bytes
  pub is : more ≡ bytes ++ rest
  pub line : list_all (λ b. not (nat_eq b 10)) bytes ≡ true
  pub ended : at_line_end rest ≡ true

-- what is passed over is a blank or a comment, and the end is the text's
abbrev pub Fits : Bytes → Sight → Type 0
Fits t End = t ≡ []
Fits t (Passed rest) = ((b : ℕ) × (t ≡ b ∷ rest) × (is_blank b ≡ true)) ⊎ ((more : Bytes) × (t ≡ 35 ∷ more) × IsComment more rest)
Fits t _ = Unit {0}

-- neither
abbrev Other : Sight → Type 0
Other End = ⊥
Other (Passed rest) = ⊥
Other _ = Unit {0}

other_fits : (t : Bytes) (s : Sight) → Other s → Fits t s
other_fits t End h = absurd h
other_fits t (Passed rest) h = absurd h
other_fits t (Operator which rest) h = tt
other_fits t (Wrong fault) h = tt
other_fits t Word h = tt

redirected_other : (at : ℕ) (which : Option Redirect) (rest : Option Bytes) → Other (redirected at which rest)
redirected_other at None rest = tt
redirected_other at (Some which) None = tt
redirected_other at (Some which) (Some rest) = tt

copied_other : (at : ℕ) (number t : Bytes) → Other (copied at number t)
copied_other at number [] = tt
copied_other at number (b ∷ rest) = redirected_other at (copy_of number b) (whole_word (Some rest))

less_other : (at : ℕ) (number t : Bytes) → Other (less at number t)
less_other at number t = cond_both (head_is 60 (skip t)) _ _ Other (λ _. tt) (λ _. redirected_other at (in_from number) (null_word t))

greater_other : (at : ℕ) (number t : Bytes) → Other (greater at number t)
greater_other at number t =
    cond_both (head_is 62 (skip t)) _ _ Other (λ _. redirected_other at (out_to number) (null_word (tail (skip t))))
    (λ _. cond_both (head_is 38 (skip t)) _ _ Other (λ _. copied_other at number (skip (tail (skip t)))) (λ _. redirected_other at (out_to number) (null_word t)))

numbered_by_other : (at : ℕ) (number : Bytes) (it : ByteKind) (t : Bytes) → Other (numbered_by at number it t)
numbered_by_other at number k.Less t = less_other at number t
numbered_by_other at number k.Greater t = greater_other at number t
numbered_by_other at number _ t = tt

numbered_other : (len : ℕ) (number t : Bytes) → Other (numbered len number t)
numbered_other len number [] = tt
numbered_other len number (b ∷ rest) = numbered_by_other (place len (b ∷ rest)) number (kind b) rest

comment_step : (b : ℕ) (rest : Bytes) (it : Bool) → nat_eq b 10 ≡ it → IsComment rest (after_line rest) → IsComment (b ∷ rest) (if it then b ∷ rest else after_line rest)
comment_step b rest true e c = record { bytes = []; is = refl; line = refl; ended = e }
comment_step b rest false e c = record {
  bytes = b ∷ c.bytes;
  is = ap (λ t. b ∷ t) c.is;
  line = and_from (not (nat_eq b 10)) (list_all (λ b. not (nat_eq b 10)) c.bytes) (ap not e) c.line;
  ended = c.ended;
}

comment_of : (more : Bytes) → IsComment more (after_line more)
comment_of [] = record { bytes = []; is = refl; line = refl; ended = refl }
comment_of (b ∷ rest) = comment_step b rest (nat_eq b 10) refl (comment_of rest)

by_fits : (len at b : ℕ) (it : ByteKind) (rest : Bytes) → KindOf b it → Fits (b ∷ rest) (sight_by len at b it rest)
by_fits len at b k.Blank rest is = inl (b, refl, is)
by_fits len at b k.Hash rest is = inr (rest, ap (λ b. b ∷ rest) is, comment_of rest)
by_fits len at b k.Semi rest is = cond_both (head_is 59 (skip rest)) _ _ (Fits (b ∷ rest)) (λ _. tt) (λ _. tt)
by_fits len at b k.Amp rest is = cond_both (head_is 38 (skip rest)) _ _ (Fits (b ∷ rest)) (λ _. tt) (λ _. tt)
by_fits len at b k.Bar rest is = cond_both (head_is 124 (skip rest)) _ _ (Fits (b ∷ rest)) (λ _. tt) (λ _. tt)
by_fits len at b k.Open rest is = cond_both (head_is 40 (skip rest)) _ _ (Fits (b ∷ rest)) (λ _. tt) (λ _. tt)
by_fits len at b k.Less rest is = other_fits (b ∷ rest) (less at [] rest) (less_other at [] rest)
by_fits len at b k.Greater rest is = other_fits (b ∷ rest) (greater at [] rest) (greater_other at [] rest)
by_fits len at b k.Digit rest is =
    other_fits (b ∷ rest) (numbered len (run Digits (b ∷ rest)) (skip (behind_run Digits (b ∷ rest)))) (numbered_other len (run Digits (b ∷ rest)) (skip (behind_run Digits (b ∷ rest))))
by_fits len at b _ rest is = tt

at_fits : (len at : ℕ) (t : Bytes) → Fits t (sight_at len at t)
at_fits len at [] = refl
at_fits len at (b ∷ rest) = by_fits len at b (kind b) rest (kind_of b)

pub fits : (len : ℕ) (text : Bytes) (s : Sight) → sight len text ≡ s → Fits (skip text) s
fits len text s e = subst (Fits (skip text)) e (at_fits len (place len (skip text)) (skip text))

-- what is passed over is at least one byte
pub passed_ahead : (text rest : Bytes) → Fits (skip text) (Passed rest) → Ahead text rest
passed_ahead text rest (inl f) = (f.0, [], f.1)
passed_ahead text rest (inr f) = (35, f.2.bytes, f.1 ∙ ap (λ t. 35 ∷ t) f.2.is)

-- ---- a reading leaves an end of its text

abbrev pub Leaves : {A : Type 0} → Bytes → Out A → Type 0
Leaves text (Whole v rest) = Behind text rest
Leaves text (Stop fault) = Unit {0}

leaves_ended : (text : Bytes) (depth «from» : ℕ) → Leaves text (ended depth «from»)
leaves_ended text zero «from» = (text, sym (append-nil text))
leaves_ended text (suc depth) «from» = tt

leaves_behind : {A : Type 0} (text rest : Bytes) (xs : List A) (q : Out (List A)) → Behind text rest → Leaves rest q → Leaves text (behind xs q)
leaves_behind text rest xs (Whole v r) b h = behind_then text rest r b h
leaves_behind text rest xs (Stop f) b h = tt

leaves_grown : (text rest : Bytes) (ps : List RawPart) (ms : List ByteNote) (q : Out Read) → Behind text rest → Leaves rest q → Leaves text (grown ps ms q)
leaves_grown text rest ps ms (Whole v r) b h = behind_then text rest r b h
leaves_grown text rest ps ms (Stop f) b h = tt

-- a word's whole reading leaves one behind at least one byte
abbrev LeavesAhead : Bytes → Out Read → Type 0
LeavesAhead text (Whole v rest) = Ahead text rest
LeavesAhead text (Stop fault) = Unit {0}

ahead_grown : (text rest : Bytes) (ps : List RawPart) (ms : List ByteNote) (q : Out Read) → Ahead text rest → Leaves rest q → LeavesAhead text (grown ps ms q)
ahead_grown text rest ps ms (Whole v r) a h = ahead_then text rest r a h
ahead_grown text rest ps ms (Stop f) a h = tt

ahead_leaves : (text : Bytes) (q : Out Read) → LeavesAhead text q → Leaves text q
ahead_leaves text (Whole v rest) h = ahead_behind text rest h
ahead_leaves text (Stop f) h = tt

mutual
  items_leave : {deep : ℕ → Bool} {len depth from parens : ℕ} {text : Bytes} {q : Out (List Token)} → IsItems deep len depth from parens text q → Leaves text q
  items_leave {deep} {len} {depth} {from} {parens} {text} {q} (items_end h e) = subst (Leaves text) (sym e) (leaves_ended text depth from)
  items_leave {deep} {len} {depth} {from} {parens} {text} {q} (items_pass t h x) = let b = ahead_behind text t (passed_ahead text t (fits len text (Passed t) h)) in elim q as (λ q. Leaves t q → Leaves text q) [ Whole v r ↦ λ l. behind_then text t r b l | Stop f ↦ λ l. tt ] (items_leave x)
  items_leave {deep} {len} {depth} {from} {parens} {text} {q} (items_wrong f h e) = subst (Leaves text) (sym e) tt
  items_leave {deep} {len} {depth} {from} {parens} {text} {q} (items_close s t h c e) = subst (Leaves text) (sym e) (ahead_behind text t (operator_ahead s text t (operator_seen len text t s h)))
  items_leave {deep} {len} {depth} {from} {parens} {text} {q} (items_sign s t q1 h c x e) =
      subst (Leaves text) (sym e) (leaves_behind text t (token_at (offset len text) (kind_of_sign s) ∷ []) q1 (ahead_behind text t (operator_ahead s text t (operator_seen len text t s h))) (items_leave x))
  items_leave {deep} {len} {depth} {from} {parens} {text} {q} (items_word v t q1 h w l x e) =
      subst (Leaves text) (sym e) (leaves_behind text t (token_at (offset len text) (token_kind.Word v.0) ∷ []) q1 (word_leave w) (items_leave x))
  items_leave {deep} {len} {depth} {from} {parens} {text} {q} (items_late v t f h w l e) = subst (Leaves text) (sym e) tt
  items_leave {deep} {len} {depth} {from} {parens} {text} {q} (items_bad f h w e) = subst (Leaves text) (sym e) tt

  pub word_leave : {deep : ℕ → Bool} {len depth : ℕ} {run text : Bytes} {q : Out Read} → IsWord deep len depth run text q → Leaves text q
  word_leave {deep} {len} {depth} {run} {text} {q} (word_ends h e) = subst (Leaves text) (sym e) ([], refl)
  word_leave {deep} {len} {depth} {run} {text} {q} (word_byte b t q1 h x e) = subst (Leaves text) (sym e) (leaves_grown text t [] (note.Plain b (offset len text) ∷ []) q1 (ahead_behind text t (byte_ahead false b text t (look_seen len text (Byte b t) h))) (word_leave x))
  word_leave {deep} {len} {depth} {run} {text} {q} (word_piece p t q1 h x e) = subst (Leaves text) (sym e) (leaves_grown text t (plain_run run ++ p ∷ []) (note.Gap ∷ []) q1 (ahead_behind text t (piece_ahead false p text t (look_seen len text (Piece p t) h))) (word_leave x))
  word_leave {deep} {len} {depth} {run} {text} {q} (word_all t q1 h x e) =
      subst (Leaves text) (sym e) (leaves_grown text t (plain_run run ++ part.All ∷ []) (note.All (offset len text) false ∷ []) q1 (ahead_behind text t (stands_ahead 36 (64 ∷ []) text t (look_seen len text (AllArgs t) h))) (word_leave x))
  word_leave {deep} {len} {depth} {run} {text} {q} (word_double g v t q1 h i x e) =
      subst (Leaves text) (sym e) (leaves_grown text t (plain_run run ++ v.0) (v.1 ++ note.Gap ∷ []) q1 (behind_then text g t (ahead_behind text g (stands_ahead 34 [] text g (look_seen len text (DoubleQuote g) h))) (inner_leave i)) (word_leave x))
  word_leave {deep} {len} {depth} {run} {text} {q} (word_run g ts t q1 h i x e) =
      subst (Leaves text) (sym e) (leaves_grown text t (plain_run run ++ part.Run (offset len text) ts false ∷ []) (note.Gap ∷ []) q1
      (behind_then text g t (ahead_behind text g (stands_ahead 36 (40 ∷ []) text g (look_seen len text (Substitution g) h).stands)) (sub_leave i)) (word_leave x))
  word_leave {deep} {len} {depth} {run} {text} {q} (word_wrong f h e) = subst (Leaves text) (sym e) tt
  word_leave {deep} {len} {depth} {run} {text} {q} (word_bad_double g f h i e) = subst (Leaves text) (sym e) tt
  word_leave {deep} {len} {depth} {run} {text} {q} (word_bad_run g f h i e) = subst (Leaves text) (sym e) tt

  pub inner_leave : {deep : ℕ → Bool} {len depth from : ℕ} {fresh : Bool} {run text : Bytes} {q : Out Read} → IsInner deep len depth from fresh run text q → Leaves text q
  inner_leave {deep} {len} {depth} {from} {fresh} {run} {text} {q} (inner_open h e) = subst (Leaves text) (sym e) tt
  inner_leave {deep} {len} {depth} {from} {fresh} {run} {text} {q} (inner_ends t h e) = subst (Leaves text) (sym e) (ahead_behind text t (stands_ahead 34 [] text t (inner_seen len text (DoubleQuote t) h)))
  inner_leave {deep} {len} {depth} {from} {fresh} {run} {text} {q} (inner_byte b t q1 h x e) = subst (Leaves text) (sym e) (leaves_grown text t [] (note.Gap ∷ []) q1 (ahead_behind text t (byte_ahead true b text t (inner_seen len text (Byte b t) h))) (inner_leave x))
  inner_leave {deep} {len} {depth} {from} {fresh} {run} {text} {q} (inner_piece p t q1 h x e) =
      subst (Leaves text) (sym e) (leaves_grown text t (quoted_run run ++ p ∷ []) (note.Gap ∷ []) q1 (ahead_behind text t (piece_ahead true p text t (inner_seen len text (Piece p t) h))) (inner_leave x))
  inner_leave {deep} {len} {depth} {from} {fresh} {run} {text} {q} (inner_all t q1 h x e) =
      subst (Leaves text) (sym e) (leaves_grown text t (quoted_run run ++ part.All ∷ []) (note.All (offset len text) true ∷ []) q1 (ahead_behind text t (stands_ahead 36 (64 ∷ []) text t (inner_seen len text (AllArgs t) h))) (inner_leave x))
  inner_leave {deep} {len} {depth} {from} {fresh} {run} {text} {q} (inner_run g ts t q1 h i x e) =
      subst (Leaves text) (sym e) (leaves_grown text t (quoted_run run ++ part.Run (offset len text) ts true ∷ []) (note.Gap ∷ []) q1
      (behind_then text g t (ahead_behind text g (stands_ahead 36 (40 ∷ []) text g (inner_seen len text (Substitution g) h).stands)) (sub_leave i)) (inner_leave x))
  inner_leave {deep} {len} {depth} {from} {fresh} {run} {text} {q} (inner_wrong f h e) = subst (Leaves text) (sym e) tt
  inner_leave {deep} {len} {depth} {from} {fresh} {run} {text} {q} (inner_bad_run g f h i e) = subst (Leaves text) (sym e) tt

  pub sub_leave : {deep : ℕ → Bool} {len depth from : ℕ} {text : Bytes} {q : Out (List Token)} → IsSub deep len depth from text q → Leaves text q
  sub_leave {deep} {len} {depth} {from} {text} {q} (sub_deep l e) = subst (Leaves text) (sym e) tt
  sub_leave {deep} {len} {depth} {from} {text} {q} (sub_items l x) = items_leave x

-- a word that isn't at its end has a byte
word_ahead : {deep : ℕ → Bool} {len depth : ℕ} {run text : Bytes} {q : Out Read} → IsWord deep len depth run text q → (look len text ≡ Ends → ⊥) → LeavesAhead text q
word_ahead {deep} {len} {depth} {run} {text} {q} (word_ends h e) n = absurd (n h)
word_ahead {deep} {len} {depth} {run} {text} {q} (word_byte b t q1 h x e) n = subst (LeavesAhead text) (sym e) (ahead_grown text t [] (note.Plain b (offset len text) ∷ []) q1 (byte_ahead false b text t (look_seen len text (Byte b t) h)) (word_leave x))
word_ahead {deep} {len} {depth} {run} {text} {q} (word_piece p t q1 h x e) n = subst (LeavesAhead text) (sym e) (ahead_grown text t (plain_run run ++ p ∷ []) (note.Gap ∷ []) q1 (piece_ahead false p text t (look_seen len text (Piece p t) h)) (word_leave x))
word_ahead {deep} {len} {depth} {run} {text} {q} (word_all t q1 h x e) n =
    subst (LeavesAhead text) (sym e) (ahead_grown text t (plain_run run ++ part.All ∷ []) (note.All (offset len text) false ∷ []) q1 (stands_ahead 36 (64 ∷ []) text t (look_seen len text (AllArgs t) h)) (word_leave x))
word_ahead {deep} {len} {depth} {run} {text} {q} (word_double g v t q1 h i x e) n =
    subst (LeavesAhead text) (sym e) (ahead_grown text t (plain_run run ++ v.0) (v.1 ++ note.Gap ∷ []) q1 (ahead_then text g t (stands_ahead 34 [] text g (look_seen len text (DoubleQuote g) h)) (inner_leave i)) (word_leave x))
word_ahead {deep} {len} {depth} {run} {text} {q} (word_run g ts t q1 h i x e) n =
    subst (LeavesAhead text) (sym e) (ahead_grown text t (plain_run run ++ part.Run (offset len text) ts false ∷ []) (note.Gap ∷ []) q1
    (ahead_then text g t (stands_ahead 36 (40 ∷ []) text g (look_seen len text (Substitution g) h).stands) (sub_leave i)) (word_leave x))
word_ahead {deep} {len} {depth} {run} {text} {q} (word_wrong f h e) n = subst (LeavesAhead text) (sym e) tt
word_ahead {deep} {len} {depth} {run} {text} {q} (word_bad_double g f h i e) n = subst (LeavesAhead text) (sym e) tt
word_ahead {deep} {len} {depth} {run} {text} {q} (word_bad_run g f h i e) n = subst (LeavesAhead text) (sym e) tt

-- ---- tiles

-- behind joined lines at the front
joined_by : (len a b : ℕ) (rest : Bytes) (ts : List Token) → length (a ∷ b ∷ rest) ≤ len → (nat_eq a 92 && nat_eq b 10) ≡ true → IsTiled (place len rest) rest ts → IsTiled (place len (a ∷ b ∷ rest)) (a ∷ b ∷ rest) ts
joined_by len a b rest ts le e x =
    let ea : a ≡ 92 = eqb-true a 92 (and_parts (nat_eq a 92) (nat_eq b 10) e).0 in
    let eb : b ≡ 10 = eqb-true b 10 (and_parts (nat_eq a 92) (nat_eq b 10) e).1 in
    let on : place len rest ≡ place len (a ∷ b ∷ rest) + 2 = omega arith in
    let it : IsTiled (place len (a ∷ b ∷ rest)) (92 ∷ 10 ∷ rest) ts = joined (subst (λ n. IsTiled n rest ts) on x) in
    subst (λ a'. IsTiled (place len (a ∷ b ∷ rest)) (a' ∷ b ∷ rest) ts) (sym ea) (subst (λ b'. IsTiled (place len (a ∷ b ∷ rest)) (92 ∷ b' ∷ rest) ts) (sym eb) it)

shorter : (len : ℕ) (a b : ℕ) (rest : Bytes) → length (a ∷ b ∷ rest) ≤ len → length rest ≤ len
shorter len a b rest le = omega arith

tiled_skip : (len : ℕ) (text : Bytes) (ts : List Token) → length text ≤ len → IsTiled (place len (skip text)) (skip text) ts → IsTiled (place len text) text ts
tiled_skip len [] ts le x = x
tiled_skip len (a ∷ []) ts le x = x
tiled_skip len (a ∷ b ∷ rest) ts le x =
    cond_both (nat_eq a 92 && nat_eq b 10) (skip rest) (a ∷ b ∷ rest) (λ t. IsTiled (place len t) t ts → IsTiled (place len (a ∷ b ∷ rest)) (a ∷ b ∷ rest) ts)
    (λ e x. joined_by len a b rest ts le e (tiled_skip len rest ts (shorter len a b rest le) x)) (λ e x. x) x

pub skip_length : (text : Bytes) → length (skip text) ≤ length text
skip_length [] = omega arith
skip_length (a ∷ []) = omega arith
skip_length (a ∷ b ∷ rest) = cond_both (nat_eq a 92 && nat_eq b 10) (skip rest) (a ∷ b ∷ rest) (λ t. length t ≤ length (a ∷ b ∷ rest)) (λ e. let l = skip_length rest in omega arith) (λ e. omega arith)

-- what stands behind a byte and more of the text
split_on : (len b : ℕ) (bytes rest : Bytes) → length (b ∷ (bytes ++ rest)) ≤ len → place len (b ∷ (bytes ++ rest)) + 1 + length bytes ≡ place len rest
split_on len b bytes rest le = let l = length-append bytes rest in omega arith

-- a rest behind a byte is within the text
split_le : (len b : ℕ) (bytes rest : Bytes) → length (b ∷ (bytes ++ rest)) ≤ len → length rest ≤ len
split_le len b bytes rest le = let l = length-append bytes rest in omega arith

rest_le : (len b : ℕ) (bytes text rest : Bytes) → length text ≤ len → skip text ≡ b ∷ (bytes ++ rest) → length (b ∷ (bytes ++ rest)) ≤ len
rest_le len b bytes text rest le e = let l = skip_length text in let m : length (skip text) ≡ length (b ∷ (bytes ++ rest)) = ap length e in omega arith

ahead_le : (len : ℕ) (text rest : Bytes) → length text ≤ len → Ahead text rest → length rest ≤ len
ahead_le len text rest le a = split_le len a.0 a.1 rest (rest_le len a.0 a.1 text rest le a.2)

tiled_passed : (len : ℕ) (text rest : Bytes) (ts : List Token) → length text ≤ len → Fits (skip text) (Passed rest) → IsTiled (place len rest) rest ts → IsTiled (place len text) text ts
tiled_passed len text rest ts le (inl f) x =
    let on : place len rest ≡ place len (f.0 ∷ rest) + 1 = let l = rest_le len f.0 [] text rest le f.1 in omega arith in
    tiled_skip len text ts le (subst (λ t. IsTiled (place len t) t ts) (sym f.1) (blank f.2 (subst (λ n. IsTiled n rest ts) on x)))
tiled_passed len text rest ts le (inr f) x =
    let e : skip text ≡ 35 ∷ (f.2.bytes ++ rest) = f.1 ∙ ap (λ t. 35 ∷ t) f.2.is in
    let on = split_on len 35 f.2.bytes rest (rest_le len 35 f.2.bytes text rest le e) in
    tiled_skip len text ts le (subst (λ t. IsTiled (place len t) t ts) (sym e) (comment f.2.bytes f.2.line f.2.ended (subst (λ n. IsTiled n rest ts) (sym on) x)))

tiled_token : (len : ℕ) (text rest : Bytes) (t : Token) (ts : List Token) → length text ≤ len → Ahead text rest → t.at ≡ offset len text → IsTiled (place len rest) rest ts → IsTiled (place len text) text (t ∷ ts)
tiled_token len text rest t ts le a at x =
    let on = split_on len a.0 a.1 rest (rest_le len a.0 a.1 text rest le a.2) in
    let it : IsTiled (place len (a.0 ∷ (a.1 ++ rest))) (a.0 ∷ (a.1 ++ rest)) (t ∷ ts) = token a.1 (at ∙ ap (place len) a.2) (subst (λ n. IsTiled n rest ts) (sym on) x) in
    tiled_skip len text (t ∷ ts) le (subst (λ u. IsTiled (place len u) u (t ∷ ts)) (sym a.2) it)

abbrev TiledOut : ℕ → Bytes → Out (List Token) → Type 0
TiledOut len text (Whole ts rest) = IsTiled (place len text) text ts
TiledOut len text (Stop fault) = Unit {0}

passed_out : (len : ℕ) (text rest : Bytes) (q : Out (List Token)) → length text ≤ len → Fits (skip text) (Passed rest) → TiledOut len rest q → TiledOut len text q
passed_out len text rest (Whole ts r) le f x = tiled_passed len text rest ts le f x
passed_out len text rest (Stop fault) le f x = tt

token_out : (len : ℕ) (text rest : Bytes) (t : Token) (q : Out (List Token)) → length text ≤ len → Ahead text rest → t.at ≡ offset len text → TiledOut len rest q → TiledOut len text (behind (t ∷ []) q)
token_out len text rest t (Whole ts r) le a at x = tiled_token len text rest t ts le a at x
token_out len text rest t (Stop fault) le a at x = tt

-- a reading outside substitutions
tiles : {deep : ℕ → Bool} {len «from» parens : ℕ} {text : Bytes} {q : Out (List Token)} → length text ≤ len → IsItems deep len 0 «from» parens text q → TiledOut len text q
tiles {deep} {len} {text = text} le (items_end h e) =
    subst (TiledOut len text) (sym e) (tiled_skip len text [] le (subst (λ t. IsTiled (place len t) t []) (sym (fits len text End h)) ends))
tiles {deep} {len} {text = text} {q = q} le (items_pass t h x) =
    let f = fits len text (Passed t) h in passed_out len text t q le f (tiles (ahead_le len text t le (passed_ahead text t f)) x)
tiles {deep} {len} {text = text} le (items_wrong f h e) = subst (TiledOut len text) (sym e) tt
tiles le (items_close s t h c e) = absurd (cc c)
tiles {deep} {len} {text = text} le (items_sign s t q1 h c x e) =
    let a = operator_ahead s text t (operator_seen len text t s h) in
    subst (TiledOut len text) (sym e) (token_out len text t (token_at (offset len text) (kind_of_sign s)) q1 le a refl (tiles (ahead_le len text t le a) x))
tiles {deep} {len} {text = text} le (items_word v t q1 h w l x e) =
    let a = word_ahead w (begun len (place len (skip text)) (skip text) h) in
    subst (TiledOut len text) (sym e) (token_out len text t (token_at (offset len text) (token_kind.Word v.0)) q1 le a refl (tiles (ahead_le len text t le a) x))
tiles {deep} {len} {text = text} le (items_late v t f h w l e) = subst (TiledOut len text) (sym e) tt
tiles {deep} {len} {text = text} le (items_bad f h w e) = subst (TiledOut len text) (sym e) tt

body_length : (text : Bytes) → length (behind_line text) ≤ length text
body_length [] = omega arith
body_length (b ∷ rest) = cond_both (nat_eq b 10) rest (behind_line rest) (λ t. length t ≤ length (b ∷ rest)) (λ e. omega arith) (λ e. let l = body_length rest in omega arith)

pub cut_tiled : (text : Bytes) (l : Lexed) → CutAtAnyDepth text l → IsTiled (place (length text) (behind_line text)) (behind_line text) l.tokens
cut_tiled text l c = tiles (body_length text) c.body

-- ---- offsets

rise_more : (low at : ℕ) (ts : List Token) → low ≤ at → RiseFrom at ts → RiseFrom low ts
rise_more low at [] le r = tt
rise_more low at (t ∷ ts) le r = let h : at ≤ t.at = r.0 in (omega arith, r.1)

rises : {at : ℕ} {text : Bytes} {ts : List Token} → IsTiled at text ts → RiseFrom at ts
rises ends = tt
rises {at} {text} {ts} (joined x) = rise_more at (at + 2) ts (omega arith) (rises x)
rises {at} {text} {ts} (blank b x) = rise_more at (at + 1) ts (omega arith) (rises x)
rises {at} {text} {ts} (comment bytes l e x) = rise_more at (at + 1 + length bytes) ts (omega arith) (rises x)
rises {at} (token bytes {t = t} {ts = ts} e x) = (omega arith, rise_more (t.at + 1) (at + 1 + length bytes) ts (omega arith) (rises x))

pub offsets_rise : (text : Bytes) (l : Lexed) → CutAtAnyDepth text l → RiseFrom 0 l.tokens
offsets_rise text l c = rise_more 0 (place (length text) (behind_line text)) l.tokens (omega arith) (rises (cut_tiled text l c))

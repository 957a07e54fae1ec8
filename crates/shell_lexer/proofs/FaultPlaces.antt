-- A fault's offset is that of the bytes that it is named by.
use Rattle.std.proofs.Common.{◌≡◌, ◌⊎◌, inl, inr, ℕ, zero, suc, ◌+◌, ◌-◌, Bool, true, false, ◌&&◌, ◌||◌, if◌then◌else◌, nat_eq, nat_le, List, [], ◌∷◌, ◌++◌, append_assoc, drop, length, length-append, Option, Some, None, refl, sym, ap, ◌∙◌, subst, codes, arith}
use Rattle.std.proofs.Transfers.{drop-appended}
use Rattle.shell_syntax.specs.declared.form.Form.{Form}
use Rattle.shell_syntax.specs.declared.form.Form.TheVariants as form
use Rattle.shell_lexer.specs.declared.fault.LexFault.{LexFault}
use Rattle.shell_lexer.specs.declared.fault.LexFault.TheVariants.{Nul, Interpreter, OpenQuote, OpenSubstitution, Unsupported, Deep, Memory}
use Rattle.shell_lexer.specs.declared.sight.ByteNote.{ByteNote}
use Rattle.shell_lexer.specs.declared.sight.ByteNote.TheVariants as note
use Rattle.shell_lexer.specs.declared.token.Token.{Token}
use Rattle.shell_lexer.specs.declared.token.RawPart.{RawPart}
use Rattle.shell_lexer.specs.declared.token.RawPart.TheVariants as part
use Rattle.shell_lexer.specs.declared.token.TokenKind.TheVariants as token
use Rattle.shell_lexer.specs.FirstLine.{behind_line, nul_of}
use Rattle.shell_lexer.specs.Text.{Bytes, skip, place, offset}
use Rattle.shell_lexer.specs.Late.{first_all, is_all_word, all_args, tilde, has_list, brace, is_plainly, subst_case, found, sooner, as_fault, late}
use Rattle.shell_lexer.specs.Lexed.{IsBody, Faulty}
use Rattle.shell_lexer.specs.Parts.{AllArgs, Byte, DoubleQuote, Substitution, look}
use Rattle.shell_lexer.specs.Reading.{Out, Whole, Stop, Read, behind, grown, ended, token_at, kind_of_sign, plain_run, quoted_run, IsItems, items_end, items_pass, items_wrong, items_close, items_sign, items_word, items_late, items_bad, IsWord, word_ends, word_byte, word_piece, word_all, word_double, word_run, word_wrong, word_bad_double, word_bad_run, IsInner, inner_open, inner_ends, inner_byte, inner_piece, inner_all, inner_run, inner_wrong, inner_bad_run, IsSub, sub_deep, sub_items}
use Rattle.shell_lexer.specs.Spelling.{Stands}
use Rattle.shell_lexer.specs.SpelledFaults.{EndsInParam, IsOtherParam, special, before_quote, braced, IsBad, open_quote, open_parameter, backquote, arithmetic, parameter, IsNumbered, IsWrong, background, arithmetic_command, here_document, input, output, StandsAt, OneStands, beginnings, FaultStands}
use Rattle.shell_lexer.proofs.Ahead.{Behind, behind_then, skip_behind, stands_behind}
use Rattle.shell_lexer.proofs.PrintedBytes.{skip_first}
use Rattle.shell_lexer.proofs.Rests.{passed_rest, operator_rest, byte_rest, piece_rest, all_rest, double_rest, run_rest, inner_byte_rest, inner_piece_rest, inner_all_rest, inner_run_rest}
use Rattle.shell_lexer.proofs.SpelledBytes.{byte_front}
use Rattle.shell_lexer.proofs.SpelledCases.{none_some, some_same}
use Rattle.shell_lexer.proofs.SpelledFaults.{bad_is, nul_is}
use Rattle.shell_lexer.proofs.SpelledParts.{look_seen, inner_seen}
use Rattle.shell_lexer.proofs.SpelledRuns.{skip_again, skip_stands, stands_parts}
use Rattle.shell_lexer.proofs.SpelledWrong.{wrong_is}
use Rattle.shell_lexer.proofs.Tiles.{word_leave, inner_leave, sub_leave}
use Rattle.std.proofs.lemmas.Bool.{and_parts, cond_both, eqb-true, false≢true}

-- ---- where a rest of a text stands

rest_at : (whole text : Bytes) → Behind whole text → drop (place (length whole) text) whole ≡ text
rest_at whole text b = ap (λ n. drop n whole) (place_is b.0 b.1) ∙ drop-appended b.0 whole text b.1 where
  place_is : (bytes : Bytes) → whole ≡ bytes ++ text → place (length whole) text ≡ length bytes
  place_is bytes e = let n = ap length e ∙ length-append bytes text in omega (arith, n)

-- bytes that stand in a rest
placed : (b : ℕ) (bytes whole text rest : Bytes) → Behind whole text → Stands (b ∷ bytes) text rest → StandsAt (b ∷ bytes) (offset (length whole) text) whole
placed b bytes whole text rest g h =
    let same = rest_at whole (skip text) (behind_then whole text (skip text) g (skip_behind text)) in
    record { rest = rest; stands = subst (λ t. Stands (b ∷ bytes) t rest) (sym same) (skip_stands b bytes text rest h); first = ap skip same ∙ skip_again text ∙ sym same }

module _ (whole : Bytes) where
  -- a fault behind the first line, where its bytes stand
  abbrev pub IsPlaced : LexFault → Type 0
  IsPlaced (Nul at) = ⊥
  IsPlaced (Interpreter at) = ⊥
  IsPlaced (OpenQuote at) = FaultStands whole (OpenQuote at)
  IsPlaced (OpenSubstitution at) = FaultStands whole (OpenSubstitution at)
  IsPlaced (Unsupported form at) = FaultStands whole (Unsupported form at)
  IsPlaced (Deep at) = FaultStands whole (Deep at)
  IsPlaced Memory = ⊥

  -- ---- what the tables see

  dollar_placed : (bytes text rest : Bytes) → Behind whole text → Stands (codes "$" ++ bytes) text rest → StandsAt (codes "$") (offset (length whole) text) whole
  dollar_placed bytes text rest g h = let p = stands_parts (codes "$") bytes text rest h in placed 36 [] whole text p.0 g p.1

  param_placed : (inside : Bool) (text : Bytes) → Behind whole text → IsOtherParam inside text → StandsAt (codes "$") (offset (length whole) text) whole
  param_placed inside text g (special {byte = b} {rest = rest} is h) = dollar_placed (b ∷ []) text rest g h
  param_placed inside text g (before_quote {byte = b} {rest = rest} out is h) = dollar_placed (b ∷ []) text rest g h
  param_placed inside text g (braced {rest = rest} h none ends) = dollar_placed (codes "{") text rest g h

  bad_placed : (inside : Bool) (text : Bytes) (f : LexFault) → Behind whole text → IsBad inside (offset (length whole) text) text f → IsPlaced f
  bad_placed inside text f g (open_quote {rest = rest} out h none) = inl (placed 39 [] whole text rest g h)
  bad_placed inside text f g (open_parameter h) = let p = stands_parts (codes "${") h.begun text h.rest h.stands in inl (placed 36 (codes "{") whole text p.0 g p.1)
  bad_placed inside text f g (backquote {rest = rest} h) = inl (placed 96 [] whole text rest g h)
  bad_placed inside text f g (arithmetic {rest = rest} h) = inr (inl (placed 36 (codes "((") whole text rest g h))
  bad_placed inside text f g (parameter h) = inl (param_placed inside text g h)

  numbered_behind : (operator text «from» rest : Bytes) → Behind whole text → IsNumbered operator text «from» rest → Behind whole «from»
  numbered_behind operator text «from» rest g n = behind_then whole text «from» g (stands_behind n.digits text «from» n.number)

  wrong_placed : (text : Bytes) (f : LexFault) → Behind whole text → IsWrong (length whole) text f → IsPlaced f
  wrong_placed text f g (background {rest = rest} h other) = inl (placed 38 [] whole text rest g h)
  wrong_placed text f g (arithmetic_command {rest = rest} h) = inl (placed 40 (codes "(") whole text rest g h)
  wrong_placed text f g (here_document {«from» = t} {rest = rest} n) = inl (placed 60 (codes "<") whole t rest (numbered_behind (codes "<<") text t rest g n) n.stands)
  wrong_placed text f g (input {«from» = t} {rest = rest} n other none) = inl (placed 60 [] whole t rest (numbered_behind (codes "<") text t rest g n) n.stands)
  wrong_placed text f g (output {«from» = t} {rest = rest} n none) = inr (inl (placed 62 [] whole t rest (numbered_behind (codes ">") text t rest g n) n.stands))

  -- ---- notes

  -- where the byte, or the `$@`, of a note stands
  abbrev NoteStands : ByteNote → Type 0
  NoteStands note.Gap = Unit {0}
  NoteStands (note.Plain b at) = StandsAt (b ∷ []) at whole
  NoteStands (note.All at quoted) = StandsAt (codes "$@") at whole

  abbrev NotesStand : List ByteNote → Type 0
  NotesStand [] = Unit {0}
  NotesStand (m ∷ ms) = NoteStands m × NotesStand ms

  notes_then : (ms ns : List ByteNote) → NotesStand ms → NotesStand ns → NotesStand (ms ++ ns)
  notes_then [] ns h g = g
  notes_then (m ∷ ms) ns h g = (h.0, notes_then ms ns h.1 g)

  all_stands : (ms : List ByteNote) (at : ℕ) → NotesStand ms → first_all ms ≡ Some at → StandsAt (codes "$@") at whole
  all_stands [] at s e = absurd (none_some e)
  all_stands (note.Gap ∷ ms) at s e = all_stands ms at s.1 e
  all_stands (note.Plain b n ∷ ms) at s e = all_stands ms at s.1 e
  all_stands (note.All n quoted ∷ ms) at s e = subst (λ n. StandsAt (codes "$@") n whole) (some_same e) s.0

  one_all_stands : (ms : List ByteNote) (at : ℕ) → NotesStand ms → all_args ms ≡ Some at → StandsAt (codes "$@") at whole
  one_all_stands ms at s e =
      cond_both (is_all_word ms) None (first_all ms) (λ o. o ≡ Some at → StandsAt (codes "$@") at whole) (λ _ e. absurd (none_some e)) (λ _ e. all_stands ms at s e) e

  -- a byte whose note has this offset
  byte_at : (b c n at : ℕ) → nat_eq b c ≡ true → Some n ≡ Some at → StandsAt (b ∷ []) n whole → StandsAt (c ∷ []) at whole
  byte_at b c n at is e h = subst (λ c. StandsAt (c ∷ []) at whole) (eqb-true b c is) (subst (λ n. StandsAt (b ∷ []) n whole) (some_same e) h)

  tilde_stands : (may : Bool) (ms : List ByteNote) (at : ℕ) → NotesStand ms → tilde may ms ≡ Some at → StandsAt (codes "~") at whole
  tilde_stands may [] at s e = absurd (none_some e)
  tilde_stands may (note.Gap ∷ ms) at s e = tilde_stands false ms at s.1 e
  tilde_stands may (note.All n quoted ∷ ms) at s e = tilde_stands false ms at s.1 e
  tilde_stands may (note.Plain b n ∷ ms) at s e =
      cond_both (may && nat_eq b 126) (Some n) (tilde (nat_eq b 61 || nat_eq b 58) ms) (λ o. o ≡ Some at → StandsAt (codes "~") at whole)
      (λ is e. byte_at b 126 n at (and_parts may (nat_eq b 126) is).1 e s.0) (λ _ e. tilde_stands (nat_eq b 61 || nat_eq b 58) ms at s.1 e) e

  brace_stands : (ms : List ByteNote) (at : ℕ) → NotesStand ms → brace ms ≡ Some at → StandsAt (codes "{") at whole
  brace_stands [] at s e = absurd (none_some e)
  brace_stands (note.Gap ∷ ms) at s e = brace_stands ms at s.1 e
  brace_stands (note.All n quoted ∷ ms) at s e = brace_stands ms at s.1 e
  brace_stands (note.Plain b n ∷ ms) at s e =
      cond_both (nat_eq b 123) (if has_list false ms then Some n else None) (brace ms) (λ o. o ≡ Some at → StandsAt (codes "{") at whole)
      (λ is e. cond_both (has_list false ms) (Some n) None (λ o. o ≡ Some at → StandsAt (codes "{") at whole) (λ _ e. byte_at b 123 n at is e s.0) (λ _ e. absurd (none_some e)) e)
      (λ _ e. brace_stands ms at s.1 e) e

  -- the word `case` stands where its notes say so
  case_stands : (depth word at : ℕ) (ms : List ByteNote) → (is_plainly (codes "case") ms ≡ true → StandsAt (codes "case") word whole) → subst_case depth word ms ≡ Some at → StandsAt (codes "case") at whole
  case_stands zero word at ms h e = absurd (none_some e)
  case_stands (suc depth) word at ms h e =
      cond_both (is_plainly (codes "case") ms) (Some word) None (λ o. o ≡ Some at → StandsAt (codes "case") at whole)
      (λ is e. subst (λ n. StandsAt (codes "case") n whole) (some_same e) (h is)) (λ _ e. absurd (none_some e)) e

  abbrev FormStands : Option (ℕ × Form) → Type 0
  FormStands None = Unit {0}
  FormStands (Some a) = FaultStands whole (Unsupported a.1 a.0)

  found_stands : (which : Form) (o : Option ℕ) → ((at : ℕ) → o ≡ Some at → FaultStands whole (Unsupported which at)) → FormStands (found which o)
  found_stands which None h = tt
  found_stands which (Some at) h = h at refl

  sooner_stands : (a b : Option (ℕ × Form)) → FormStands a → FormStands b → FormStands (sooner a b)
  sooner_stands None b h g = g
  sooner_stands (Some a) None h g = h
  sooner_stands (Some a) (Some b) h g = cond_both (nat_le a.0 b.0) (Some a) (Some b) FormStands (λ _. h) (λ _. g)

  form_placed : (o : Option (ℕ × Form)) (f : LexFault) → FormStands o → as_fault o ≡ Some f → IsPlaced f
  form_placed None f h e = absurd (none_some e)
  form_placed (Some a) f h e = subst IsPlaced (some_same e) h

  late_placed : (depth word : ℕ) (ms : List ByteNote) (f : LexFault) → NotesStand ms → (is_plainly (codes "case") ms ≡ true → StandsAt (codes "case") word whole) → late depth word ms ≡ Some f → IsPlaced f
  late_placed depth word ms f s h e =
      let all = found form.AllArgs (all_args ms) in
      let tilde_at = found form.Tilde (tilde true ms) in
      let brace_at = found form.Brace (brace ms) in
      let case_at = found form.SubstCase (subst_case depth word ms) in
      form_placed (sooner all (sooner tilde_at (sooner brace_at case_at))) f
      (sooner_stands all (sooner tilde_at (sooner brace_at case_at)) (found_stands form.AllArgs (all_args ms) (λ at g. inl (one_all_stands ms at s g)))
      (sooner_stands tilde_at (sooner brace_at case_at) (found_stands form.Tilde (tilde true ms) (λ at g. inl (tilde_stands true ms at s g)))
      (sooner_stands brace_at case_at (found_stands form.Brace (brace ms) (λ at g. inl (brace_stands ms at s g)))
      (found_stands form.SubstCase (subst_case depth word ms) (λ at g. inl (case_stands depth word at ms h g)))))) e

-- ---- the word `case`

-- notes that begin with no plain byte
abbrev BeginsOther : Out Read → Type 0
BeginsOther (Whole v rest) = (c : ℕ) (bytes : Bytes) (ns : List ByteNote) → is_plainly (c ∷ bytes) (v.1 ++ note.Gap ∷ ns) ≡ false
BeginsOther (Stop f) = Unit {0}

gap_other : (ps : List RawPart) (q : Out Read) → BeginsOther (grown ps (note.Gap ∷ []) q)
gap_other ps (Whole v rest) = λ c bytes ns. refl
gap_other ps (Stop f) = tt

all_other : (ps : List RawPart) (at : ℕ) (quoted : Bool) (q : Out Read) → BeginsOther (grown ps (note.All at quoted ∷ []) q)
all_other ps at quoted (Whole v rest) = λ c bytes ns. refl
all_other ps at quoted (Stop f) = tt

inner_other : {deep : ℕ → Bool} {len depth «from» : ℕ} {fresh : Bool} {run text : Bytes} {q : Out Read} → IsInner deep len depth «from» fresh run text q → BeginsOther q
inner_other (inner_open h e) = subst BeginsOther (sym e) tt
inner_other (inner_ends t h e) = subst BeginsOther (sym e) (λ c bytes ns. refl)
inner_other (inner_byte b t q1 h x e) = subst BeginsOther (sym e) (gap_other [] q1)
inner_other {run = run} (inner_piece p t q1 h x e) = subst BeginsOther (sym e) (gap_other (quoted_run run ++ p ∷ []) q1)
inner_other {len = len} {run = run} {text = text} (inner_all t q1 h x e) = subst BeginsOther (sym e) (all_other (quoted_run run ++ part.All ∷ []) (offset len text) true q1)
inner_other {len = len} {run = run} {text = text} (inner_run g ts t q1 h i x e) = subst BeginsOther (sym e) (gap_other (quoted_run run ++ part.Run (offset len text) ts true ∷ []) q1)
inner_other (inner_wrong f h e) = subst BeginsOther (sym e) tt
inner_other (inner_bad_run g f h i e) = subst BeginsOther (sym e) tt

-- a word of these plain bytes stands where it begins
abbrev PlainStands : Bytes → Out Read → Type 0
PlainStands text (Whole v rest) = (bytes : Bytes) → is_plainly bytes v.1 ≡ true → (end : Bytes) × Stands bytes text end
PlainStands text (Stop f) = Unit {0}

other_plain : (text : Bytes) (ps : List RawPart) (ms : List ByteNote) (q : Out Read) → ((c : ℕ) (bytes : Bytes) (ns : List ByteNote) → is_plainly (c ∷ bytes) (ms ++ ns) ≡ false) → PlainStands text (grown ps ms q)
other_plain text ps ms (Whole v rest) h = by where
  by : (bytes : Bytes) → is_plainly bytes (ms ++ v.1) ≡ true → (end : Bytes) × Stands bytes text end
  by [] e = (text, refl)
  by (c ∷ bytes) e = absurd (false≢true (sym (h c bytes v.1) ∙ e))
other_plain text ps ms (Stop f) h = tt

byte_plain : (text t : Bytes) (b at : ℕ) (q : Out Read) → skip text ≡ b ∷ t → PlainStands t q → PlainStands text (grown [] (note.Plain b at ∷ []) q)
byte_plain text t b at (Whole v rest) s h = by where
  by : (bytes : Bytes) → is_plainly bytes (note.Plain b at ∷ v.1) ≡ true → (end : Bytes) × Stands bytes text end
  by [] e = (text, refl)
  by (c ∷ bytes) e =
      let both = and_parts (nat_eq b c) (is_plainly bytes v.1) e in
      let more = h bytes both.1 in
      (more.0, (t, s ∙ ap (λ b. b ∷ t) (eqb-true b c both.0), more.1))
byte_plain text t b at (Stop f) s h = tt

-- the notes of double quotes, and a gap
quotes_other : (ms ns : List ByteNote) (c : ℕ) (bytes : Bytes) → is_plainly (c ∷ bytes) (ms ++ note.Gap ∷ ns) ≡ false → is_plainly (c ∷ bytes) ((ms ++ note.Gap ∷ []) ++ ns) ≡ false
quotes_other ms ns c bytes e = ap (is_plainly (c ∷ bytes)) (append_assoc ms (note.Gap ∷ []) ns) ∙ e

plain_stands : {deep : ℕ → Bool} {len depth : ℕ} {run text : Bytes} {q : Out Read} → IsWord deep len depth run text q → PlainStands text q
plain_stands {run = run} {text = text} (word_ends h e) = subst (PlainStands text) (sym e) by where
  by : (bytes : Bytes) → is_plainly bytes [] ≡ true → (end : Bytes) × Stands bytes text end
  by [] e = (text, refl)
  by (c ∷ bytes) e = absurd (false≢true e)
plain_stands {len = len} {text = text} (word_byte b t q1 h x e) = subst (PlainStands text) (sym e) (byte_plain text t b (offset len text) q1 (byte_front b text t (look_seen len text (Byte b t) h)) (plain_stands x))
plain_stands {run = run} {text = text} (word_piece p t q1 h x e) = subst (PlainStands text) (sym e) (other_plain text (plain_run run ++ p ∷ []) (note.Gap ∷ []) q1 (λ c bytes ns. refl))
plain_stands {len = len} {run = run} {text = text} (word_all t q1 h x e) =
    subst (PlainStands text) (sym e) (other_plain text (plain_run run ++ part.All ∷ []) (note.All (offset len text) false ∷ []) q1 (λ c bytes ns. refl))
plain_stands {run = run} {text = text} (word_double g v t q1 h i x e) =
    subst (PlainStands text) (sym e) (other_plain text (plain_run run ++ v.0) (v.1 ++ note.Gap ∷ []) q1 (λ c bytes ns. quotes_other v.1 ns c bytes (inner_other i c bytes ns)))
plain_stands {len = len} {run = run} {text = text} (word_run g ts t q1 h i x e) =
    subst (PlainStands text) (sym e) (other_plain text (plain_run run ++ part.Run (offset len text) ts false ∷ []) (note.Gap ∷ []) q1 (λ c bytes ns. refl))
plain_stands {text = text} (word_wrong f h e) = subst (PlainStands text) (sym e) tt
plain_stands {text = text} (word_bad_double g f h i e) = subst (PlainStands text) (sym e) tt
plain_stands {text = text} (word_bad_run g f h i e) = subst (PlainStands text) (sym e) tt

case_begins : {deep : ℕ → Bool} {depth : ℕ} (whole text rest : Bytes) (v : Read) → Behind whole text → IsWord deep (length whole) depth [] text (Whole v rest) → is_plainly (codes "case") v.1 ≡ true
    → StandsAt (codes "case") (offset (length whole) text) whole
case_begins whole text rest v g w is = let h = plain_stands w (codes "case") is in placed 99 (codes "ase") whole text h.0 g h.1

-- ---- readings

module _ (whole : Bytes) where
  abbrev TokensPlaced : Out (List Token) → Type 0
  TokensPlaced (Whole ts rest) = Unit {0}
  TokensPlaced (Stop f) = IsPlaced whole f

  abbrev WordPlaced : Out Read → Type 0
  WordPlaced (Whole v rest) = NotesStand whole v.1
  WordPlaced (Stop f) = IsPlaced whole f

  -- the substitution that the tokens stand in
  abbrev IsOpen : ℕ → ℕ → Type 0
  IsOpen zero «from» = Unit {0}
  IsOpen (suc depth) «from» = StandsAt (codes "$(") «from» whole

  ended_placed : (depth «from» : ℕ) → IsOpen depth «from» → TokensPlaced (ended depth «from»)
  ended_placed zero «from» o = tt
  ended_placed (suc depth) «from» o = inr (inl o)

  behind_placed : (xs : List Token) (q : Out (List Token)) → TokensPlaced q → TokensPlaced (behind xs q)
  behind_placed xs (Whole ts rest) h = tt
  behind_placed xs (Stop f) h = h

  grown_placed : (ps : List RawPart) (ms : List ByteNote) (q : Out Read) → NotesStand whole ms → WordPlaced q → WordPlaced (grown ps ms q)
  grown_placed ps ms (Whole v rest) s h = notes_then whole ms v.1 s h
  grown_placed ps ms (Stop f) s h = h

  quote_placed : {text s : Bytes} → Behind whole text → look (length whole) text ≡ DoubleQuote s → StandsAt (codes "\"") (offset (length whole) text) whole
  quote_placed {text} {s} g h = placed 34 [] whole text s g (look_seen (length whole) text (DoubleQuote s) h)

  mutual
    items_placed : {deep : ℕ → Bool} {depth «from» parens : ℕ} {text : Bytes} {q : Out (List Token)} → Behind whole text → IsOpen depth «from» → IsItems deep (length whole) depth «from» parens text q → TokensPlaced q
    items_placed {depth = depth} {«from» = n} g o (items_end h e) = subst TokensPlaced (sym e) (ended_placed depth n o)
    items_placed {text = text} g o (items_pass t h x) = items_placed (behind_then whole text t g (passed_rest (length whole) text t h)) o x
    items_placed {text = text} g o (items_wrong f h e) = subst TokensPlaced (sym e) (wrong_placed whole text f g (wrong_is (length whole) text f h))
    items_placed g o (items_close s t h c e) = subst TokensPlaced (sym e) tt
    items_placed {text = text} g o (items_sign s t q1 h c x e) =
        subst TokensPlaced (sym e) (behind_placed (token_at (offset (length whole) text) (kind_of_sign s) ∷ []) q1 (items_placed (behind_then whole text t g (operator_rest (length whole) text s t h)) o x))
    items_placed {text = text} g o (items_word v t q1 h w l x e) =
        subst TokensPlaced (sym e) (behind_placed (token_at (offset (length whole) text) (token.Word v.0) ∷ []) q1 (items_placed (behind_then whole text t g (word_leave w)) o x))
    items_placed {depth = depth} {text = text} g o (items_late v t f h w l e) =
        subst TokensPlaced (sym e) (late_placed whole depth (offset (length whole) text) v.1 f (word_placed g w) (case_begins whole text t v g w) l)
    items_placed g o (items_bad f h w e) = subst TokensPlaced (sym e) (word_placed g w)

    word_placed : {deep : ℕ → Bool} {depth : ℕ} {run text : Bytes} {q : Out Read} → Behind whole text → IsWord deep (length whole) depth run text q → WordPlaced q
    word_placed g (word_ends h e) = subst WordPlaced (sym e) tt
    word_placed {text = text} g (word_byte b t q1 h x e) =
        subst WordPlaced (sym e) (grown_placed [] (note.Plain b (offset (length whole) text) ∷ []) q1 (placed b [] whole text t g (t, byte_front b text t (look_seen (length whole) text (Byte b t) h), refl), tt)
        (word_placed (behind_then whole text t g (byte_rest (length whole) text b t h)) x))
    word_placed {run = run} {text = text} g (word_piece p t q1 h x e) =
        subst WordPlaced (sym e) (grown_placed (plain_run run ++ p ∷ []) (note.Gap ∷ []) q1 (tt, tt) (word_placed (behind_then whole text t g (piece_rest (length whole) text p t h)) x))
    word_placed {run = run} {text = text} g (word_all t q1 h x e) =
        subst WordPlaced (sym e) (grown_placed (plain_run run ++ part.All ∷ []) (note.All (offset (length whole) text) false ∷ []) q1
        (placed 36 (codes "@") whole text t g (look_seen (length whole) text (AllArgs t) h), tt) (word_placed (behind_then whole text t g (all_rest (length whole) text t h)) x))
    word_placed {run = run} {text = text} g (word_double s v t q1 h i x e) =
        let b = behind_then whole text s g (double_rest (length whole) text s h) in
        subst WordPlaced (sym e) (grown_placed (plain_run run ++ v.0) (v.1 ++ note.Gap ∷ []) q1 (notes_then whole v.1 (note.Gap ∷ []) (inner_placed b (quote_placed g h) i) (tt, tt))
        (word_placed (behind_then whole s t b (inner_leave i)) x))
    word_placed {run = run} {text = text} g (word_run s ts t q1 h i x e) =
        let b = behind_then whole text s g (run_rest (length whole) text s h) in
        subst WordPlaced (sym e) (grown_placed (plain_run run ++ part.Run (offset (length whole) text) ts false ∷ []) (note.Gap ∷ []) q1 (tt, tt) (word_placed (behind_then whole s t b (sub_leave i)) x))
    word_placed {text = text} g (word_wrong f h e) = subst WordPlaced (sym e) (bad_placed whole false text f g (bad_is false (length whole) text f h))
    word_placed {text = text} g (word_bad_double s f h i e) = subst WordPlaced (sym e) (inner_placed (behind_then whole text s g (double_rest (length whole) text s h)) (quote_placed g h) i)
    word_placed {text = text} g (word_bad_run s f h i e) =
        subst WordPlaced (sym e) (sub_placed (behind_then whole text s g (run_rest (length whole) text s h)) (placed 36 (codes "(") whole text s g (look_seen (length whole) text (Substitution s) h).stands) i)

    inner_placed : {deep : ℕ → Bool} {depth «from» : ℕ} {fresh : Bool} {run text : Bytes} {q : Out Read} → Behind whole text → StandsAt (codes "\"") «from» whole
        → IsInner deep (length whole) depth «from» fresh run text q → WordPlaced q
    inner_placed g o (inner_open h e) = subst WordPlaced (sym e) (inr (inl o))
    inner_placed g o (inner_ends t h e) = subst WordPlaced (sym e) tt
    inner_placed {text = text} g o (inner_byte b t q1 h x e) =
        subst WordPlaced (sym e) (grown_placed [] (note.Gap ∷ []) q1 (tt, tt) (inner_placed (behind_then whole text t g (inner_byte_rest (length whole) text b t h)) o x))
    inner_placed {run = run} {text = text} g o (inner_piece p t q1 h x e) =
        subst WordPlaced (sym e) (grown_placed (quoted_run run ++ p ∷ []) (note.Gap ∷ []) q1 (tt, tt) (inner_placed (behind_then whole text t g (inner_piece_rest (length whole) text p t h)) o x))
    inner_placed {run = run} {text = text} g o (inner_all t q1 h x e) =
        subst WordPlaced (sym e) (grown_placed (quoted_run run ++ part.All ∷ []) (note.All (offset (length whole) text) true ∷ []) q1
        (placed 36 (codes "@") whole text t g (inner_seen (length whole) text (AllArgs t) h), tt) (inner_placed (behind_then whole text t g (inner_all_rest (length whole) text t h)) o x))
    inner_placed {run = run} {text = text} g o (inner_run s ts t q1 h i x e) =
        let b = behind_then whole text s g (inner_run_rest (length whole) text s h) in
        subst WordPlaced (sym e) (grown_placed (quoted_run run ++ part.Run (offset (length whole) text) ts true ∷ []) (note.Gap ∷ []) q1 (tt, tt) (inner_placed (behind_then whole s t b (sub_leave i)) o x))
    inner_placed {text = text} g o (inner_wrong f h e) = subst WordPlaced (sym e) (bad_placed whole true text f g (bad_is true (length whole) text f h))
    inner_placed {text = text} g o (inner_bad_run s f h i e) =
        subst WordPlaced (sym e) (sub_placed (behind_then whole text s g (inner_run_rest (length whole) text s h)) (placed 36 (codes "(") whole text s g (inner_seen (length whole) text (Substitution s) h).stands) i)

    sub_placed : {deep : ℕ → Bool} {depth «from» : ℕ} {text : Bytes} {q : Out (List Token)} → Behind whole text → StandsAt (codes "$(") «from» whole → IsSub deep (length whole) depth «from» text q → TokensPlaced q
    sub_placed g o (sub_deep l e) = subst TokensPlaced (sym e) (inl o)
    sub_placed g o (sub_items l x) = items_placed g o x

-- ---- the text's fault

body_behind : (text : Bytes) → Behind text (behind_line text)
body_behind [] = ([], refl)
body_behind (b ∷ rest) =
    cond_both (nat_eq b 10) rest (behind_line rest) (Behind (b ∷ rest)) (λ _. (b ∷ [], refl)) (λ _. let more = body_behind rest in (b ∷ more.0, ap (λ t. b ∷ t) more.1))

pub body_placed : {deep : ℕ → Bool} (text : Bytes) (f : LexFault) → IsBody deep text (Stop f) → IsPlaced text f
body_placed text f x = items_placed text (body_behind text) tt x

nul_placed : (text : Bytes) (at : ℕ) → nul_of text ≡ Some at → StandsAt (0 ∷ []) at text
nul_placed text at e =
    let h = nul_is text at e in
    let same = ap (λ n. drop n text) (sym h.place) ∙ drop-appended h.before text (0 ∷ h.rest) h.is in
    let first = skip_first 0 h.rest refl in
    record { rest = h.rest; stands = (h.rest, ap skip same ∙ first, refl); first = ap skip same ∙ first ∙ sym same }

pub faults_stand : (text : Bytes) (f : LexFault) → Faulty text f → FaultStands text f
faults_stand text (Nul at) h = inl (nul_placed text at h)
faults_stand text (Interpreter at) h = h.2
faults_stand text (OpenQuote at) h = body_placed text (OpenQuote at) h.1
faults_stand text (OpenSubstitution at) h = body_placed text (OpenSubstitution at) h.1
faults_stand text (Unsupported which at) h = body_placed text (Unsupported which at) h.1
faults_stand text (Deep at) h = body_placed text (Deep at) h.1
faults_stand text Memory h = absurd h

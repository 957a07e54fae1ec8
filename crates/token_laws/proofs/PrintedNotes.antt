-- The notes of a word go by its parts: what is looked for once a word is whole is the same in two texts of one word.
use Rattle.std.proofs.Common.{◌≡◌, ℕ, zero, suc, Bool, true, false, if◌then◌else◌, ◌||◌, ◌&&◌, nat_eq, not, List, [], ◌∷◌, ◌++◌, append_assoc, Option, Some, None, codes, refl, sym, ap, ◌∙◌, subst}
use Rattle.shell_syntax.specs.declared.form.Form.{Form}
use Rattle.shell_syntax.specs.declared.form.Form.TheVariants as form
use Rattle.shell_lexer.specs.declared.fault.LexFault.{LexFault}
use Rattle.shell_lexer.specs.declared.fault.LexFault.TheVariants.{OpenQuote}
use Rattle.shell_lexer.specs.declared.sight.ByteNote.{ByteNote}
use Rattle.shell_lexer.specs.declared.sight.ByteNote.TheVariants as note
use Rattle.shell_lexer.specs.declared.token.RawPart.{RawPart}
use Rattle.shell_lexer.specs.declared.token.RawPart.TheVariants as part
use Rattle.shell_lexer.specs.Late.{first_all, is_all_word, all_args, tilde, has_list, brace, is_plainly, subst_case, found, sooner, as_fault, late}
use Rattle.shell_lexer.specs.Parts.{Piece}
use Rattle.shell_lexer.specs.SpelledParts.{IsPiece}
use Rattle.shell_lexer.specs.Reading.{Out, Whole, Stop, Read, grown, plain_run, quoted_run, last_run, IsWord, word_ends, word_byte, word_piece, word_all, word_double, word_run, word_wrong, word_bad_double, word_bad_run, IsInner, inner_open, inner_ends, inner_byte, inner_piece, inner_all, inner_run, inner_wrong, inner_bad_run}
use Rattle.shell_lexer.specs.Text.{Bytes, offset}
use Rattle.std.proofs.lemmas.Bool.{true≢false}
use Rattle.shell_lexer.proofs.SpelledParts.{look_seen, inner_seen}
use Rattle.token_laws.specs.PrintedLaws.{holds_no_all}

-- ---- notes of parts

-- whether a part is neither plain nor `$@`
abbrev pub is_other : RawPart → Bool
is_other (part.Plain w) = false
is_other part.All = false
is_other _ = true

-- These are notes of these parts: one for each plain byte, one for `$@`, and at least one for any other part; `after`
-- says that another part stands directly before them, to which further notes may belong.
pub data Noted : Bool → List RawPart → List ByteNote → Type 0 where
  noted_none : {after : Bool} → Noted after [] []
  noted_byte : {after : Bool} {b at : ℕ} {w : Bytes} {ps : List RawPart} {ns : List ByteNote}
      → Noted false (part.Plain w ∷ ps) ns → Noted after (part.Plain (b ∷ w) ∷ ps) (note.Plain b at ∷ ns)
  noted_done : {ps : List RawPart} {ns : List ByteNote} → Noted false ps ns → Noted false (part.Plain [] ∷ ps) ns
  noted_gap : {after : Bool} {p : RawPart} {ps : List RawPart} {ns : List ByteNote} → is_other p ≡ true → Noted true ps ns → Noted after (p ∷ ps) (note.Gap ∷ ns)
  noted_extra : {ps : List RawPart} {ns : List ByteNote} → Noted true ps ns → Noted true ps (note.Gap ∷ ns)
  noted_all : {after : Bool} {at : ℕ} {quoted : Bool} {ps : List RawPart} {ns : List ByteNote} → Noted true ps ns → Noted after (part.All ∷ ps) (note.All at quoted ∷ ns)

-- ---- what stands in double quotes

abbrev AddsNotes : Bool → List RawPart → List ByteNote → Type 0
AddsNotes after xs ms = (ps : List RawPart) (ns : List ByteNote) → Noted true ps ns → Noted after (xs ++ ps) ((ms ++ note.Gap ∷ []) ++ ns)

-- behind a run that has bytes, which have had a note, the run's part comes first
record RunNoted (v : Read) : Type 0 where
  pub bytes : Bytes
  pub others : List RawPart
  pub parts : v.0 ≡ part.Quoted bytes ∷ others
  pub adds : AddsNotes true others v.1

abbrev InnerNoted : Bool → Bytes → Out Read → Type 0
InnerNoted fresh [] (Whole v rest) = (after : Bool) → (fresh ≡ false → after ≡ true) → AddsNotes after v.0 v.1
InnerNoted fresh (b ∷ run) (Whole v rest) = RunNoted v
InnerNoted fresh run (Stop fault) = Unit {0}

inner_end : (fresh : Bool) (run rest : Bytes) → InnerNoted fresh run (Whole (last_run fresh run, []) rest)
inner_end true [] rest = λ after h ps ns n. noted_gap refl n
inner_end false [] rest = λ after h ps ns n. subst (λ a. Noted a ps (note.Gap ∷ ns)) (sym (h refl)) (noted_extra n)
inner_end true (b ∷ run) rest = record { bytes = b ∷ run; others = []; parts = refl; adds = λ ps ns n. noted_extra n }
inner_end false (b ∷ run) rest = record { bytes = b ∷ run; others = []; parts = refl; adds = λ ps ns n. noted_extra n }

inner_one : (fresh : Bool) (run : Bytes) (b : ℕ) (q : Out Read) → InnerNoted fresh (run ++ b ∷ []) q → InnerNoted fresh run (grown [] (note.Gap ∷ []) q)
inner_one fresh [] b (Whole v rest) x = λ after h ps ns n. subst (λ l. Noted after (l ++ ps) (note.Gap ∷ ((v.1 ++ note.Gap ∷ []) ++ ns))) (sym x.parts) (noted_gap refl (x.adds ps ns n))
inner_one fresh (a ∷ run) b (Whole v rest) x = record { bytes = x.bytes; others = x.others; parts = x.parts; adds = λ ps ns n. noted_extra (x.adds ps ns n) }
inner_one fresh [] b (Stop fault) x = tt
inner_one fresh (a ∷ run) b (Stop fault) x = tt

-- a part that has this note
abbrev IsNote : RawPart → ByteNote → Type 0
IsNote p n = (after : Bool) (ps : List RawPart) (ns : List ByteNote) → Noted true ps ns → Noted after (p ∷ ps) (n ∷ ns)

inner_part : (fresh : Bool) (run : Bytes) (p : RawPart) (m : ByteNote) (q : Out Read) → IsNote p m → InnerNoted false [] q → InnerNoted fresh run (grown (quoted_run run ++ p ∷ []) (m ∷ []) q)
inner_part fresh [] p m (Whole v rest) is x = λ after h ps ns n. is after (v.0 ++ ps) ((v.1 ++ note.Gap ∷ []) ++ ns) (x true (λ e. refl) ps ns n)
inner_part fresh (b ∷ run) p m (Whole v rest) is x = record {
  bytes = b ∷ run;
  others = p ∷ v.0;
  parts = refl;
  adds = λ ps ns n. is true (v.0 ++ ps) ((v.1 ++ note.Gap ∷ []) ++ ns) (x true (λ e. refl) ps ns n);
}
inner_part fresh [] p m (Stop fault) is x = tt
inner_part fresh (b ∷ run) p m (Stop fault) is x = tt

inner_stop : (fresh : Bool) (run : Bytes) (f : LexFault) → InnerNoted fresh run (Stop f)
inner_stop fresh [] f = tt
inner_stop fresh (b ∷ run) f = tt

other_note : (p : RawPart) → is_other p ≡ true → IsNote p note.Gap
other_note p e = λ after ps ns n. noted_gap e n

piece_other : (inside : Bool) (p : RawPart) (text rest : Bytes) → IsPiece inside p text rest → is_other p ≡ true
piece_other inside (part.Param key default quoted) text rest h = refl
piece_other inside (part.Quoted bytes) text rest h = refl
piece_other inside _ text rest h = absurd h

all_note : (at : ℕ) (quoted : Bool) → IsNote part.All (note.All at quoted)
all_note at quoted = λ after ps ns n. noted_all n

inner_noted : {deep : ℕ → Bool} {len depth «from» : ℕ} {fresh : Bool} {run text : Bytes} {q : Out Read} → IsInner deep len depth «from» fresh run text q → InnerNoted fresh run q
inner_noted {deep} {len} {depth} {«from»} {fresh} {run} {text} {q} (inner_open h e) = subst (InnerNoted fresh run) (sym e) (inner_stop fresh run (OpenQuote «from»))
inner_noted {deep} {len} {depth} {«from»} {fresh} {run} {text} {q} (inner_ends t h e) = subst (InnerNoted fresh run) (sym e) (inner_end fresh run t)
inner_noted {deep} {len} {depth} {«from»} {fresh} {run} {text} {q} (inner_byte b t q1 h x e) = subst (InnerNoted fresh run) (sym e) (inner_one fresh run b q1 (inner_noted x))
inner_noted {deep} {len} {depth} {«from»} {fresh} {run} {text} {q} (inner_piece p t q1 h x e) =
    subst (InnerNoted fresh run) (sym e) (inner_part fresh run p note.Gap q1 (other_note p (piece_other true p text t (inner_seen len text (Piece p t) h))) (inner_noted x))
inner_noted {deep} {len} {depth} {«from»} {fresh} {run} {text} {q} (inner_all t q1 h x e) =
    subst (InnerNoted fresh run) (sym e) (inner_part fresh run part.All (note.All (offset len text) true) q1 (all_note (offset len text) true) (inner_noted x))
inner_noted {deep} {len} {depth} {«from»} {fresh} {run} {text} {q} (inner_run g ts t q1 h i x e) =
    subst (InnerNoted fresh run) (sym e) (inner_part fresh run (part.Run (offset len text) ts true) note.Gap q1 (other_note (part.Run (offset len text) ts true) refl) (inner_noted x))
inner_noted {deep} {len} {depth} {«from»} {fresh} {run} {text} {q} (inner_wrong f h e) = subst (InnerNoted fresh run) (sym e) (inner_stop fresh run f)
inner_noted {deep} {len} {depth} {«from»} {fresh} {run} {text} {q} (inner_bad_run g f h i e) = subst (InnerNoted fresh run) (sym e) (inner_stop fresh run f)

-- ---- words

-- behind a plain run that has bytes, which have had their notes, the run goes on
record PlainNoted (run : Bytes) (v : Read) : Type 0 where
  pub bytes : Bytes
  pub others : List RawPart
  pub parts : v.0 ≡ part.Plain (run ++ bytes) ∷ others
  pub noted : Noted false (part.Plain bytes ∷ others) v.1

abbrev WordNoted : Bytes → Out Read → Type 0
WordNoted [] (Whole v rest) = (after : Bool) → Noted after v.0 v.1
WordNoted (b ∷ run) (Whole v rest) = PlainNoted (b ∷ run) v
WordNoted run (Stop fault) = Unit {0}

word_end : (run rest : Bytes) → WordNoted run (Whole (plain_run run, []) rest)
word_end [] rest = λ after. noted_none
word_end (b ∷ run) rest = record { bytes = []; others = []; parts = ap (λ l. part.Plain l ∷ []) (sym (nil_behind (b ∷ run))); noted = noted_done noted_none } where
  nil_behind : (l : Bytes) → l ++ [] ≡ l
  nil_behind [] = refl
  nil_behind (x ∷ l) = ap (λ r. x ∷ r) (nil_behind l)

word_one : (run : Bytes) (b at : ℕ) (q : Out Read) → WordNoted (run ++ b ∷ []) q → WordNoted run (grown [] (note.Plain b at ∷ []) q)
word_one [] b at (Whole v rest) x = λ after. subst (λ l. Noted after l (note.Plain b at ∷ v.1)) (sym x.parts) (noted_byte x.noted)
word_one (a ∷ run) b at (Whole v rest) x = record {
  bytes = b ∷ x.bytes;
  others = x.others;
  parts = x.parts ∙ ap (λ l. part.Plain l ∷ x.others) (append_assoc (a ∷ run) (b ∷ []) x.bytes);
  noted = noted_byte x.noted;
}
word_one [] b at (Stop fault) x = tt
word_one (a ∷ run) b at (Stop fault) x = tt

-- parts with their notes, behind a run
word_parts : (run : Bytes) (xs : List RawPart) (ms : List ByteNote) (q : Out Read)
    → ((after : Bool) (ps : List RawPart) (ns : List ByteNote) → Noted true ps ns → Noted after (xs ++ ps) (ms ++ ns)) → WordNoted [] q → WordNoted run (grown (plain_run run ++ xs) ms q)
word_parts [] xs ms (Whole v rest) adds x = λ after. adds after v.0 v.1 (x true)
word_parts (b ∷ run) xs ms (Whole v rest) adds x = record {
  bytes = [];
  others = xs ++ v.0;
  parts = ap (λ l. part.Plain l ∷ (xs ++ v.0)) (sym (nil_behind (b ∷ run)));
  noted = noted_done (adds false v.0 v.1 (x true));
}
  where
    nil_behind : (l : Bytes) → l ++ [] ≡ l
    nil_behind [] = refl
    nil_behind (x ∷ l) = ap (λ r. x ∷ r) (nil_behind l)
word_parts [] xs ms (Stop fault) adds x = tt
word_parts (b ∷ run) xs ms (Stop fault) adds x = tt

word_stop : (run : Bytes) (f : LexFault) → WordNoted run (Stop f)
word_stop [] f = tt
word_stop (b ∷ run) f = tt

word_noted : {deep : ℕ → Bool} {len depth : ℕ} {run text : Bytes} {q : Out Read} → IsWord deep len depth run text q → WordNoted run q
word_noted {deep} {len} {depth} {run} {text} {q} (word_ends h e) = subst (WordNoted run) (sym e) (word_end run text)
word_noted {deep} {len} {depth} {run} {text} {q} (word_byte b t q1 h x e) = subst (WordNoted run) (sym e) (word_one run b (offset len text) q1 (word_noted x))
word_noted {deep} {len} {depth} {run} {text} {q} (word_piece p t q1 h x e) =
    subst (WordNoted run) (sym e) (word_parts run (p ∷ []) (note.Gap ∷ []) q1 (other_note p (piece_other false p text t (look_seen len text (Piece p t) h))) (word_noted x))
word_noted {deep} {len} {depth} {run} {text} {q} (word_all t q1 h x e) =
    subst (WordNoted run) (sym e) (word_parts run (part.All ∷ []) (note.All (offset len text) false ∷ []) q1 (all_note (offset len text) false) (word_noted x))
word_noted {deep} {len} {depth} {run} {text} {q} (word_double g v t q1 h i x e) =
    subst (WordNoted run) (sym e) (word_parts run v.0 (v.1 ++ note.Gap ∷ []) q1 (λ after. inner_noted i after (λ f. absurd (true≢false f))) (word_noted x))
word_noted {deep} {len} {depth} {run} {text} {q} (word_run g ts t q1 h i x e) =
    subst (WordNoted run) (sym e) (word_parts run (part.Run (offset len text) ts false ∷ []) (note.Gap ∷ []) q1 (other_note (part.Run (offset len text) ts false) refl) (word_noted x))
word_noted {deep} {len} {depth} {run} {text} {q} (word_wrong f h e) = subst (WordNoted run) (sym e) (word_stop run f)
word_noted {deep} {len} {depth} {run} {text} {q} (word_bad_double g f h i e) = subst (WordNoted run) (sym e) (word_stop run f)
word_noted {deep} {len} {depth} {run} {text} {q} (word_bad_run g f h i e) = subst (WordNoted run) (sym e) (word_stop run f)

-- ---- what is looked for, by the parts

abbrev pub is_none : {A : Type 0} → Option A → Bool
is_none None = true
is_none (Some x) = false

none_of : {A : Type 0} (o : Option A) → is_none o ≡ true → o ≡ None
none_of None e = refl
none_of (Some x) e = absurd (true≢false (sym e))

-- a run of plain bytes without a tilde, and what follows it
abbrev pub tilde_run : Bool → Bytes → (Bool → Bool) → Bool
tilde_run may [] goes = goes may
tilde_run may (b ∷ w) goes = if may && nat_eq b 126 then false else tilde_run (nat_eq b 61 || nat_eq b 58) w goes

abbrev no_tilde : List RawPart → Bool → Bool
no_tilde [] may = true
no_tilde (part.Plain w ∷ ps) may = tilde_run may w (no_tilde ps)
no_tilde (_ ∷ ps) may = no_tilde ps false

abbrev pub list_run : Bool → Bytes → (Bool → Bool) → Bool
list_run dot [] goes = goes dot
list_run dot (b ∷ w) goes = (nat_eq b 44 || (dot && nat_eq b 46)) || list_run (nat_eq b 46) w goes

abbrev list_in : List RawPart → Bool → Bool
list_in [] dot = false
list_in (part.Plain w ∷ ps) dot = list_run dot w (list_in ps)
list_in (_ ∷ ps) dot = list_in ps false

abbrev pub brace_run : Bytes → Bool → (Bool → Bool) → Bool
brace_run [] goes lists = goes
brace_run (b ∷ w) goes lists = if nat_eq b 123 then not (list_run false w lists) else brace_run w goes lists

abbrev no_brace : List RawPart → Bool
no_brace [] = true
no_brace (part.Plain w ∷ ps) = brace_run w (no_brace ps) (list_in ps)
no_brace (_ ∷ ps) = no_brace ps

abbrev pub is_nil : {A : Type 0} → List A → Bool
is_nil [] = true
is_nil (x ∷ xs) = false

abbrev pub run_is : Bytes → Bytes → (Bytes → Bool) → Bool
run_is cs [] goes = goes cs
run_is [] (b ∷ w) goes = false
run_is (c ∷ cs) (b ∷ w) goes = nat_eq b c && run_is cs w goes

abbrev are_plainly : List RawPart → Bytes → Bool
are_plainly [] cs = is_nil cs
are_plainly (part.Plain w ∷ ps) cs = run_is cs w (are_plainly ps)
are_plainly (_ ∷ ps) cs = false

-- another part
other_tilde : (p : RawPart) (ps : List RawPart) (may : Bool) → is_other p ≡ true → no_tilde ps false ≡ no_tilde (p ∷ ps) may
other_tilde (part.Plain w) ps may e = absurd (true≢false (sym e))
other_tilde _ ps may e = refl

other_list : (p : RawPart) (ps : List RawPart) (dot : Bool) → is_other p ≡ true → list_in ps false ≡ list_in (p ∷ ps) dot
other_list (part.Plain w) ps dot e = absurd (true≢false (sym e))
other_list _ ps dot e = refl

other_brace : (p : RawPart) (ps : List RawPart) → is_other p ≡ true → no_brace ps ≡ no_brace (p ∷ ps)
other_brace (part.Plain w) ps e = absurd (true≢false (sym e))
other_brace _ ps e = refl

other_all : (p : RawPart) (ps : List RawPart) → is_other p ≡ true → holds_no_all ps ≡ holds_no_all (p ∷ ps)
other_all part.All ps e = absurd (true≢false (sym e))
other_all _ ps e = refl

other_plainly : (p : RawPart) (ps : List RawPart) (cs : Bytes) → is_other p ≡ true → false ≡ are_plainly (p ∷ ps) cs
other_plainly (part.Plain w) ps cs e = absurd (true≢false (sym e))
other_plainly _ ps cs e = refl

none_if : {A : Type 0} (t : Bool) (x : A) (o : Option A) (b : Bool) → is_none o ≡ b → is_none (if t then Some x else o) ≡ (if t then false else b)
none_if true x o b e = refl
none_if false x o b e = e

none_brace : {A : Type 0} (t hl l : Bool) (x : A) (o : Option A) (b : Bool) → hl ≡ l → is_none o ≡ b → is_none (if t then (if hl then Some x else None) else o) ≡ (if t then not l else b)
none_brace true true l x o b f e = ap not f
none_brace true false l x o b f e = ap not f
none_brace false hl l x o b f e = e

vacuous : {A : Type 0} → false ≡ true → A
vacuous e = absurd (true≢false (sym e))

tilde_by : {after : Bool} {ps : List RawPart} {ns : List ByteNote} (may : Bool) → Noted after ps ns → (after ≡ true → may ≡ false) → is_none (tilde may ns) ≡ no_tilde ps may
tilde_by may noted_none h = refl
tilde_by may (noted_byte {b = b} {at = at} {w = w} {ps = ps} {ns = ns} n) h =
    none_if (may && nat_eq b 126) at (tilde (nat_eq b 61 || nat_eq b 58) ns) (tilde_run (nat_eq b 61 || nat_eq b 58) w (no_tilde ps)) (tilde_by (nat_eq b 61 || nat_eq b 58) n vacuous)
tilde_by may (noted_done n) h = tilde_by may n vacuous
tilde_by may (noted_gap {p = p} {ps = ps} e n) h = tilde_by false n (λ f. refl) ∙ other_tilde p ps may e
tilde_by may (noted_extra {ps = ps} n) h = tilde_by false n (λ f. refl) ∙ ap (no_tilde ps) (sym (h refl))
tilde_by may (noted_all n) h = tilde_by false n (λ f. refl)

list_by : {after : Bool} {ps : List RawPart} {ns : List ByteNote} (dot : Bool) → Noted after ps ns → (after ≡ true → dot ≡ false) → has_list dot ns ≡ list_in ps dot
list_by dot noted_none h = refl
list_by dot (noted_byte {b = b} n) h = ap (λ l. (nat_eq b 44 || (dot && nat_eq b 46)) || l) (list_by (nat_eq b 46) n vacuous)
list_by dot (noted_done n) h = list_by dot n vacuous
list_by dot (noted_gap {p = p} {ps = ps} e n) h = list_by false n (λ f. refl) ∙ other_list p ps dot e
list_by dot (noted_extra {ps = ps} n) h = list_by false n (λ f. refl) ∙ ap (list_in ps) (sym (h refl))
list_by dot (noted_all n) h = list_by false n (λ f. refl)

brace_by : {after : Bool} {ps : List RawPart} {ns : List ByteNote} → Noted after ps ns → is_none (brace ns) ≡ no_brace ps
brace_by noted_none = refl
brace_by (noted_byte {b = b} {at = at} {w = w} {ps = ps} {ns = ns} n) =
    none_brace (nat_eq b 123) (has_list false ns) (list_run false w (list_in ps)) at (brace ns) (brace_run w (no_brace ps) (list_in ps)) (list_by false n vacuous) (brace_by n)
brace_by (noted_done n) = brace_by n
brace_by (noted_gap {p = p} {ps = ps} e n) = brace_by n ∙ other_brace p ps e
brace_by (noted_extra n) = brace_by n
brace_by (noted_all n) = brace_by n

all_by : {after : Bool} {ps : List RawPart} {ns : List ByteNote} → Noted after ps ns → is_none (first_all ns) ≡ holds_no_all ps
all_by noted_none = refl
all_by (noted_byte n) = all_by n
all_by (noted_done n) = all_by n
all_by (noted_gap {p = p} {ps = ps} e n) = all_by n ∙ other_all p ps e
all_by (noted_extra n) = all_by n
all_by (noted_all n) = refl

plainly_nil : (cs : Bytes) → is_plainly cs [] ≡ is_nil cs
plainly_nil [] = refl
plainly_nil (c ∷ cs) = refl

plainly_gap : (cs : Bytes) (ns : List ByteNote) → is_plainly cs (note.Gap ∷ ns) ≡ false
plainly_gap [] ns = refl
plainly_gap (c ∷ cs) ns = refl

plainly_all : (cs : Bytes) (at : ℕ) (quoted : Bool) (ns : List ByteNote) → is_plainly cs (note.All at quoted ∷ ns) ≡ false
plainly_all [] at quoted ns = refl
plainly_all (c ∷ cs) at quoted ns = refl

plainly_byte : (cs : Bytes) (b at : ℕ) (ns : List ByteNote) (w : Bytes) (goes : Bytes → Bool) → ((ds : Bytes) → is_plainly ds ns ≡ run_is ds w goes) → is_plainly cs (note.Plain b at ∷ ns) ≡ run_is cs (b ∷ w) goes
plainly_byte [] b at ns w goes h = refl
plainly_byte (c ∷ cs) b at ns w goes h = ap (λ l. nat_eq b c && l) (h cs)

plainly_by : {after : Bool} {ps : List RawPart} {ns : List ByteNote} → Noted after ps ns → after ≡ false → (cs : Bytes) → is_plainly cs ns ≡ are_plainly ps cs
plainly_by noted_none h cs = plainly_nil cs
plainly_by (noted_byte {b = b} {at = at} {w = w} {ps = ps} {ns = ns} n) h cs = plainly_byte cs b at ns w (are_plainly ps) (plainly_by n refl)
plainly_by (noted_done n) h cs = plainly_by n refl cs
plainly_by (noted_gap {p = p} {ps = ps} {ns = ns} e n) h cs = plainly_gap cs ns ∙ other_plainly p ps cs e
plainly_by (noted_extra n) h cs = absurd (true≢false h)
plainly_by (noted_all {at = at} {quoted = quoted} {ns = ns} n) h cs = plainly_all cs at quoted ns

-- ---- what is found

sooner_first : (a b : Option (ℕ × Form)) → sooner a b ≡ None → a ≡ None
sooner_first None b e = refl
sooner_first (Some a) None e = absurd (cc e)
sooner_first (Some a) (Some b) e = absurd (cc (by _ e)) where
  by : (t : Bool) → (if t then Some a else Some b) ≡ None → Some a ≡ None
  by true e = e
  by false e = absurd (cc e)

sooner_second : (a b : Option (ℕ × Form)) → sooner a b ≡ None → b ≡ None
sooner_second None b e = e
sooner_second (Some a) b e = absurd (none_of_some (sooner_first (Some a) b e)) where
  none_of_some : Some a ≡ None → ⊥
  none_of_some e = cc

pub nothing_found : (which : Form) (o : Option ℕ) → found which o ≡ None → o ≡ None
nothing_found which None e = refl
nothing_found which (Some at) e = absurd (cc e)

pub no_fault : (o : Option (ℕ × Form)) → as_fault o ≡ None → o ≡ None
no_fault None e = refl
no_fault (Some a) e = absurd (cc e)

-- a word in which nothing is found
record NothingLate (depth at : ℕ) (ns : List ByteNote) : Type 0 where
  pub all : all_args ns ≡ None
  pub tildes : tilde true ns ≡ None
  pub braces : brace ns ≡ None
  pub cases : subst_case depth at ns ≡ None

nothing_late : (depth at : ℕ) (ns : List ByteNote) → late depth at ns ≡ None → NothingLate depth at ns
nothing_late depth at ns e =
    let a = found form.AllArgs (all_args ns) in
    let t = found form.Tilde (tilde true ns) in
    let b = found form.Brace (brace ns) in
    let c = found form.SubstCase (subst_case depth at ns) in
    let none = no_fault (sooner a (sooner t (sooner b c))) e in
    let behind = sooner_second a (sooner t (sooner b c)) none in
    let last = sooner_second t (sooner b c) behind in
    record {
      all = nothing_found form.AllArgs (all_args ns) (sooner_first a (sooner t (sooner b c)) none);
      tildes = nothing_found form.Tilde (tilde true ns) (sooner_first t (sooner b c) behind);
      braces = nothing_found form.Brace (brace ns) (sooner_first b c last);
      cases = nothing_found form.SubstCase (subst_case depth at ns) (sooner_second b c last);
    }

late_nothing : (depth at : ℕ) (ns : List ByteNote) → NothingLate depth at ns → late depth at ns ≡ None
late_nothing depth at ns n = rw (n.all, n.tildes, n.braces, n.cases) refl

pub if_none : (t : Bool) (o : Option ℕ) → o ≡ None → (if t then None else o) ≡ None
if_none true o e = refl
if_none false o e = e

case_same : (depth at two : ℕ) (ns ms : List ByteNote) → is_plainly (codes "case") ns ≡ is_plainly (codes "case") ms → subst_case depth at ns ≡ None → subst_case depth two ms ≡ None
case_same zero at two ns ms e h = refl
case_same (suc depth) at two ns ms e h = by (is_plainly (codes "case") ns) (is_plainly (codes "case") ms) e h where
  by : (x y : Bool) → x ≡ y → (if x then Some at else None) ≡ None → (if y then Some two else None) ≡ None
  by true y e h = absurd (cc h)
  by false true e h = absurd (true≢false (sym e))
  by false false e h = refl

-- nothing is found in one text of a word where nothing is found in another
pub late_same : (ps : List RawPart) (ns ms : List ByteNote) (depth at two : ℕ) → holds_no_all ps ≡ true → Noted false ps ns → Noted false ps ms → late depth at ns ≡ None → late depth two ms ≡ None
late_same ps ns ms depth at two none n m e =
    let l = nothing_late depth at ns e in
    late_nothing depth two ms (record {
      all = if_none (is_all_word ms) (first_all ms) (none_of (first_all ms) (all_by m ∙ none));
      tildes = none_of (tilde true ms) (tilde_by true m vacuous ∙ sym (tilde_by true n vacuous) ∙ ap is_none l.tildes);
      braces = none_of (brace ms) (brace_by m ∙ sym (brace_by n) ∙ ap is_none l.braces);
      cases = case_same depth at two ns ms (plainly_by n refl (codes "case") ∙ sym (plainly_by m refl (codes "case"))) l.cases;
    })

-- a word that is read has notes of its parts
pub notes_of : {deep : ℕ → Bool} {len depth : ℕ} {text rest : Bytes} {v : Read} → IsWord deep len depth [] text (Whole v rest) → Noted false v.0 v.1
notes_of w = word_noted w false

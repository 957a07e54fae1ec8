-- A word of a text in which `$@` stands is the word `"$@"`.
use Rattle.std.proofs.Common.{◌≡◌, ℕ, Bool, true, false, if◌then◌else◌, nat_le, List, [], ◌∷◌, ◌++◌, append_assoc, ◌⊎◌, inl, inr, Option, Some, None, refl, sym, ap, ◌∙◌, subst}
use Rattle.shell_syntax.specs.declared.form.Form.{Form}
use Rattle.shell_syntax.specs.declared.form.Form.TheVariants as form
use Rattle.shell_lexer.specs.declared.token.RawPart.{RawPart}
use Rattle.shell_lexer.specs.declared.token.RawPart.TheVariants as raw
use Rattle.token_laws.specs.Laws.{PartsAreSpelled}
use Rattle.shell_lexer.specs.Late.{late, all_args, first_all, is_all_word, found, sooner, as_fault}
use Rattle.shell_lexer.specs.Parts.{look, inner}
use Rattle.token_laws.specs.PrintedLaws.{holds_no_all}
use Rattle.shell_lexer.specs.Reading.{Out, Whole, Stop, Read, plain_run, quoted_run, last_run, IsWord, word_ends, word_byte, word_piece, word_all, word_double, word_run, word_wrong, word_bad_double, word_bad_run, IsInner, inner_open, inner_ends, inner_byte, inner_piece, inner_all, inner_run, inner_wrong, inner_bad_run}
use Rattle.shell_lexer.specs.SpelledParts.{IsPiece}
use Rattle.shell_lexer.specs.Text.{Bytes}
use Rattle.shell_printing.proofs.Backs.{false_true}
use Rattle.token_laws.proofs.PrintedNotes.{is_nil}
use Rattle.shell_printing.proofs.Offsets.{both as two}

-- ---- parts without `$@`

piece_no_all : (inside : Bool) (p : RawPart) (text rest : Bytes) → IsPiece inside p text rest → holds_no_all (p ∷ []) ≡ true
piece_no_all inside (raw.Param key default quoted) text rest h = refl
piece_no_all inside (raw.Quoted bytes) text rest h = refl
piece_no_all inside _ text rest h = absurd h

no_all_append : (xs ys : List RawPart) → holds_no_all xs ≡ true → holds_no_all ys ≡ true → holds_no_all (xs ++ ys) ≡ true
no_all_append [] ys e f = f
no_all_append (raw.All ∷ xs) ys e f = absurd (false_true e)
no_all_append (_ ∷ xs) ys e f = no_all_append xs ys e f

no_all_plain : (run : Bytes) → holds_no_all (plain_run run) ≡ true
no_all_plain [] = refl
no_all_plain (b ∷ run) = refl

no_all_run : (run : Bytes) → holds_no_all (quoted_run run) ≡ true
no_all_run [] = refl
no_all_run (b ∷ run) = refl

no_all_last : (fresh : Bool) (run : Bytes) → holds_no_all (last_run fresh run) ≡ true
no_all_last true [] = refl
no_all_last true (b ∷ run) = refl
no_all_last false [] = refl
no_all_last false (b ∷ run) = refl

-- ---- words with no note of `$@`

abbrev InnerNoAll : Out Read → Type 0
InnerNoAll (Whole v rest) = (ms : _) → first_all (v.1 ++ ms) ≡ None → (holds_no_all v.0 ≡ true) × (first_all ms ≡ None)
InnerNoAll (Stop f) = Unit {0}

abbrev WordNoAll : Out Read → Type 0
WordNoAll (Whole v rest) = first_all v.1 ≡ None → holds_no_all v.0 ≡ true
WordNoAll (Stop f) = Unit {0}

quoted_no_all : (run : Bytes) (p : RawPart) (ps : List RawPart) → holds_no_all (p ∷ []) ≡ true → holds_no_all ps ≡ true → holds_no_all ((quoted_run run ++ p ∷ []) ++ ps) ≡ true
quoted_no_all run p ps e f = no_all_append (quoted_run run ++ p ∷ []) ps (no_all_append (quoted_run run) (p ∷ []) (no_all_run run) e) f

plain_no_all : (run : Bytes) (xs ps : List RawPart) → holds_no_all xs ≡ true → holds_no_all ps ≡ true → holds_no_all ((plain_run run ++ xs) ++ ps) ≡ true
plain_no_all run xs ps e f = no_all_append (plain_run run ++ xs) ps (no_all_append (plain_run run) xs (no_all_plain run) e) f

-- ---- the word `"$@"`

nil_of : {A : Type 0} (xs : List A) → is_nil xs ≡ true → xs ≡ []
nil_of [] e = refl
nil_of (x ∷ xs) e = absurd (false_true e)

-- a word without a note has no part
abbrev NoNotes : Bytes → Out Read → Type 0
NoNotes run (Whole v rest) = run ≡ [] → is_nil v.1 ≡ true → v.0 ≡ []
NoNotes run (Stop f) = Unit {0}

not_empty : {A : Type 0} (xs ys : List A) (x : A) → is_nil ((xs ++ x ∷ []) ++ ys) ≡ true → ⊥
not_empty [] ys x e = false_true e
not_empty (y ∷ xs) ys x e = false_true e

notes_same : {v w : Read} {t u : Bytes} → ◌≡◌ {A = Out Read} (Whole v t) (Whole w u) → v.1 ≡ w.1
notes_same {v} {w} e = let same : v ≡ w = cc in ap (λ (v : Read). v.1) same

parts_same : {v w : Read} {t u : Bytes} → ◌≡◌ {A = Out Read} (Whole v t) (Whole w u) → v.0 ≡ w.0
parts_same {v} {w} e = let same : v ≡ w = cc in ap (λ (v : Read). v.0) same

no_whole : {v : Read} {t : Bytes} {f : _} {A : Type 0} → ◌≡◌ {A = Out Read} (Whole v t) (Stop f) → A
no_whole e = absurd (cc e)

-- a test of a list, of which the first members are another list, or those behind the first
at_notes : {A : Type 0} (test : List A → Bool) (xs ys g ms : List A) → xs ≡ ys → test ((xs ++ g) ++ ms) ≡ true → test ((ys ++ g) ++ ms) ≡ true
at_notes test xs ys g ms e f = ap (λ l. test ((l ++ g) ++ ms)) (sym e) ∙ f

notes_at : {A : Type 0} (xs ys g ms : List A) → xs ≡ ys → (xs ++ g) ++ ms ≡ (ys ++ g) ++ ms
notes_at xs ys g ms e = ap (λ l. (l ++ g) ++ ms) e

notes_second : {A : Type 0} (a : A) (xs ys g ms : List A) → xs ≡ ys → ((a ∷ xs) ++ g) ++ ms ≡ ((a ∷ ys) ++ g) ++ ms
notes_second a xs ys g ms e = ap (λ l. ((a ∷ l) ++ g) ++ ms) e

third : {A : Type 0} (test : List A → Bool) (ns : List A) → test ns ≡ true → (a b : A) (zs : List A) → ns ≡ a ∷ b ∷ zs → ((m : A) (ms : List A) → test (a ∷ b ∷ m ∷ ms) ≡ false) → is_nil zs ≡ true
third test ns f a b [] e h = refl
third test ns f a b (m ∷ ms) e h = absurd (false_true (sym (ap test e ∙ h m ms) ∙ f))

first_none : (a b : Option (ℕ × Form)) → as_fault (sooner a b) ≡ None → a ≡ None
first_none None b e = refl
first_none (Some a) None e = absurd (cc e)
first_none (Some a) (Some b) e = absurd (by (nat_le a.0 b.0) e) where
  by : (it : Bool) → as_fault (if it then Some a else Some b) ≡ None → ⊥
  by true e = cc e
  by false e = cc e

found_none : (which : Form) (a : Option ℕ) → found which a ≡ None → a ≡ None
found_none which None e = refl
found_none which (Some at) e = absurd (cc e)

module _ (outside : PartsAreSpelled look false) (inside : PartsAreSpelled inner true) where
  inner_no_all : {deep : ℕ → Bool} {len depth begun : ℕ} {fresh : Bool} {run text : Bytes} {q : Out Read} → IsInner deep len depth begun fresh run text q → InnerNoAll q
  inner_no_all (inner_open h e) = subst InnerNoAll (sym e) tt
  inner_no_all {fresh = fresh} {run = run} (inner_ends t h e) = subst InnerNoAll (sym e) (λ ms f. (no_all_last fresh run, f))
  inner_no_all (inner_byte b t (Whole v1 r1) h x e) = subst InnerNoAll (sym e) (λ ms f. inner_no_all x ms f)
  inner_no_all (inner_byte b t (Stop g) h x e) = subst InnerNoAll (sym e) tt
  inner_no_all {len = len} {run = run} {text = text} (inner_piece p t (Whole v1 r1) h x e) =
      subst InnerNoAll (sym e) (λ ms f. let k = inner_no_all x ms f in (quoted_no_all run p v1.0 (piece_no_all true p text t ((inside len text t p).0 h)) k.0, k.1))
  inner_no_all (inner_piece p t (Stop g) h x e) = subst InnerNoAll (sym e) tt
  inner_no_all (inner_all t (Whole v1 r1) h x e) = subst InnerNoAll (sym e) (λ ms f. absurd (cc f))
  inner_no_all (inner_all t (Stop g) h x e) = subst InnerNoAll (sym e) tt
  inner_no_all {run = run} (inner_run g ts t (Whole v1 r1) h i x e) = subst InnerNoAll (sym e) (λ ms f. let k = inner_no_all x ms f in (quoted_no_all run (raw.Run _ ts true) v1.0 refl k.0, k.1))
  inner_no_all (inner_run g ts t (Stop f) h i x e) = subst InnerNoAll (sym e) tt
  inner_no_all (inner_wrong f h e) = subst InnerNoAll (sym e) tt
  inner_no_all (inner_bad_run g f h i e) = subst InnerNoAll (sym e) tt

  word_no_all : {deep : ℕ → Bool} {len depth : ℕ} {run text : Bytes} {q : Out Read} → IsWord deep len depth run text q → WordNoAll q
  word_no_all {run = run} (word_ends h e) = subst WordNoAll (sym e) (λ f. no_all_plain run)
  word_no_all (word_byte b t (Whole v1 r1) h x e) = subst WordNoAll (sym e) (λ f. word_no_all x f)
  word_no_all (word_byte b t (Stop g) h x e) = subst WordNoAll (sym e) tt
  word_no_all {len = len} {run = run} {text = text} (word_piece p t (Whole v1 r1) h x e) =
      subst WordNoAll (sym e) (λ f. plain_no_all run (p ∷ []) v1.0 (piece_no_all false p text t ((outside len text t p).0 h)) (word_no_all x f))
  word_no_all (word_piece p t (Stop g) h x e) = subst WordNoAll (sym e) tt
  word_no_all (word_all t (Whole v1 r1) h x e) = subst WordNoAll (sym e) (λ f. absurd (cc f))
  word_no_all (word_all t (Stop g) h x e) = subst WordNoAll (sym e) tt
  word_no_all {run = run} (word_double g v t (Whole v1 r1) h i x e) =
      subst WordNoAll (sym e) (λ f. let k = inner_no_all i _ (ap first_all (sym (append_assoc v.1 _ v1.1)) ∙ f) in plain_no_all run v.0 v1.0 k.0 (word_no_all x k.1))
  word_no_all (word_double g v t (Stop f) h i x e) = subst WordNoAll (sym e) tt
  word_no_all {run = run} (word_run g ts t (Whole v1 r1) h i x e) = subst WordNoAll (sym e) (λ f. plain_no_all run (raw.Run _ ts false ∷ []) v1.0 refl (word_no_all x f))
  word_no_all (word_run g ts t (Stop f) h i x e) = subst WordNoAll (sym e) tt
  word_no_all (word_wrong f h e) = subst WordNoAll (sym e) tt
  word_no_all (word_bad_double g f h i e) = subst WordNoAll (sym e) tt
  word_no_all (word_bad_run g f h i e) = subst WordNoAll (sym e) tt

  no_notes : {deep : ℕ → Bool} {len depth : ℕ} {run text : Bytes} {q : Out Read} → IsWord deep len depth run text q → NoNotes run q
  no_notes {run = run} (word_ends h e) = subst (NoNotes run) (sym e) (λ f g. ap plain_run f)
  no_notes {run = run} (word_byte b t (Whole v1 r1) h x e) = subst (NoNotes run) (sym e) (λ f g. absurd (false_true g))
  no_notes {run = run} (word_byte b t (Stop g) h x e) = subst (NoNotes run) (sym e) tt
  no_notes {run = run} (word_piece p t (Whole v1 r1) h x e) = subst (NoNotes run) (sym e) (λ f g. absurd (false_true g))
  no_notes {run = run} (word_piece p t (Stop g) h x e) = subst (NoNotes run) (sym e) tt
  no_notes {run = run} (word_all t (Whole v1 r1) h x e) = subst (NoNotes run) (sym e) (λ f g. absurd (false_true g))
  no_notes {run = run} (word_all t (Stop g) h x e) = subst (NoNotes run) (sym e) tt
  no_notes {run = run} (word_double g v t (Whole v1 r1) h i x e) = subst (NoNotes run) (sym e) (λ f k. absurd (not_empty v.1 v1.1 _ k))
  no_notes {run = run} (word_double g v t (Stop f) h i x e) = subst (NoNotes run) (sym e) tt
  no_notes {run = run} (word_run g ts t (Whole v1 r1) h i x e) = subst (NoNotes run) (sym e) (λ f k. absurd (false_true k))
  no_notes {run = run} (word_run g ts t (Stop f) h i x e) = subst (NoNotes run) (sym e) tt
  no_notes {run = run} (word_wrong f h e) = subst (NoNotes run) (sym e) tt
  no_notes {run = run} (word_bad_double g f h i e) = subst (NoNotes run) (sym e) tt
  no_notes {run = run} (word_bad_run g f h i e) = subst (NoNotes run) (sym e) tt

  abbrev AllSo : Bytes → Out Read → Type 0
  AllSo run (Whole v rest) = run ≡ [] → is_all_word v.1 ≡ true → v.0 ≡ raw.All ∷ []
  AllSo run (Stop f) = Unit {0}

  all_so : {deep : ℕ → Bool} {len depth : ℕ} {run text : Bytes} {q : Out Read} → IsWord deep len depth run text q → AllSo run q
  all_so {run = run} (word_ends h e) = subst (AllSo run) (sym e) (λ r f. absurd (false_true f))
  all_so {run = run} (word_byte b t (Whole v1 r1) h x e) = subst (AllSo run) (sym e) (λ r f. absurd (false_true f))
  all_so {run = run} (word_byte b t (Stop g) h x e) = subst (AllSo run) (sym e) (tt)
  all_so {run = run} (word_piece p t (Whole v1 r1) h x e) = subst (AllSo run) (sym e) (λ r f. absurd (false_true f))
  all_so {run = run} (word_piece p t (Stop g) h x e) = subst (AllSo run) (sym e) (tt)
  all_so {run = run} (word_all t (Whole v1 r1) h x e) = subst (AllSo run) (sym e) (λ r f. absurd (false_true f))
  all_so {run = run} (word_all t (Stop g) h x e) = subst (AllSo run) (sym e) (tt)
  all_so {run = run} (word_run g ts t (Whole v1 r1) h i x e) = subst (AllSo run) (sym e) (λ r f. absurd (false_true f))
  all_so {run = run} (word_run g ts t (Stop f) h i x e) = subst (AllSo run) (sym e) (tt)
  all_so {run = run} (word_wrong f h e) = subst (AllSo run) (sym e) (tt)
  all_so {run = run} (word_bad_double g f h i e) = subst (AllSo run) (sym e) (tt)
  all_so {run = run} (word_bad_run g f h i e) = subst (AllSo run) (sym e) (tt)
  all_so {run = run} (word_double g v t (Stop f) h i x e) = subst (AllSo run) (sym e) (tt)
  all_so {run = run} (word_double g v t (Whole v1 r1) h (inner_ends t2 h2 e2) x e) = subst (AllSo run) (sym e) (λ r f. absurd (false_true (at_notes is_all_word v.1 _ _ v1.1 (notes_same e2) f)))
  all_so {run = run} (word_double g v t (Whole v1 r1) h (inner_byte b t2 (Whole v2 r2) h2 x2 e2) x e) = subst (AllSo run) (sym e) (λ r f. absurd (false_true (at_notes is_all_word v.1 _ _ v1.1 (notes_same e2) f)))
  all_so {run = run} (word_double g v t (Whole v1 r1) h (inner_byte b t2 (Stop f2) h2 x2 e2) x e) = subst (AllSo run) (sym e) (no_whole e2)
  all_so {run = run} (word_double g v t (Whole v1 r1) h (inner_piece p t2 (Whole v2 r2) h2 x2 e2) x e) = subst (AllSo run) (sym e) (λ r f. absurd (false_true (at_notes is_all_word v.1 _ _ v1.1 (notes_same e2) f)))
  all_so {run = run} (word_double g v t (Whole v1 r1) h (inner_piece p t2 (Stop f2) h2 x2 e2) x e) = subst (AllSo run) (sym e) (no_whole e2)
  all_so {run = run} (word_double g v t (Whole v1 r1) h (inner_run g2 ts2 t2 (Whole v2 r2) h2 i2 x2 e2) x e) = subst (AllSo run) (sym e) (λ r f. absurd (false_true (at_notes is_all_word v.1 _ _ v1.1 (notes_same e2) f)))
  all_so {run = run} (word_double g v t (Whole v1 r1) h (inner_run g2 ts2 t2 (Stop f2) h2 i2 x2 e2) x e) = subst (AllSo run) (sym e) (no_whole e2)
  all_so {run = run} (word_double g v t (Whole v1 r1) h (inner_open h2 e2) x e) = subst (AllSo run) (sym e) (no_whole e2)
  all_so {run = run} (word_double g v t (Whole v1 r1) h (inner_wrong f2 h2 e2) x e) = subst (AllSo run) (sym e) (no_whole e2)
  all_so {run = run} (word_double g v t (Whole v1 r1) h (inner_bad_run g2 f2 h2 i2 e2) x e) = subst (AllSo run) (sym e) (no_whole e2)
  all_so {run = run} (word_double g v t (Whole v1 r1) h (inner_all t2 (Stop f2) h2 x2 e2) x e) = subst (AllSo run) (sym e) (no_whole e2)
  all_so {run = run} (word_double g v t (Whole v1 r1) h (inner_all t2 (Whole v2 r2) h2 (inner_ends t3 h3 e3) e2) x e) = subst (AllSo run) (sym e) (λ r f. ap (λ run. (plain_run run ++ v.0) ++ v1.0) r ∙ two (λ (xs ys : List RawPart). xs ++ ys) (parts_same e2 ∙ ap (λ (l : List RawPart). raw.All ∷ l) (parts_same e3)) (no_notes x refl (third is_all_word _ f _ _ v1.1 (notes_at v.1 _ _ v1.1 (notes_same e2) ∙ notes_second _ v2.1 _ _ v1.1 (notes_same e3)) (λ m ms. refl))))
  all_so {run = run} (word_double g v t (Whole v1 r1) h (inner_all t2 (Whole v2 r2) h2 (inner_byte b t3 (Whole v3 r3) h3 x3 e3) e2) x e) = subst (AllSo run) (sym e) (λ r f. absurd (not_empty v3.1 v1.1 _ (third is_all_word _ f _ _ ((v3.1 ++ _ ∷ []) ++ v1.1) (notes_at v.1 _ _ v1.1 (notes_same e2) ∙ notes_second _ v2.1 _ _ v1.1 (notes_same e3)) (λ m ms. refl))))
  all_so {run = run} (word_double g v t (Whole v1 r1) h (inner_all t2 (Whole v2 r2) h2 (inner_byte b t3 (Stop f3) h3 x3 e3) e2) x e) = subst (AllSo run) (sym e) (no_whole e3)
  all_so {run = run} (word_double g v t (Whole v1 r1) h (inner_all t2 (Whole v2 r2) h2 (inner_piece p t3 (Whole v3 r3) h3 x3 e3) e2) x e) = subst (AllSo run) (sym e) (λ r f. absurd (not_empty v3.1 v1.1 _ (third is_all_word _ f _ _ ((v3.1 ++ _ ∷ []) ++ v1.1) (notes_at v.1 _ _ v1.1 (notes_same e2) ∙ notes_second _ v2.1 _ _ v1.1 (notes_same e3)) (λ m ms. refl))))
  all_so {run = run} (word_double g v t (Whole v1 r1) h (inner_all t2 (Whole v2 r2) h2 (inner_piece p t3 (Stop f3) h3 x3 e3) e2) x e) = subst (AllSo run) (sym e) (no_whole e3)
  all_so {run = run} (word_double g v t (Whole v1 r1) h (inner_all t2 (Whole v2 r2) h2 (inner_run g3 ts3 t3 (Whole v3 r3) h3 i3 x3 e3) e2) x e) = subst (AllSo run) (sym e) (λ r f. absurd (not_empty v3.1 v1.1 _ (third is_all_word _ f _ _ ((v3.1 ++ _ ∷ []) ++ v1.1) (notes_at v.1 _ _ v1.1 (notes_same e2) ∙ notes_second _ v2.1 _ _ v1.1 (notes_same e3)) (λ m ms. refl))))
  all_so {run = run} (word_double g v t (Whole v1 r1) h (inner_all t2 (Whole v2 r2) h2 (inner_run g3 ts3 t3 (Stop f3) h3 i3 x3 e3) e2) x e) = subst (AllSo run) (sym e) (no_whole e3)
  all_so {run = run} (word_double g v t (Whole v1 r1) h (inner_all t2 (Whole v2 r2) h2 (inner_all t3 (Whole v3 r3) h3 x3 e3) e2) x e) = subst (AllSo run) (sym e) (λ r f. absurd (false_true (sym (ap is_all_word (notes_at v.1 _ _ v1.1 (notes_same e2) ∙ notes_second _ v2.1 _ _ v1.1 (notes_same e3))) ∙ f)))
  all_so {run = run} (word_double g v t (Whole v1 r1) h (inner_all t2 (Whole v2 r2) h2 (inner_all t3 (Stop f3) h3 x3 e3) e2) x e) = subst (AllSo run) (sym e) (no_whole e3)
  all_so {run = run} (word_double g v t (Whole v1 r1) h (inner_all t2 (Whole v2 r2) h2 (inner_open h3 e3) e2) x e) = subst (AllSo run) (sym e) (no_whole e3)
  all_so {run = run} (word_double g v t (Whole v1 r1) h (inner_all t2 (Whole v2 r2) h2 (inner_wrong f3 h3 e3) e2) x e) = subst (AllSo run) (sym e) (no_whole e3)
  all_so {run = run} (word_double g v t (Whole v1 r1) h (inner_all t2 (Whole v2 r2) h2 (inner_bad_run g3 f3 h3 i3 e3) e2) x e) = subst (AllSo run) (sym e) (no_whole e3)

  -- a word in which no form is found that is looked for once a word is whole
  pub arguments : {deep : ℕ → Bool} {len depth : ℕ} {text rest : Bytes} (at : ℕ) (v : Read) → IsWord deep len depth [] text (Whole v rest) → late depth at v.1 ≡ None → (holds_no_all v.0 ≡ true) ⊎ (v.0 ≡ raw.All ∷ [])
  arguments {depth = depth} at v w e = by (is_all_word v.1) refl (found_none form.AllArgs (all_args v.1) (first_none (found form.AllArgs (all_args v.1)) _ e)) where
    by : (it : Bool) → is_all_word v.1 ≡ it → (if is_all_word v.1 then None else first_all v.1) ≡ None → (holds_no_all v.0 ≡ true) ⊎ (v.0 ≡ raw.All ∷ [])
    by true f g = inr (all_so w refl f)
    by false f g = inl (word_no_all w (sym (ap (λ b. if b then None else first_all v.1) f) ∙ g))

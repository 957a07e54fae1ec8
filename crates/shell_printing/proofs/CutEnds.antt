-- In a text that is cut, only its last word may end in a plain backslash; and a word in which `$@` stands is `"$@"`.
use Rattle.std.proofs.Common.{◌≡◌, ℕ, Bool, true, false, nat_eq, List, [], ◌∷◌, ◌++◌, append-nil, refl, sym, ap, ◌∙◌, subst}
use Rattle.shell_lexer.specs.declared.token.RawPart.{RawPart}
use Rattle.shell_lexer.specs.declared.token.RawPart.TheVariants as raw
use Rattle.token_laws.specs.Laws.{PartsAreSpelled}
use Rattle.shell_lexer.specs.Parts.{Look, Byte, look, look_at, look_by, inner, dollar, escaped, has_quote}
use Rattle.token_laws.specs.PrintedLaws.{is_last, ends_in_backslash}
use Rattle.shell_lexer.specs.Reading.{Out, Whole, Stop, Read, plain_run, quoted_run, last_run, IsWord, word_ends, word_byte, word_piece, word_all, word_double, word_run, word_wrong, word_bad_double, word_bad_run, IsInner, inner_open, inner_ends, inner_byte, inner_piece, inner_all, inner_run, inner_wrong, inner_bad_run}
use Rattle.shell_lexer.specs.SpelledParts.{IsPiece}
use Rattle.script_names.specs.ShellNames.{is_digit, is_letter}
use Rattle.shell_lexer.specs.Text.{Bytes, kind, is_blank, is_special, skip, place}
use Rattle.shell_printing.proofs.Backs.{false_true}
use Rattle.shell_printing.proofs.CutDollars.{either, IsDollar, dollar_seen}
use Rattle.shell_printing.proofs.Ends.{if_case as tested}
use Rattle.token_laws.proofs.PrintedWords.{not_end}
use Rattle.shell_printing.proofs.WordBytes.{eq_of}

-- ---- what stands where a plain backslash is seen

-- a backslash stands for itself at the text's end alone
abbrev LastBack : Look → Type 0
LastBack (Byte b rest) = nat_eq b 92 ≡ true → rest ≡ []
LastBack _ = Unit {0}

dollar_last : (at : ℕ) (rest t : Bytes) → LastBack (dollar false at rest t)
dollar_last at rest t = by (dollar false at rest t) (dollar_seen rest false at t) where
  by : (l : Look) → IsDollar rest l → LastBack l
  by (Byte b r) h = λ e. absurd (false_true (sym (ap (λ x. nat_eq x 92) h.0) ∙ e))
  by _ h = tt

escaped_last : (b : ℕ) (t : Bytes) → LastBack (escaped b t)
escaped_last b [] = λ e. refl
escaped_last b (c ∷ t) = tt

-- a byte that is tested to be no backslash
not_back : (b : ℕ) (rest : Bytes) → nat_eq b 92 ≡ false → LastBack (Byte b rest)
not_back b rest e = λ f. absurd (false_true (sym e ∙ f))

hash_last : (b : ℕ) (rest : Bytes) → nat_eq b 35 ≡ true → LastBack (Byte b rest)
hash_last b rest e = not_back b rest (by (nat_eq b 92) refl) where
  by : (it : Bool) → nat_eq b 92 ≡ it → nat_eq b 92 ≡ false
  by false f = f
  by true f = absurd (false_true (sym (ap (λ x. nat_eq x 35) (sym (eq_of b 35 e)) ∙ ap (λ x. nat_eq x 35) (eq_of b 92 f)) ∙ refl))

word_last_by : (at b : ℕ) (t : Bytes) → LastBack (look_by at b (kind b) t)
word_last_by at b t =
    either (λ it. LastBack (look_by at b it t)) (is_blank b) tt
    (either (λ it. LastBack (look_by at b it t)) (nat_eq b 10) tt
    (either (λ it. LastBack (look_by at b it t)) (nat_eq b 59) tt
    (either (λ it. LastBack (look_by at b it t)) (nat_eq b 38) tt
    (either (λ it. LastBack (look_by at b it t)) (nat_eq b 124) tt
    (either (λ it. LastBack (look_by at b it t)) (nat_eq b 40) tt
    (either (λ it. LastBack (look_by at b it t)) (nat_eq b 41) tt
    (either (λ it. LastBack (look_by at b it t)) (nat_eq b 60) tt
    (either (λ it. LastBack (look_by at b it t)) (nat_eq b 62) tt
    (tested (λ it. LastBack (look_by at b it t)) (nat_eq b 35) (hash_last b t) (λ h.
    (either (λ it. LastBack (look_by at b it t)) (nat_eq b 39) (either LastBack (has_quote t) tt tt)
    (either (λ it. LastBack (look_by at b it t)) (nat_eq b 34) tt
    (tested (λ it. LastBack (look_by at b it t)) (nat_eq b 92) (λ e. escaped_last b t) (λ back.
    (either (λ it. LastBack (look_by at b it t)) (nat_eq b 96) tt
    (either (λ it. LastBack (look_by at b it t)) (nat_eq b 36) (dollar_last at t (skip t))
    (either (λ it. LastBack (look_by at b it t)) (nat_eq b 123) (not_back b t back)
    (either (λ it. LastBack (look_by at b it t)) (nat_eq b 64) (not_back b t back)
    (either (λ it. LastBack (look_by at b it t)) (is_special b) (not_back b t back)
    (either (λ it. LastBack (look_by at b it t)) (is_digit b) (not_back b t back)
    (either (λ it. LastBack (look_by at b it t)) (is_letter b) (not_back b t back) (not_back b t back))))))))))))))))))))))

word_last : (len : ℕ) (text : Bytes) → LastBack (look len text)
word_last len text = by (place len (skip text)) (skip text) where
  by : (at : ℕ) (t : Bytes) → LastBack (look_at at t)
  by at [] = tt
  by at (b ∷ t) = word_last_by at b t

-- ---- parts that are not plain

abbrev pub no_plain : List RawPart → Bool
no_plain [] = true
no_plain (raw.Plain w ∷ ps) = false
no_plain (_ ∷ ps) = no_plain ps

pub no_plain_append : (xs ys : List RawPart) → no_plain xs ≡ true → no_plain ys ≡ true → no_plain (xs ++ ys) ≡ true
no_plain_append [] ys e f = f
no_plain_append (raw.Plain w ∷ xs) ys e f = absurd (false_true e)
no_plain_append (_ ∷ xs) ys e f = no_plain_append xs ys e f

pub no_plain_run : (run : Bytes) → no_plain (quoted_run run) ≡ true
no_plain_run [] = refl
no_plain_run (b ∷ run) = refl

pub no_plain_last : (fresh : Bool) (run : Bytes) → no_plain (last_run fresh run) ≡ true
no_plain_last true [] = refl
no_plain_last true (b ∷ run) = refl
no_plain_last false [] = refl
no_plain_last false (b ∷ run) = refl

pub piece_not_plain : (inside : Bool) (p : RawPart) (text rest : Bytes) → IsPiece inside p text rest → no_plain (p ∷ []) ≡ true
piece_not_plain inside (raw.Param key default quoted) text rest h = refl
piece_not_plain inside (raw.Quoted bytes) text rest h = refl
piece_not_plain inside _ text rest h = absurd h

-- ---- lists of parts that end in a backslash

ends_cons : (x z : RawPart) (zs : List RawPart) → ends_in_backslash (x ∷ z ∷ zs) ≡ ends_in_backslash (z ∷ zs)
ends_cons (raw.Plain w) z zs = refl
ends_cons _ z zs = refl

ends_append : (xs : List RawPart) (z : RawPart) (zs : List RawPart) → ends_in_backslash (xs ++ z ∷ zs) ≡ ends_in_backslash (z ∷ zs)
ends_append [] z zs = refl
ends_append (x ∷ []) z zs = ends_cons x z zs
ends_append (x ∷ y ∷ xs) z zs = ends_cons x y (xs ++ z ∷ zs) ∙ ends_append (y ∷ xs) z zs

not_plain_end : (x : RawPart) (xs : List RawPart) → no_plain (x ∷ xs) ≡ true → ends_in_backslash (x ∷ xs) ≡ false
not_plain_end (raw.Plain w) xs e = absurd (false_true e)
not_plain_end x [] e = by x e where
  by : (x : RawPart) → no_plain (x ∷ []) ≡ true → ends_in_backslash (x ∷ []) ≡ false
  by (raw.Plain w) e = absurd (false_true e)
  by _ e = refl
not_plain_end x (y ∷ ys) e = ends_cons x y ys ∙ not_plain_end y ys (by x e) where
  by : (x : RawPart) → no_plain (x ∷ y ∷ ys) ≡ true → no_plain (y ∷ ys) ≡ true
  by (raw.Plain w) e = absurd (false_true e)
  by _ e = e

-- ---- what is behind a word that ends in a backslash

last_of : (run : Bytes) (b : ℕ) → is_last 92 (run ++ b ∷ []) ≡ nat_eq b 92
last_of [] b = refl
last_of (a ∷ []) b = refl
last_of (a ∷ c ∷ run) b = last_of (c ∷ run) b

abbrev EndsSo : Bytes → Bytes → Out Read → Type 0
EndsSo run text (Whole v rest) = (is_last 92 run ≡ true → text ≡ []) → ends_in_backslash v.0 ≡ true → rest ≡ []
EndsSo run text (Stop f) = Unit {0}

run_ends : (run text : Bytes) → (is_last 92 run ≡ true → text ≡ []) → ends_in_backslash (plain_run run) ≡ true → text ≡ []
run_ends [] text h e = absurd (false_true e)
run_ends (b ∷ run) text h e = h e

-- no plain part is the last one of those before which a run stands
parts_end : (run text : Bytes) (xs zs : List RawPart) (rest : Bytes) → no_plain xs ≡ true → (text ≡ [] → ⊥) → (is_last 92 run ≡ true → text ≡ []) → (ends_in_backslash zs ≡ true → rest ≡ [])
    → ends_in_backslash ((plain_run run ++ xs) ++ zs) ≡ true → rest ≡ []
parts_end run text xs (z ∷ zs) rest n some h k e = k (sym (ends_append (plain_run run ++ xs) z zs) ∙ e)
parts_end run text [] [] rest n some h k e =
    absurd (some (run_ends run text h (sym (ap ends_in_backslash (append-nil (plain_run run ++ []) ∙ append-nil (plain_run run))) ∙ e)))
parts_end run text (x ∷ xs) [] rest n some h k e =
    absurd (false_true (sym (not_plain_end x xs n) ∙ sym (ends_append (plain_run run) x xs) ∙ sym (ap ends_in_backslash (append-nil (plain_run run ++ x ∷ xs))) ∙ e))

abbrev NoPlain : Out Read → Type 0
NoPlain (Whole v rest) = no_plain v.0 ≡ true
NoPlain (Stop f) = Unit {0}

pub quoted_so : (run : Bytes) (p : RawPart) (ps : List RawPart) → no_plain (p ∷ []) ≡ true → no_plain ps ≡ true → no_plain ((quoted_run run ++ p ∷ []) ++ ps) ≡ true
quoted_so run p ps n x = no_plain_append (quoted_run run ++ p ∷ []) ps (no_plain_append (quoted_run run) (p ∷ []) (no_plain_run run) n) x

module _ (outside : PartsAreSpelled look false) (inside : PartsAreSpelled inner true) where
  inner_so : {deep : ℕ → Bool} {len depth begun : ℕ} {fresh : Bool} {run text : Bytes} {q : Out Read} → IsInner deep len depth begun fresh run text q → NoPlain q
  inner_so (inner_open h e) = subst NoPlain (sym e) tt
  inner_so {fresh = fresh} {run = run} (inner_ends t h e) = subst NoPlain (sym e) (no_plain_last fresh run)
  inner_so (inner_byte b t (Whole v1 r1) h x e) = subst NoPlain (sym e) (inner_so x)
  inner_so (inner_byte b t (Stop f1) h x e) = subst NoPlain (sym e) tt
  inner_so {len = len} {run = run} {text = text} (inner_piece p t (Whole v1 r1) h x e) = subst NoPlain (sym e) (quoted_so run p v1.0 (piece_not_plain true p text t ((inside len text t p).0 h)) (inner_so x))
  inner_so {len = len} {run = run} {text = text} (inner_piece p t (Stop f1) h x e) = subst NoPlain (sym e) tt
  inner_so {run = run} (inner_all t (Whole v1 r1) h x e) = subst NoPlain (sym e) (quoted_so run raw.All v1.0 refl (inner_so x))
  inner_so {run = run} (inner_all t (Stop f1) h x e) = subst NoPlain (sym e) tt
  inner_so {run = run} (inner_run g ts t (Whole v1 r1) h i x e) = subst NoPlain (sym e) (quoted_so run (raw.Run _ ts true) v1.0 refl (inner_so x))
  inner_so {run = run} (inner_run g ts t (Stop f1) h i x e) = subst NoPlain (sym e) tt
  inner_so (inner_wrong f h e) = subst NoPlain (sym e) tt
  inner_so (inner_bad_run g f h i e) = subst NoPlain (sym e) tt

  word_so : {deep : ℕ → Bool} {len depth : ℕ} {run text : Bytes} {q : Out Read} → IsWord deep len depth run text q → EndsSo run text q
  word_so {run = run} {text = text} (word_ends h e) = subst (EndsSo run text) (sym e) (run_ends run text)
  word_so {len = len} {run = run} {text = text} (word_byte b t (Whole v1 r1) h x e) = subst (EndsSo run text) (sym e) (λ k f. word_so x (λ g. subst LastBack h (word_last len text) (sym (last_of run b) ∙ g)) f)
  word_so {len = len} {run = run} {text = text} (word_byte b t (Stop f1) h x e) = subst (EndsSo run text) (sym e) tt
  word_so {len = len} {run = run} {text = text} (word_piece p t (Whole v1 r1) h x e) = subst (EndsSo run text) (sym e) (λ k f. parts_end run text (p ∷ []) v1.0 r1 (piece_not_plain false p text t ((outside len text t p).0 h)) (not_end len text _ h (λ g. cc g)) k (word_so x (λ g. absurd (false_true g))) f)
  word_so {len = len} {run = run} {text = text} (word_piece p t (Stop f1) h x e) = subst (EndsSo run text) (sym e) tt
  word_so {len = len} {run = run} {text = text} (word_all t (Whole v1 r1) h x e) = subst (EndsSo run text) (sym e) (λ k f. parts_end run text (raw.All ∷ []) v1.0 r1 refl (not_end len text _ h (λ g. cc g)) k (word_so x (λ g. absurd (false_true g))) f)
  word_so {len = len} {run = run} {text = text} (word_all t (Stop f1) h x e) = subst (EndsSo run text) (sym e) tt
  word_so {len = len} {run = run} {text = text} (word_double g v t (Whole v1 r1) h i x e) = subst (EndsSo run text) (sym e) (λ k f. parts_end run text v.0 v1.0 r1 (inner_so i) (not_end len text _ h (λ g. cc g)) k (word_so x (λ g. absurd (false_true g))) f)
  word_so {len = len} {run = run} {text = text} (word_double g v t (Stop f1) h i x e) = subst (EndsSo run text) (sym e) tt
  word_so {len = len} {run = run} {text = text} (word_run g ts t (Whole v1 r1) h i x e) = subst (EndsSo run text) (sym e) (λ k f. parts_end run text (raw.Run _ ts false ∷ []) v1.0 r1 refl (not_end len text _ h (λ g. cc g)) k (word_so x (λ g. absurd (false_true g))) f)
  word_so {len = len} {run = run} {text = text} (word_run g ts t (Stop f1) h i x e) = subst (EndsSo run text) (sym e) tt
  word_so {run = run} {text = text} (word_wrong f h e) = subst (EndsSo run text) (sym e) tt
  word_so {run = run} {text = text} (word_bad_double g f h i e) = subst (EndsSo run text) (sym e) tt
  word_so {run = run} {text = text} (word_bad_run g f h i e) = subst (EndsSo run text) (sym e) tt

  -- behind a word that ends in a plain backslash the text ends
  pub last_word : {deep : ℕ → Bool} {len depth : ℕ} {text rest : Bytes} (v : Read) → IsWord deep len depth [] text (Whole v rest) → ends_in_backslash v.0 ≡ true → rest ≡ []
  last_word v w e = word_so w (λ f. absurd (false_true f)) e

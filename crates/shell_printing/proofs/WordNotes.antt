-- What is looked for once a word is whole goes by the word's parts: in every text of one word the same is found.
use Rattle.std.proofs.Common.{◌≡◌, ℕ, Bool, true, false, if◌then◌else◌, ◌&&◌, ◌||◌, nat_eq, not, List, [], ◌∷◌, ◌++◌, append-nil, append_assoc, Option, Some, None, refl, sym, ap, ◌∙◌, subst}
use Rattle.shell_lexer.specs.declared.token.RawPart.{RawPart}
use Rattle.shell_lexer.specs.declared.token.RawPart.TheVariants as raw
use Rattle.token_laws.specs.Laws.{PartsAreSpelled}
use Rattle.shell_lexer.specs.Late.{first_all, tilde, has_list, brace, is_plainly}
use Rattle.shell_lexer.specs.Parts.{look, inner}
use Rattle.token_laws.specs.PrintedLaws.{holds_no_all}
use Rattle.shell_lexer.specs.Reading.{Out, Whole, Stop, Read, plain_run, quoted_run, last_run, IsWord, word_ends, word_byte, word_piece, word_all, word_double, word_run, word_wrong, word_bad_double, word_bad_run, IsInner, inner_open, inner_ends, inner_byte, inner_piece, inner_all, inner_run, inner_wrong, inner_bad_run}
use Rattle.shell_lexer.specs.Text.{Bytes, offset}
use Rattle.shell_printing.proofs.Backs.{false_true}
use Rattle.shell_printing.proofs.CutEnds.{no_plain_last, no_plain, piece_not_plain, quoted_so as not_plain_behind}
use Rattle.token_laws.proofs.PrintedNotes.{run_is, is_none, tilde_run, list_run, brace_run, is_nil}
use Rattle.token_laws.proofs.PrintedWords.{some_part, some_behind}

-- ---- what is looked for, by the parts

abbrev pub no_tilde : List RawPart → Bool → Bool
no_tilde [] may = true
no_tilde (raw.Plain w ∷ ps) may = tilde_run may w (no_tilde ps)
no_tilde (_ ∷ ps) may = no_tilde ps false

abbrev pub list_in : List RawPart → Bool → Bool
list_in [] dot = false
list_in (raw.Plain w ∷ ps) dot = list_run dot w (list_in ps)
list_in (_ ∷ ps) dot = list_in ps false

abbrev pub no_brace : List RawPart → Bool
no_brace [] = true
no_brace (raw.Plain w ∷ ps) = brace_run w (no_brace ps) (list_in ps)
no_brace (_ ∷ ps) = no_brace ps

abbrev pub are_plainly : List RawPart → Bytes → Bool
are_plainly [] cs = is_nil cs
are_plainly (raw.Plain w ∷ ps) cs = run_is cs w (are_plainly ps)
are_plainly (_ ∷ ps) cs = false

-- ---- parts that are not plain

some_last : (run : Bytes) → some_part (last_run true run) ≡ true
some_last [] = refl
some_last (b ∷ run) = refl

no_all_right : (xs ys : List RawPart) → holds_no_all (xs ++ ys) ≡ true → holds_no_all ys ≡ true
no_all_right [] ys e = e
no_all_right (raw.All ∷ xs) ys e = absurd (false_true e)
no_all_right (_ ∷ xs) ys e = no_all_right xs ys e

all_inside : (run : Bytes) (ps : List RawPart) → holds_no_all ((quoted_run run ++ raw.All ∷ []) ++ ps) ≡ true → ⊥
all_inside [] ps e = false_true e
all_inside (b ∷ run) ps e = false_true e

-- parts that are not plain before others
others_tilde : (xs ps : List RawPart) → no_plain xs ≡ true → some_part xs ≡ true → (may : Bool) → no_tilde (xs ++ ps) may ≡ no_tilde ps false
others_tilde [] ps e f may = absurd (false_true f)
others_tilde (raw.Plain w ∷ xs) ps e f may = absurd (false_true e)
others_tilde (_ ∷ []) ps e f may = refl
others_tilde (_ ∷ y ∷ xs) ps e f may = others_tilde (y ∷ xs) ps e refl false

others_list : (xs ps : List RawPart) → no_plain xs ≡ true → some_part xs ≡ true → (dot : Bool) → list_in (xs ++ ps) dot ≡ list_in ps false
others_list [] ps e f dot = absurd (false_true f)
others_list (raw.Plain w ∷ xs) ps e f dot = absurd (false_true e)
others_list (_ ∷ []) ps e f dot = refl
others_list (_ ∷ y ∷ xs) ps e f dot = others_list (y ∷ xs) ps e refl false

others_brace : (xs ps : List RawPart) → no_plain xs ≡ true → no_brace (xs ++ ps) ≡ no_brace ps
others_brace [] ps e = refl
others_brace (raw.Plain w ∷ xs) ps e = absurd (false_true e)
others_brace (_ ∷ xs) ps e = others_brace xs ps e

others_plainly : (xs ps : List RawPart) → no_plain xs ≡ true → some_part xs ≡ true → (cs : Bytes) → are_plainly (xs ++ ps) cs ≡ false
others_plainly [] ps e f cs = absurd (false_true f)
others_plainly (raw.Plain w ∷ xs) ps e f cs = absurd (false_true e)
others_plainly (_ ∷ xs) ps e f cs = refl

-- ---- what stands in double quotes

split : (P : Bytes → Type 0) → P [] → ((c : ℕ) (cs : Bytes) → P (c ∷ cs)) → (cs : Bytes) → P cs
split P p q [] = p
split P p q (c ∷ cs) = q c cs

abbrev InnerSays : Out Read → Type 0
InnerSays (Whole v rest) =
    (no_plain v.0 ≡ true) × ((ms : _)
    → (((may : Bool) → tilde may ms ≡ tilde false ms) → (may : Bool) → tilde may (v.1 ++ ms) ≡ tilde false ms)
    × (((dot : Bool) → has_list dot ms ≡ has_list false ms) → (dot : Bool) → has_list dot (v.1 ++ ms) ≡ has_list false ms)
    × (brace (v.1 ++ ms) ≡ brace ms)
    × (((cs : Bytes) → is_plainly cs ms ≡ false) → (cs : Bytes) → is_plainly cs (v.1 ++ ms) ≡ false)
    × (holds_no_all v.0 ≡ true → first_all ms ≡ None → first_all (v.1 ++ ms) ≡ None))
InnerSays (Stop f) = Unit {0}

abbrev pub InnerSome : Bool → Out Read → Type 0
InnerSome fresh (Whole v rest) = fresh ≡ true → some_part v.0 ≡ true
InnerSome fresh (Stop f) = Unit {0}

module _ (outside : PartsAreSpelled look false) (inside : PartsAreSpelled inner true) where
  pub inner_some : {deep : ℕ → Bool} {len depth begun : ℕ} {fresh : Bool} {run text : Bytes} {q : Out Read} → IsInner deep len depth begun fresh run text q → InnerSome fresh q
  inner_some {fresh = fresh} (inner_open h e) = subst (InnerSome fresh) (sym e) tt
  inner_some {fresh = true} {run = run} (inner_ends t h e) = subst (InnerSome true) (sym e) (λ f. some_last run)
  inner_some {fresh = false} {run = run} (inner_ends t h e) = subst (InnerSome false) (sym e) (λ f. absurd (false_true f))
  inner_some {fresh = fresh} (inner_byte b t (Whole v1 r1) h x e) = subst (InnerSome fresh) (sym e) (inner_some x)
  inner_some {fresh = fresh} (inner_byte b t (Stop f) h x e) = subst (InnerSome fresh) (sym e) tt
  inner_some {fresh = fresh} {run = run} (inner_piece p t (Whole v1 r1) h x e) = subst (InnerSome fresh) (sym e) (λ f. some_behind run p v1.0)
  inner_some {fresh = fresh} (inner_piece p t (Stop f) h x e) = subst (InnerSome fresh) (sym e) tt
  inner_some {fresh = fresh} {run = run} (inner_all t (Whole v1 r1) h x e) = subst (InnerSome fresh) (sym e) (λ f. some_behind run raw.All v1.0)
  inner_some {fresh = fresh} (inner_all t (Stop f) h x e) = subst (InnerSome fresh) (sym e) tt
  inner_some {fresh = fresh} {run = run} (inner_run g ts t (Whole v1 r1) h i x e) = subst (InnerSome fresh) (sym e) (λ f. some_behind run (raw.Run _ ts true) v1.0)
  inner_some {fresh = fresh} (inner_run g ts t (Stop f) h i x e) = subst (InnerSome fresh) (sym e) tt
  inner_some {fresh = fresh} (inner_wrong f h e) = subst (InnerSome fresh) (sym e) tt
  inner_some {fresh = fresh} (inner_bad_run g f h i e) = subst (InnerSome fresh) (sym e) tt

  inner_says : {deep : ℕ → Bool} {len depth begun : ℕ} {fresh : Bool} {run text : Bytes} {q : Out Read} → IsInner deep len depth begun fresh run text q → InnerSays q
  inner_says (inner_open h e) = subst InnerSays (sym e) tt
  inner_says {fresh = fresh} {run = run} (inner_ends t h e) = subst InnerSays (sym e) (no_plain_last fresh run, λ ms. (λ p may. p may, λ p dot. p dot, refl, λ p cs. p cs, λ a f. f))
  inner_says {len = len} {run = run} {text = text} (inner_byte b t (Whole v1 r1) h x e) =
      let m = inner_says x in
      subst InnerSays (sym e) (m.0, λ ms. let k = m.1 ms in (λ p may. k.0 p false, λ p dot. k.1 p false, k.2, λ p. split (λ cs. is_plainly cs _ ≡ false) refl (λ c cs. refl), λ a f. k.4 a f))
  inner_says (inner_byte b t (Stop f) h x e) = subst InnerSays (sym e) tt
  inner_says {len = len} {run = run} {text = text} (inner_piece p t (Whole v1 r1) h x e) =
      let m = inner_says x in
      subst InnerSays (sym e) (not_plain_behind run p v1.0 (piece_not_plain true p text t ((inside len text t p).0 h)) m.0, λ ms. let k = m.1 ms in (λ p may. k.0 p false, λ p dot. k.1 p false, k.2, λ p. split (λ cs. is_plainly cs _ ≡ false) refl (λ c cs. refl), λ a f. k.4 (no_all_right (quoted_run run ++ p ∷ []) v1.0 a) f))
  inner_says (inner_piece p t (Stop f) h x e) = subst InnerSays (sym e) tt
  inner_says {len = len} {run = run} {text = text} (inner_all t (Whole v1 r1) h x e) =
      let m = inner_says x in
      subst InnerSays (sym e) (not_plain_behind run raw.All v1.0 refl m.0, λ ms. let k = m.1 ms in (λ p may. k.0 p false, λ p dot. k.1 p false, k.2, λ p. split (λ cs. is_plainly cs _ ≡ false) refl (λ c cs. refl), λ a f. absurd (all_inside run v1.0 a)))
  inner_says (inner_all t (Stop f) h x e) = subst InnerSays (sym e) tt
  inner_says {len = len} {run = run} {text = text} (inner_run g ts t (Whole v1 r1) h i x e) =
      let m = inner_says x in
      subst InnerSays (sym e) (not_plain_behind run (raw.Run _ ts true) v1.0 refl m.0, λ ms. let k = m.1 ms in (λ p may. k.0 p false, λ p dot. k.1 p false, k.2, λ p. split (λ cs. is_plainly cs _ ≡ false) refl (λ c cs. refl), λ a f. k.4 (no_all_right (quoted_run run ++ raw.Run _ ts true ∷ []) v1.0 a) f))
  inner_says (inner_run g ts t (Stop f) h i x e) = subst InnerSays (sym e) tt
  inner_says (inner_wrong f h e) = subst InnerSays (sym e) tt
  inner_says (inner_bad_run g f h i e) = subst InnerSays (sym e) tt

  -- ---- words

  -- these are what is looked for in a word of these parts
  abbrev pub Says : List RawPart → Read → Type 0
  Says ps v =
      ((may : Bool) → is_none (tilde may v.1) ≡ no_tilde ps may) × ((dot : Bool) → has_list dot v.1 ≡ list_in ps dot) × (is_none (brace v.1) ≡ no_brace ps) × ((cs : Bytes) → is_plainly cs v.1 ≡ are_plainly ps cs)
      × (holds_no_all ps ≡ true → first_all v.1 ≡ None)

  -- behind a plain run that has bytes, of which nothing is said, the run goes on
  record PlainSays (run : Bytes) (v : Read) : Type 0 where
    pub bytes : Bytes
    pub others : List RawPart
    pub parts : v.0 ≡ raw.Plain (run ++ bytes) ∷ others
    pub says : Says (raw.Plain bytes ∷ others) v

  abbrev WordSays : Bytes → Out Read → Type 0
  WordSays [] (Whole v rest) = Says v.0 v
  WordSays (b ∷ run) (Whole v rest) = PlainSays (b ∷ run) v
  WordSays run (Stop f) = Unit {0}

  stop_says : (run : Bytes) (f : _) → WordSays run (Stop f)
  stop_says [] f = tt
  stop_says (b ∷ run) f = tt

  end_says : (run rest : Bytes) → WordSays run (Whole (plain_run run, []) rest)
  end_says [] rest = (λ may. refl, λ dot. refl, refl, split (λ cs. is_plainly cs [] ≡ is_nil cs) refl (λ c cs. refl), λ a. refl)
  end_says (b ∷ run) rest = record {
    bytes = [];
    others = [];
    parts = ap (λ w. raw.Plain w ∷ []) (sym (append-nil (b ∷ run)));
    says = (λ may. refl, λ dot. refl, refl, split (λ cs. is_plainly cs [] ≡ is_nil cs) refl (λ c cs. refl), λ a. refl);
  }

  none_if : {A : Type 0} (t : Bool) (x : A) (o : Option A) (b : Bool) → is_none o ≡ b → is_none (if t then Some x else o) ≡ (if t then false else b)
  none_if true x o b e = refl
  none_if false x o b e = e

  none_brace : {A : Type 0} (t hl l : Bool) (x : A) (o : Option A) (b : Bool) → hl ≡ l → is_none o ≡ b → is_none (if t then (if hl then Some x else None) else o) ≡ (if t then not l else b)
  none_brace true true l x o b f e = ap not f
  none_brace true false l x o b f e = ap not f
  none_brace false hl l x o b f e = e

  no_all_left : (xs ys : List RawPart) → holds_no_all (xs ++ ys) ≡ true → holds_no_all xs ≡ true
  no_all_left [] ys e = refl
  no_all_left (raw.All ∷ xs) ys e = absurd (false_true e)
  no_all_left (_ ∷ xs) ys e = no_all_left xs ys e

  -- other parts before those of the rest
  parts_say_gap : (xs : List RawPart) (v w : Read) → no_plain xs ≡ true → some_part xs ≡ true → Says v.0 v
      → ((may : Bool) → tilde may w.1 ≡ tilde false v.1) → ((dot : Bool) → has_list dot w.1 ≡ has_list false v.1) → brace w.1 ≡ brace v.1 → ((cs : Bytes) → is_plainly cs w.1 ≡ false) → (holds_no_all (xs ++ v.0) ≡ true → first_all v.1 ≡ None → first_all w.1 ≡ None)
      → Says (xs ++ v.0) w
  parts_say_gap xs v w n some s t l b p a = (
    λ may. ap is_none (t may) ∙ s.0 false ∙ sym (others_tilde xs v.0 n some may),
    λ dot. l dot ∙ s.1 false ∙ sym (others_list xs v.0 n some dot),
    ap is_none b ∙ s.2 ∙ sym (others_brace xs v.0 n),
    λ cs. p cs ∙ sym (others_plainly xs v.0 n some cs),
    λ h. a h (s.4 (no_all_right xs v.0 h)),
  )

  -- the same behind a plain run
  behind_run : (run : Bytes) (xs : List RawPart) (v w : Read) (rest : Bytes) → w.0 ≡ (plain_run run ++ xs) ++ v.0 → Says (xs ++ v.0) w → WordSays run (Whole w rest)
  behind_run [] xs v w rest e s = subst (λ ps. Says ps w) (sym e) s
  behind_run (b ∷ run) xs v w rest e s = record {
    bytes = [];
    others = xs ++ v.0;
    parts = e ∙ ap (λ r. raw.Plain r ∷ (xs ++ v.0)) (sym (append-nil (b ∷ run)));
    says = s;
  }

  word_says : {deep : ℕ → Bool} {len depth : ℕ} {run text : Bytes} {q : Out Read} → IsWord deep len depth run text q → WordSays run q
  word_says {run = run} {text = text} (word_ends h e) = subst (WordSays run) (sym e) (end_says run text)
  word_says {run = run} (word_byte b t (Stop f) h x e) = subst (WordSays run) (sym e) (stop_says run f)
  word_says {run = []} (word_byte b t (Whole v1 r1) h x e) =
      let k = word_says x in
      subst (WordSays []) (sym e) (
        λ may. none_if (may && nat_eq b 126) _ (tilde (nat_eq b 61 || nat_eq b 58) v1.1) (tilde_run (nat_eq b 61 || nat_eq b 58) k.bytes (no_tilde k.others)) (k.says.0 (nat_eq b 61 || nat_eq b 58)) ∙ ap (λ ps. no_tilde ps may) (sym k.parts),
        λ dot. ap (λ l. (nat_eq b 44 || (dot && nat_eq b 46)) || l) (k.says.1 (nat_eq b 46)) ∙ ap (λ ps. list_in ps dot) (sym k.parts),
        none_brace (nat_eq b 123) (has_list false v1.1) (list_run false k.bytes (list_in k.others)) _ (brace v1.1) (brace_run k.bytes (no_brace k.others) (list_in k.others)) (k.says.1 false) k.says.2 ∙ ap no_brace (sym k.parts),
        λ cs. split (λ cs. is_plainly cs _ ≡ run_is cs (b ∷ k.bytes) (are_plainly k.others)) refl (λ c cs. ap (λ l. nat_eq b c && l) (k.says.3 cs)) cs ∙ ap (λ ps. are_plainly ps cs) (sym k.parts),
        λ h. k.says.4 (sym (ap holds_no_all k.parts) ∙ h),
      )
  word_says {run = a ∷ run} (word_byte b t (Whole v1 r1) h x e) =
      let k = word_says x in
      subst (WordSays (a ∷ run)) (sym e) (record {
        bytes = b ∷ k.bytes;
        others = k.others;
        parts = k.parts ∙ ap (λ w. raw.Plain w ∷ k.others) (append_assoc (a ∷ run) (b ∷ []) k.bytes);
        says = (
          λ may. none_if (may && nat_eq b 126) _ (tilde (nat_eq b 61 || nat_eq b 58) v1.1) (tilde_run (nat_eq b 61 || nat_eq b 58) k.bytes (no_tilde k.others)) (k.says.0 (nat_eq b 61 || nat_eq b 58)),
          λ dot. ap (λ l. (nat_eq b 44 || (dot && nat_eq b 46)) || l) (k.says.1 (nat_eq b 46)),
          none_brace (nat_eq b 123) (has_list false v1.1) (list_run false k.bytes (list_in k.others)) _ (brace v1.1) (brace_run k.bytes (no_brace k.others) (list_in k.others)) (k.says.1 false) k.says.2,
          split (λ cs. is_plainly cs _ ≡ run_is cs (b ∷ k.bytes) (are_plainly k.others)) refl (λ c cs. ap (λ l. nat_eq b c && l) (k.says.3 cs)),
          λ h. k.says.4 h,
        );
      })
  word_says {len = len} {run = run} {text = text} (word_piece p t (Whole v1 r1) h x e) =
      subst (WordSays run) (sym e) (behind_run run (p ∷ []) v1 ((plain_run run ++ (p ∷ [])) ++ v1.0, _) r1 refl (parts_say_gap (p ∷ []) v1 ((plain_run run ++ (p ∷ [])) ++ v1.0, _) (piece_not_plain false p text t ((outside len text t p).0 h)) refl (word_says x) (λ may. refl) (λ dot. refl) refl (split (λ cs. is_plainly cs _ ≡ false) refl (λ c cs. refl)) (λ h f. f)))
  word_says {run = run} (word_piece p t (Stop f) h x e) = subst (WordSays run) (sym e) (stop_says run f)
  word_says {len = len} {run = run} {text = text} (word_all t (Whole v1 r1) h x e) =
      subst (WordSays run) (sym e) (behind_run run (raw.All ∷ []) v1 ((plain_run run ++ (raw.All ∷ [])) ++ v1.0, _) r1 refl (parts_say_gap (raw.All ∷ []) v1 ((plain_run run ++ (raw.All ∷ [])) ++ v1.0, _) refl refl (word_says x) (λ may. refl) (λ dot. refl) refl (split (λ cs. is_plainly cs _ ≡ false) refl (λ c cs. refl)) (λ h f. absurd (false_true h))))
  word_says {run = run} (word_all t (Stop f) h x e) = subst (WordSays run) (sym e) (stop_says run f)
  word_says {len = len} {run = run} {text = text} (word_run g ts t (Whole v1 r1) h i x e) =
      subst (WordSays run) (sym e) (behind_run run (raw.Run (offset len text) ts false ∷ []) v1 ((plain_run run ++ (raw.Run (offset len text) ts false ∷ [])) ++ v1.0, _) r1 refl (parts_say_gap (raw.Run (offset len text) ts false ∷ []) v1 ((plain_run run ++ (raw.Run (offset len text) ts false ∷ [])) ++ v1.0, _) refl refl (word_says x) (λ may. refl) (λ dot. refl) refl (split (λ cs. is_plainly cs _ ≡ false) refl (λ c cs. refl)) (λ h f. f)))
  word_says {run = run} (word_run g ts t (Stop f) h i x e) = subst (WordSays run) (sym e) (stop_says run f)
  word_says {run = run} {text = text} (word_double g v t (Whole v1 r1) h i x e) =
      let m = inner_says i in
      let k = m.1 _ in
      subst (WordSays run) (sym e) (behind_run run v.0 v1 ((plain_run run ++ v.0) ++ v1.0, _) r1 refl (parts_say_gap v.0 v1 ((plain_run run ++ v.0) ++ v1.0, _) m.0 (inner_some i refl) (word_says x)
      (λ may. ap (tilde may) (append_assoc v.1 _ v1.1) ∙ k.0 (λ may. refl) may) (λ dot. ap (has_list dot) (append_assoc v.1 _ v1.1) ∙ k.1 (λ dot. refl) dot) (ap brace (append_assoc v.1 _ v1.1) ∙ k.2)
      (λ cs. ap (is_plainly cs) (append_assoc v.1 _ v1.1) ∙ k.3 (split (λ cs. is_plainly cs _ ≡ false) refl (λ c cs. refl)) cs)
      (λ h f. ap first_all (append_assoc v.1 _ v1.1) ∙ k.4 (no_all_left v.0 v1.0 h) f)))
  word_says {run = run} (word_double g v t (Stop f) h i x e) = subst (WordSays run) (sym e) (stop_says run f)
  word_says {run = run} (word_wrong f h e) = subst (WordSays run) (sym e) (stop_says run f)
  word_says {run = run} (word_bad_double g f h i e) = subst (WordSays run) (sym e) (stop_says run f)
  word_says {run = run} (word_bad_run g f h i e) = subst (WordSays run) (sym e) (stop_says run f)

  pub says : {deep : ℕ → Bool} {len depth : ℕ} {text rest : Bytes} (v : Read) → IsWord deep len depth [] text (Whole v rest) → Says v.0 v
  says v w = word_says w

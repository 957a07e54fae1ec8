-- What stands before a newline does not see what is behind it: the tables see in a text what they see in it with a newline and more behind it.
use Rattle.std.proofs.Common.{◌≡◌, ℕ, ◌-◌, Bool, true, false, if◌then◌else◌, ◌&&◌, ◌||◌, nat_eq, [], ◌∷◌, ◌++◌, Option, Some, None, codes, refl, sym, ap, ◌∙◌, subst}
use Rattle.shell_syntax.specs.declared.form.Form.TheVariants as form
use Rattle.shell_syntax.specs.declared.key.Key.{Key}
use Rattle.shell_syntax.specs.declared.key.Key.TheVariants.{Named, Arg, Count}
use Rattle.shell_syntax.specs.declared.redirect.Redirect.{Redirect}
use Rattle.shell_lexer.specs.declared.fault.LexFault.TheVariants.{OpenQuote, Unsupported}
use Rattle.shell_lexer.specs.declared.sight.Sign.TheVariants as sign
use Rattle.shell_lexer.specs.declared.token.RawPart.TheVariants.{Quoted, Param}
use Rattle.shell_lexer.specs.declared.byte_kind.ByteKind.{ByteKind}
use Rattle.shell_lexer.specs.declared.byte_kind.ByteKind.TheVariants as k
use Rattle.shell_lexer.specs.declared.byte_kind.RunKind.{RunKind}
use Rattle.shell_lexer.specs.declared.byte_kind.RunKind.TheVariants.{Blanks, Digits, Names, Defaults}
use Rattle.token_laws.specs.Laws.{last_is}
use Rattle.shell_lexer.specs.Text.{Bytes, kind, skip, place, tail, head_is, behind_next, behind_bytes, run, behind, passes, ends_word}
use Rattle.shell_lexer.specs.Operators.{Sight, Passed, Operator, Wrong, Word, sight, sight_at, sight_by, after_line, redirected, whole_word, null_word, copied, less, greater, numbered, numbered_by, after_digits, twice, out_to, in_from, copy_of}
use Rattle.shell_lexer.specs.Parts as parts
use Rattle.shell_lexer.specs.Parts.{Look, Ends, Byte, Piece, AllArgs, DoubleQuote, Substitution, Bad, bad_param, look, look_at, look_by, inner, inner_at, inner_by, has_quote, quote_body, behind_quote, is_escapable}
use Rattle.shell_lexer.specs.Spelling.{Stands, begins}
use Rattle.shell_lexer.proofs.Ahead.{Behind, ahead_behind, skip_behind, stands_behind}
use Rattle.shell_lexer.proofs.Cells.{if_both}
use Rattle.shell_lexer.proofs.PrintedBytes.{skip_first}
use Rattle.std.proofs.lemmas.Bool.{cond-false, cond-true, cond_both, false≢true, true≢false}
use Rattle.shell_lexer.proofs.SpelledKinds.{KindOf, kind_of}
use Rattle.shell_lexer.proofs.SpelledRuns.{IsRun, run_stands, run_is, behind_is}

-- ---- the last byte

last_tail : (b a : ℕ) (rest : Bytes) → last_is b (a ∷ rest) ≡ false → last_is b rest ≡ false
last_tail b a [] e = refl
last_tail b a (c ∷ rest) e = e

last_behind : (b : ℕ) (bytes rest : Bytes) → last_is b (bytes ++ rest) ≡ false → last_is b rest ≡ false
last_behind b [] rest e = e
last_behind b (a ∷ bytes) rest e = last_behind b bytes rest (last_tail b a (bytes ++ rest) e)

-- a newline behind the text is no joined line
abbrev pub Unjoined : Bytes → Type 0
Unjoined text = last_is 92 text ≡ false

pub unjoined_behind : (text rest : Bytes) → Behind text rest → Unjoined text → Unjoined rest
unjoined_behind text rest h e = last_behind 92 h.0 rest (ap (last_is 92) (sym h.1) ∙ e)

unjoined_skip : (text : Bytes) → Unjoined text → Unjoined (skip text)
unjoined_skip text e = unjoined_behind text (skip text) (skip_behind text) e

unjoined_run : (which : RunKind) (text : Bytes) → Unjoined text → Unjoined (behind which text)
unjoined_run which text e =
    let r : IsRun (passes which) (run which text) text (behind which text) = run_stands (passes which) (run which text) text refl in
    unjoined_behind text (behind which text) (stands_behind (run which text) text (behind which text) r.stands) e

or_map : (a b c : Bool) → (b ≡ true → c ≡ true) → (a || b) ≡ true → (a || c) ≡ true
or_map true b c h e = refl
or_map false b c h e = h e

or_rest : (a b : Bool) → a ≡ false → (a || b) ≡ true → b ≡ true
or_rest true b n e = absurd (true≢false n)
or_rest false b n e = e

module _ (after : Bytes) where
  -- ---- bytes that count

  pub skip_before : (text : Bytes) → Unjoined text → skip (text ++ 10 ∷ after) ≡ skip text ++ 10 ∷ after
  skip_before [] e = skip_first 10 after refl
  skip_before (a ∷ []) e = skip_first a (10 ∷ after) e
  skip_before (a ∷ c ∷ rest) e =
      if_both (λ (t : Bytes). t ++ 10 ∷ after) (nat_eq a 92 && nat_eq c 10) (skip (rest ++ 10 ∷ after)) (a ∷ c ∷ (rest ++ 10 ∷ after)) (skip rest) (a ∷ c ∷ rest)
      (λ _. skip_before rest (last_tail 92 c rest e)) (λ _. refl)

  stands_before : (bytes text rest : Bytes) → Stands bytes text rest → Unjoined text → Stands bytes (text ++ 10 ∷ after) (rest ++ 10 ∷ after)
  stands_before [] text rest h e = ap (λ (t : Bytes). t ++ 10 ∷ after) h
  stands_before (c ∷ bytes) text rest h e =
      let left : Unjoined h.0 = unjoined_behind text h.0 (ahead_behind text h.0 (c, [], h.1)) e in
      (h.0 ++ 10 ∷ after, skip_before text e ∙ ap (λ (t : Bytes). t ++ 10 ∷ after) h.1, stands_before bytes h.0 rest h.2 left)

  begins_before : (test : ℕ → Bool) (t : Bytes) → test 10 ≡ false → begins test t ≡ false → begins test (t ++ 10 ∷ after) ≡ false
  begins_before test [] n e = n
  begins_before test (c ∷ t) n e = e

  run_before : (which : RunKind) (text : Bytes) → passes which 10 ≡ false → Unjoined text → IsRun (passes which) (run which text) (text ++ 10 ∷ after) (behind which text ++ 10 ∷ after)
  run_before which text n e =
      let r : IsRun (passes which) (run which text) text (behind which text) = run_stands (passes which) (run which text) text refl in
      record {
        stands = stands_before (run which text) text (behind which text) r.stands e;
        pass = r.pass;
        longest = ap (begins (passes which)) (skip_before (behind which text) (unjoined_run which text e)) ∙ begins_before (passes which) (skip (behind which text)) n r.longest;
      }

  run_same : (which : RunKind) (text : Bytes) → passes which 10 ≡ false → Unjoined text → run which (text ++ 10 ∷ after) ≡ run which text
  run_same which text n e = run_is (passes which) (run which text) (text ++ 10 ∷ after) (behind which text ++ 10 ∷ after) (run_before which text n e)

  behind_same : (which : RunKind) (text : Bytes) → passes which 10 ≡ false → Unjoined text → behind which (text ++ 10 ∷ after) ≡ behind which text ++ 10 ∷ after
  behind_same which text n e = behind_is (passes which) (run which text) (text ++ 10 ∷ after) (behind which text ++ 10 ∷ after) (run_before which text n e)

  -- a run, and the next byte that counts behind it
  run_case : (Q : Bytes → Bytes → Type 0) (which : RunKind) (text : Bytes) → passes which 10 ≡ false → Unjoined text
      → Q (run which text) (skip (behind which text) ++ 10 ∷ after) → Q (run which (text ++ 10 ∷ after)) (skip (behind which (text ++ 10 ∷ after)))
  run_case Q which text n e h =
      subst (λ r. Q r (skip (behind which (text ++ 10 ∷ after)))) (sym (run_same which text n e))
      (subst (Q (run which text)) (sym (ap skip (behind_same which text n e) ∙ skip_before (behind which text) (unjoined_run which text e))) h)

  -- ---- where a token may begin

  -- the same is seen there; nothing is said of the text's end and of forms that are not supported
  abbrev pub KeepsSight : Sight → Sight → Type 0
  KeepsSight (Passed rest) s = s ≡ Passed (rest ++ 10 ∷ after)
  KeepsSight (Operator which rest) s = s ≡ Operator which (rest ++ 10 ∷ after)
  KeepsSight Word s = s ≡ Word
  KeepsSight _ s = Unit {0}

  -- the same rest is found, where one is
  abbrev KeepsRest : Option Bytes → Option Bytes → Type 0
  KeepsRest None o = Unit {0}
  KeepsRest (Some rest) o = (o ≡ Some (rest ++ 10 ∷ after)) × Unjoined rest

  if_sights : (x : Bool) (s t u v : Sight) → KeepsSight s u → KeepsSight t v → KeepsSight (if x then s else t) (if x then u else v)
  if_sights true s t u v h g = h
  if_sights false s t u v h g = g

  if_rests : (x : Bool) (o p : Option Bytes) → KeepsRest o p → KeepsRest (if x then o else None) (if x then p else None)
  if_rests true o p h = h
  if_rests false o p h = tt

  next_keeps : (c : ℕ) (more : Bytes → Option Bytes) (t : Bytes) → Unjoined t → ((u : Bytes) → Unjoined u → KeepsRest (more u) (more (u ++ 10 ∷ after)))
      → KeepsRest (behind_next c more t) (behind_next c more (t ++ 10 ∷ after))
  next_keeps c more [] e again = tt
  next_keeps c more (a ∷ t) e again = if_rests (nat_eq a c) (more t) (more (t ++ 10 ∷ after)) (again t (last_tail 92 a t e))

  bytes_keep : (bytes text : Bytes) → Unjoined text → KeepsRest (behind_bytes bytes text) (behind_bytes bytes (text ++ 10 ∷ after))
  bytes_keep [] text e = (refl, e)
  bytes_keep (c ∷ bytes) text e =
      subst (λ t. KeepsRest (behind_next c (behind_bytes bytes) (skip text)) (behind_next c (behind_bytes bytes) t)) (sym (skip_before text e))
      (next_keeps c (behind_bytes bytes) (skip text) (unjoined_skip text e) (λ u h. bytes_keep bytes u h))

  ends_before : (t : Bytes) → ends_word t ≡ true → ends_word (t ++ 10 ∷ after) ≡ true
  ends_before [] e = refl
  ends_before (c ∷ t) e = e

  whole_keeps : (rest : Bytes) → Unjoined rest → KeepsRest (whole_word (Some rest)) (whole_word (Some (rest ++ 10 ∷ after)))
  whole_keeps rest e =
      cond_both (ends_word (skip rest)) (Some rest) None (λ o. KeepsRest o (whole_word (Some (rest ++ 10 ∷ after))))
      (λ is. (cond-true (ends_word (skip (rest ++ 10 ∷ after))) (Some (rest ++ 10 ∷ after)) None (ap ends_word (skip_before rest e) ∙ ends_before (skip rest) is), e)) (λ _. tt)

  words_keep : (o p : Option Bytes) → KeepsRest o p → KeepsRest (whole_word o) (whole_word p)
  words_keep None p h = tt
  words_keep (Some rest) p h = subst (λ p. KeepsRest (whole_word (Some rest)) (whole_word p)) (sym h.0) (whole_keeps rest h.1)

  null_keeps : (text : Bytes) → Unjoined text → KeepsRest (null_word text) (null_word (text ++ 10 ∷ after))
  null_keeps text e =
      words_keep (behind_bytes (codes "/dev/null") (behind Blanks text)) (behind_bytes (codes "/dev/null") (behind Blanks (text ++ 10 ∷ after)))
      (subst (λ t. KeepsRest (behind_bytes (codes "/dev/null") (behind Blanks text)) (behind_bytes (codes "/dev/null") t)) (sym (behind_same Blanks text refl e))
      (bytes_keep (codes "/dev/null") (behind Blanks text) (unjoined_run Blanks text e)))

  twice_keeps : (c : ℕ) (t : Bytes) (longer other : Bytes → Sight) (s u : Sight) → nat_eq 10 c ≡ false → Unjoined t
      → ((v : Bytes) → Unjoined v → KeepsSight (longer v) (other (v ++ 10 ∷ after))) → KeepsSight s u
      → KeepsSight (twice c t (longer (tail t)) s) (twice c (t ++ 10 ∷ after) (other (tail (t ++ 10 ∷ after))) u)
  twice_keeps c [] longer other s u n e h g = subst (KeepsSight s) (sym (cond-false (nat_eq 10 c) (other after) u n)) g
  twice_keeps c (a ∷ t) longer other s u n e h g = if_sights (nat_eq a c) (longer t) s (other (t ++ 10 ∷ after)) u (h t (last_tail 92 a t e)) g

  -- the same by the next byte that counts
  next_twice : (c : ℕ) (rest : Bytes) (longer other : Bytes → Sight) (s u : Sight) → nat_eq 10 c ≡ false → Unjoined rest
      → ((v : Bytes) → Unjoined v → KeepsSight (longer v) (other (v ++ 10 ∷ after))) → KeepsSight s u
      → KeepsSight (twice c (skip rest) (longer (tail (skip rest))) s) (twice c (skip (rest ++ 10 ∷ after)) (other (tail (skip (rest ++ 10 ∷ after)))) u)
  next_twice c rest longer other s u n e h g =
      subst (λ t. KeepsSight (twice c (skip rest) (longer (tail (skip rest))) s) (twice c t (other (tail t)) u)) (sym (skip_before rest e))
      (twice_keeps c (skip rest) longer other s u n (unjoined_skip rest e) h g)

  line_before : (t : Bytes) → after_line (t ++ 10 ∷ after) ≡ after_line t ++ 10 ∷ after
  line_before [] = refl
  line_before (c ∷ t) = if_both (λ (t : Bytes). t ++ 10 ∷ after) (nat_eq c 10) (c ∷ (t ++ 10 ∷ after)) (after_line (t ++ 10 ∷ after)) (c ∷ t) (after_line t) (λ _. refl) (λ _. line_before t)

  module _ (at to : ℕ) where
    redirected_keeps : (which : Option Redirect) (o p : Option Bytes) → KeepsRest o p → KeepsSight (redirected at which o) (redirected to which p)
    redirected_keeps None o p h = tt
    redirected_keeps (Some which) None p h = tt
    redirected_keeps (Some which) (Some rest) p h = ap (redirected to (Some which)) h.0

    copied_keeps : (number t : Bytes) → Unjoined t → KeepsSight (copied at number t) (copied to number (t ++ 10 ∷ after))
    copied_keeps number [] e = tt
    copied_keeps number (c ∷ t) e = redirected_keeps (copy_of number c) (whole_word (Some t)) (whole_word (Some (t ++ 10 ∷ after))) (whole_keeps t (last_tail 92 c t e))

    less_keeps : (number rest : Bytes) → Unjoined rest → KeepsSight (less at number rest) (less to number (rest ++ 10 ∷ after))
    less_keeps number rest e =
        next_twice 60 rest (λ v. Wrong (Unsupported form.Heredoc at)) (λ v. Wrong (Unsupported form.Heredoc to))
        (redirected at (in_from number) (null_word rest)) (redirected to (in_from number) (null_word (rest ++ 10 ∷ after))) refl e (λ v h. tt)
        (redirected_keeps (in_from number) (null_word rest) (null_word (rest ++ 10 ∷ after)) (null_keeps rest e))

    out_keeps : (number rest : Bytes) → Unjoined rest → KeepsSight (redirected at (out_to number) (null_word rest)) (redirected to (out_to number) (null_word (rest ++ 10 ∷ after)))
    out_keeps number rest e = redirected_keeps (out_to number) (null_word rest) (null_word (rest ++ 10 ∷ after)) (null_keeps rest e)

    copy_keeps : (number rest : Bytes) → Unjoined rest → KeepsSight (copied at number (skip rest)) (copied to number (skip (rest ++ 10 ∷ after)))
    copy_keeps number rest e =
        subst (λ t. KeepsSight (copied at number (skip rest)) (copied to number t)) (sym (skip_before rest e)) (copied_keeps number (skip rest) (unjoined_skip rest e))

    greater_keeps : (number rest : Bytes) → Unjoined rest → KeepsSight (greater at number rest) (greater to number (rest ++ 10 ∷ after))
    greater_keeps number rest e =
        let alone = out_keeps number rest e in
        let copy = next_twice 38 rest (λ v. copied at number (skip v)) (λ v. copied to number (skip v))
        (redirected at (out_to number) (null_word rest)) (redirected to (out_to number) (null_word (rest ++ 10 ∷ after))) refl e (λ v h. copy_keeps number v h) alone in
        next_twice 62 rest (λ v. redirected at (out_to number) (null_word v)) (λ v. redirected to (out_to number) (null_word v))
        (twice 38 (skip rest) (copied at number (skip (tail (skip rest)))) (redirected at (out_to number) (null_word rest)))
        (twice 38 (skip (rest ++ 10 ∷ after)) (copied to number (skip (tail (skip (rest ++ 10 ∷ after))))) (redirected to (out_to number) (null_word (rest ++ 10 ∷ after))))
        refl e (λ v h. out_keeps number v h) copy

    numbered_by_keeps : (number : Bytes) (it : ByteKind) (rest : Bytes) → Unjoined rest → KeepsSight (numbered_by at number it rest) (numbered_by to number it (rest ++ 10 ∷ after))
    numbered_by_keeps number k.Less rest e = less_keeps number rest e
    numbered_by_keeps number k.Greater rest e = greater_keeps number rest e
    numbered_by_keeps number _ rest e = refl

  module _ (len total : ℕ) where
    numbered_keeps : (number t : Bytes) → Unjoined t → KeepsSight (numbered len number t) (numbered total number (t ++ 10 ∷ after))
    numbered_keeps number [] e = refl
    numbered_keeps number (c ∷ t) e = numbered_by_keeps (place len (c ∷ t)) (place total (c ∷ (t ++ 10 ∷ after))) number (kind c) t (last_tail 92 c t e)

    digits_keep : (text : Bytes) → Unjoined text → KeepsSight (after_digits len text) (after_digits total (text ++ 10 ∷ after))
    digits_keep text e =
        run_case (λ r t. KeepsSight (numbered len (run Digits text) (skip (behind Digits text))) (numbered total r t)) Digits text refl e
        (numbered_keeps (run Digits text) (skip (behind Digits text)) (unjoined_skip (behind Digits text) (unjoined_run Digits text e)))

    by_keeps : (at to c : ℕ) (it : ByteKind) (rest : Bytes) → Unjoined (c ∷ rest) → KeepsSight (sight_by len at c it rest) (sight_by total to c it (rest ++ 10 ∷ after))
    by_keeps at to c k.Hash rest e = ap Passed (line_before rest)
    by_keeps at to c k.Semi rest e =
        next_twice 59 rest (Operator sign.DoubleSemi) (Operator sign.DoubleSemi) (Operator sign.Semi rest) (Operator sign.Semi (rest ++ 10 ∷ after)) refl (last_tail 92 c rest e) (λ v h. refl) refl
    by_keeps at to c k.Amp rest e =
        next_twice 38 rest (Operator sign.AndAnd) (Operator sign.AndAnd) (Wrong (Unsupported form.Background at)) (Wrong (Unsupported form.Background to)) refl (last_tail 92 c rest e) (λ v h. refl) tt
    by_keeps at to c k.Bar rest e =
        next_twice 124 rest (Operator sign.OrOr) (Operator sign.OrOr) (Operator sign.Bar rest) (Operator sign.Bar (rest ++ 10 ∷ after)) refl (last_tail 92 c rest e) (λ v h. refl) refl
    by_keeps at to c k.Open rest e =
        next_twice 40 rest (λ v. Wrong (Unsupported form.Arith at)) (λ v. Wrong (Unsupported form.Arith to)) (Operator sign.LeftParen rest) (Operator sign.LeftParen (rest ++ 10 ∷ after)) refl (last_tail 92 c rest e) (λ v h. tt) refl
    by_keeps at to c k.Less rest e = less_keeps at to [] rest (last_tail 92 c rest e)
    by_keeps at to c k.Greater rest e = greater_keeps at to [] rest (last_tail 92 c rest e)
    by_keeps at to c k.Digit rest e = digits_keep (c ∷ rest) e
    by_keeps at to c _ rest e = refl

    at_keeps : (at to : ℕ) (t : Bytes) → Unjoined t → KeepsSight (sight_at len at t) (sight_at total to (t ++ 10 ∷ after))
    at_keeps at to [] e = tt
    at_keeps at to (c ∷ t) e = by_keeps at to c (kind c) t e

    pub sight_before : (text : Bytes) (s : Sight) → sight len text ≡ s → Unjoined text → KeepsSight s (sight total (text ++ 10 ∷ after))
    sight_before text s h e =
        subst (λ s. KeepsSight s (sight total (text ++ 10 ∷ after))) h
        (subst (λ t. KeepsSight (sight len text) (sight_at total (place total t) t)) (sym (skip_before text e))
        (at_keeps (place len (skip text)) (place total (skip text ++ 10 ∷ after)) (skip text) (unjoined_skip text e)))

  -- ---- in a word, and in double quotes

  -- the same is seen there; nothing is said of what is no whole part or not supported
  abbrev pub KeepsLook : Look → Look → Type 0
  KeepsLook Ends l = l ≡ Ends
  KeepsLook (Byte c rest) l = l ≡ Byte c (rest ++ 10 ∷ after)
  KeepsLook (Piece p rest) l = l ≡ Piece p (rest ++ 10 ∷ after)
  KeepsLook (AllArgs rest) l = l ≡ AllArgs (rest ++ 10 ∷ after)
  KeepsLook (DoubleQuote rest) l = l ≡ DoubleQuote (rest ++ 10 ∷ after)
  KeepsLook (Substitution rest) l = l ≡ Substitution (rest ++ 10 ∷ after)
  KeepsLook (Bad fault) l = Unit {0}

  if_looks : (x : Bool) (s t u v : Look) → KeepsLook s u → KeepsLook t v → KeepsLook (if x then s else t) (if x then u else v)
  if_looks true s t u v h g = h
  if_looks false s t u v h g = g

  named_same : (quoted : Bool) (r s t u : Bytes) → r ≡ s → t ≡ u → Piece (Param (Named r) None quoted) t ≡ Piece (Param (Named s) None quoted) u
  named_same quoted r s t u e f = rw (e, f) refl

  quoted_same : (r s t u : Bytes) → r ≡ s → t ≡ u → Piece (Quoted r) t ≡ Piece (Quoted s) u
  quoted_same r s t u e f = rw (e, f) refl

  module _ (quoted : Bool) (at to : ℕ) where
    closed_keeps : (key : Key) (default : Option Bytes) (t : Bytes) → KeepsLook (parts.closed quoted at key default t) (parts.closed quoted to key default (t ++ 10 ∷ after))
    closed_keeps key default [] = tt
    closed_keeps key default (c ∷ t) = if_looks (nat_eq c 125) (Piece (Param key default quoted) t) (bad_param at) (Piece (Param key default quoted) (t ++ 10 ∷ after)) (bad_param to) refl tt

    colon_keeps : (key : Key) (t : Bytes) → Unjoined t → KeepsLook (parts.behind_colon quoted at key t) (parts.behind_colon quoted to key (t ++ 10 ∷ after))
    colon_keeps key [] e = tt
    colon_keeps key (c ∷ t) e =
        if_looks (nat_eq c 45) (parts.closed quoted at key (Some (run Defaults t)) (skip (behind Defaults t))) (bad_param at)
        (parts.closed quoted to key (Some (run Defaults (t ++ 10 ∷ after))) (skip (behind Defaults (t ++ 10 ∷ after)))) (bad_param to)
        (run_case (λ r u. KeepsLook (parts.closed quoted at key (Some (run Defaults t)) (skip (behind Defaults t))) (parts.closed quoted to key (Some r) u)) Defaults t refl (last_tail 92 c t e)
        (closed_keeps key (Some (run Defaults t)) (skip (behind Defaults t)))) tt

    key_keeps : (key : Key) (t : Bytes) → Unjoined t → KeepsLook (parts.behind_key quoted at key t) (parts.behind_key quoted to key (t ++ 10 ∷ after))
    key_keeps key [] e = tt
    key_keeps key (c ∷ t) e =
        let left = last_tail 92 c t e in
        if_looks (nat_eq c 58) (parts.behind_colon quoted at key (skip t)) (parts.closed quoted at key None (c ∷ t))
        (parts.behind_colon quoted to key (skip (t ++ 10 ∷ after))) (parts.closed quoted to key None (c ∷ (t ++ 10 ∷ after)))
        (subst (λ u. KeepsLook (parts.behind_colon quoted at key (skip t)) (parts.behind_colon quoted to key u)) (sym (skip_before t left)) (colon_keeps key (skip t) (unjoined_skip t left)))
        (closed_keeps key None (c ∷ t))

    braced_by_keeps : (c : ℕ) (it : ByteKind) (t : Bytes) → Unjoined (c ∷ t) → KeepsLook (parts.braced_by quoted at c it t) (parts.braced_by quoted to c it (t ++ 10 ∷ after))
    braced_by_keeps c k.Name t e =
        run_case (λ r u. KeepsLook (parts.behind_key quoted at (Named (run Names (c ∷ t))) (skip (behind Names (c ∷ t)))) (parts.behind_key quoted to (Named r) u)) Names (c ∷ t) refl e
        (key_keeps (Named (run Names (c ∷ t))) (skip (behind Names (c ∷ t))) (unjoined_skip (behind Names (c ∷ t)) (unjoined_run Names (c ∷ t) e)))
    braced_by_keeps c k.Digit t e =
        let left = last_tail 92 c t e in
        if_looks (nat_eq c 48) (bad_param at) (parts.behind_key quoted at (Arg (c - 48)) (skip t)) (bad_param to) (parts.behind_key quoted to (Arg (c - 48)) (skip (t ++ 10 ∷ after))) tt
        (subst (λ u. KeepsLook (parts.behind_key quoted at (Arg (c - 48)) (skip t)) (parts.behind_key quoted to (Arg (c - 48)) u)) (sym (skip_before t left)) (key_keeps (Arg (c - 48)) (skip t) (unjoined_skip t left)))
    braced_by_keeps c k.Hash t e =
        subst (λ u. KeepsLook (parts.closed quoted at Count None (skip t)) (parts.closed quoted to Count None u)) (sym (skip_before t (last_tail 92 c t e))) (closed_keeps Count None (skip t))
    braced_by_keeps c _ t e = tt

    braced_keeps : (t : Bytes) → Unjoined t → KeepsLook (parts.braced quoted at t) (parts.braced quoted to (t ++ 10 ∷ after))
    braced_keeps [] e = tt
    braced_keeps (c ∷ t) e = braced_by_keeps c (kind c) t e

    -- behind `$(`
    open_keeps : (t more : Bytes) → KeepsLook (if head_is 40 t then Bad (Unsupported form.Arith at) else Substitution more) (if head_is 40 (t ++ 10 ∷ after) then Bad (Unsupported form.Arith to) else Substitution (more ++ 10 ∷ after))
    open_keeps [] more = refl
    open_keeps (c ∷ t) more = if_looks (nat_eq c 40) (Bad (Unsupported form.Arith at)) (Substitution more) (Bad (Unsupported form.Arith to)) (Substitution (more ++ 10 ∷ after)) tt refl

    parenthesis_keeps : (more : Bytes) → Unjoined more → KeepsLook (parts.parenthesis at more) (parts.parenthesis to (more ++ 10 ∷ after))
    parenthesis_keeps more e =
        subst (λ t. KeepsLook (parts.parenthesis at more) (if head_is 40 t then Bad (Unsupported form.Arith to) else Substitution (more ++ 10 ∷ after))) (sym (skip_before more e)) (open_keeps (skip more) more)

    quote_keeps : (it : Bool) (rest : Bytes) → KeepsLook (parts.before_quote it at rest) (parts.before_quote it to (rest ++ 10 ∷ after))
    quote_keeps true rest = refl
    quote_keeps false rest = tt

    dollar_by_keeps : (rest : Bytes) (c : ℕ) (it : ByteKind) (more : Bytes) → Unjoined (c ∷ more) → KeepsLook (parts.dollar_by quoted at rest c it more) (parts.dollar_by quoted to (rest ++ 10 ∷ after) c it (more ++ 10 ∷ after))
    dollar_by_keeps rest c k.Open more e = parenthesis_keeps more (last_tail 92 c more e)
    dollar_by_keeps rest c k.Brace more e =
        let left = last_tail 92 c more e in
        subst (λ t. KeepsLook (parts.braced quoted at (skip more)) (parts.braced quoted to t)) (sym (skip_before more left)) (braced_keeps (skip more) (unjoined_skip more left))
    dollar_by_keeps rest c k.Name more e = named_same quoted _ _ _ _ (run_same Names (c ∷ more) refl e) (behind_same Names (c ∷ more) refl e)
    dollar_by_keeps rest c k.Digit more e =
        if_looks (nat_eq c 48) (bad_param at) (Piece (Param (Arg (c - 48)) None quoted) more) (bad_param to) (Piece (Param (Arg (c - 48)) None quoted) (more ++ 10 ∷ after)) tt refl
    dollar_by_keeps rest c k.Special more e = tt
    dollar_by_keeps rest c k.Dollar more e = tt
    dollar_by_keeps rest c k.Single more e = quote_keeps quoted rest
    dollar_by_keeps rest c k.Double more e = quote_keeps quoted rest
    dollar_by_keeps rest c _ more e = refl

    dollar_keeps : (rest t : Bytes) → Unjoined t → KeepsLook (parts.dollar quoted at rest t) (parts.dollar quoted to (rest ++ 10 ∷ after) (t ++ 10 ∷ after))
    dollar_keeps rest [] e = refl
    dollar_keeps rest (c ∷ t) e = dollar_by_keeps rest c (kind c) t e

    dollars_keep : (rest : Bytes) → Unjoined rest → KeepsLook (parts.dollar quoted at rest (skip rest)) (parts.dollar quoted to (rest ++ 10 ∷ after) (skip (rest ++ 10 ∷ after)))
    dollars_keep rest e =
        subst (λ t. KeepsLook (parts.dollar quoted at rest (skip rest)) (parts.dollar quoted to (rest ++ 10 ∷ after) t)) (sym (skip_before rest e)) (dollar_keeps rest (skip rest) (unjoined_skip rest e))

  -- single quotes
  has_before : (t : Bytes) → has_quote t ≡ true → has_quote (t ++ 10 ∷ after) ≡ true
  has_before [] e = absurd (false≢true e)
  has_before (c ∷ t) e = or_map (nat_eq c 39) (has_quote t) (has_quote (t ++ 10 ∷ after)) (λ h. has_before t h) e

  body_before : (t : Bytes) → has_quote t ≡ true → quote_body (t ++ 10 ∷ after) ≡ quote_body t
  body_before [] e = absurd (false≢true e)
  body_before (c ∷ t) e =
      if_both (λ (u : Bytes). u) (nat_eq c 39) [] (c ∷ quote_body (t ++ 10 ∷ after)) [] (c ∷ quote_body t) (λ _. refl) (λ n. ap (λ (u : Bytes). c ∷ u) (body_before t (or_rest (nat_eq c 39) (has_quote t) n e)))

  quote_before : (t : Bytes) → has_quote t ≡ true → behind_quote (t ++ 10 ∷ after) ≡ behind_quote t ++ 10 ∷ after
  quote_before [] e = absurd (false≢true e)
  quote_before (c ∷ t) e =
      if_both (λ (u : Bytes). u ++ 10 ∷ after) (nat_eq c 39) (t ++ 10 ∷ after) (behind_quote (t ++ 10 ∷ after)) t (behind_quote t) (λ _. refl) (λ n. quote_before t (or_rest (nat_eq c 39) (has_quote t) n e))

  single_keeps : (at to : ℕ) (t : Bytes)
      → KeepsLook (if has_quote t then Piece (Quoted (quote_body t)) (behind_quote t) else Bad (OpenQuote at))
      (if has_quote (t ++ 10 ∷ after) then Piece (Quoted (quote_body (t ++ 10 ∷ after))) (behind_quote (t ++ 10 ∷ after)) else Bad (OpenQuote to))
  single_keeps at to t =
      cond_both (has_quote t) (Piece (Quoted (quote_body t)) (behind_quote t)) (Bad (OpenQuote at)) (λ l. KeepsLook l (if has_quote (t ++ 10 ∷ after) then Piece (Quoted (quote_body (t ++ 10 ∷ after))) (behind_quote (t ++ 10 ∷ after)) else Bad (OpenQuote to)))
      (λ e. cond-true (has_quote (t ++ 10 ∷ after)) _ _ (has_before t e) ∙ quoted_same _ _ _ _ (body_before t e) (quote_before t e)) (λ _. tt)

  -- a backslash: it is not the last byte
  lone : {A : Type 0} (c : ℕ) → c ≡ 92 → Unjoined (c ∷ []) → A
  lone c is e = absurd (true≢false (sym (ap (λ n. nat_eq n 92) is) ∙ e))

  escaped_keeps : (c : ℕ) (t : Bytes) → c ≡ 92 → Unjoined (c ∷ t) → KeepsLook (parts.escaped c t) (parts.escaped c (t ++ 10 ∷ after))
  escaped_keeps c [] is e = lone c is e
  escaped_keeps c (d ∷ t) is e = refl

  inner_escaped_keeps : (c : ℕ) (t : Bytes) → c ≡ 92 → Unjoined (c ∷ t) → KeepsLook (parts.inner_escaped c t) (parts.inner_escaped c (t ++ 10 ∷ after))
  inner_escaped_keeps c [] is e = lone c is e
  inner_escaped_keeps c (d ∷ t) is e = if_looks (is_escapable (kind d)) (Byte d t) (Byte c (d ∷ t)) (Byte d (t ++ 10 ∷ after)) (Byte c (d ∷ (t ++ 10 ∷ after))) refl refl

  look_by_keeps : (at to c : ℕ) (it : ByteKind) (t : Bytes) → KindOf c it → Unjoined (c ∷ t) → KeepsLook (look_by at c it t) (look_by to c it (t ++ 10 ∷ after))
  look_by_keeps at to c k.Single t is e = single_keeps at to t
  look_by_keeps at to c k.Back t is e = escaped_keeps c t is e
  look_by_keeps at to c k.Tick t is e = tt
  look_by_keeps at to c k.Dollar t is e = dollars_keep false at to t (last_tail 92 c t e)
  look_by_keeps at to c _ t is e = refl

  look_at_keeps : (at to : ℕ) (t : Bytes) → Unjoined t → KeepsLook (look_at at t) (look_at to (t ++ 10 ∷ after))
  look_at_keeps at to [] e = refl
  look_at_keeps at to (c ∷ t) e = look_by_keeps at to c (kind c) t (kind_of c) e

  inner_by_keeps : (at to c : ℕ) (it : ByteKind) (t : Bytes) → KindOf c it → Unjoined (c ∷ t) → KeepsLook (inner_by at c it t) (inner_by to c it (t ++ 10 ∷ after))
  inner_by_keeps at to c k.Back t is e = inner_escaped_keeps c t is e
  inner_by_keeps at to c k.Tick t is e = tt
  inner_by_keeps at to c k.Dollar t is e = dollars_keep true at to t (last_tail 92 c t e)
  inner_by_keeps at to c _ t is e = refl

  inner_at_keeps : (at to : ℕ) (t : Bytes) (l : Look) → inner_at at t ≡ l → (l ≡ Ends → ⊥) → Unjoined t → KeepsLook l (inner_at to (t ++ 10 ∷ after))
  inner_at_keeps at to [] l h n e = absurd (n (sym h))
  inner_at_keeps at to (c ∷ t) l h n e = subst (λ l. KeepsLook l (inner_at to (c ∷ (t ++ 10 ∷ after)))) h (inner_by_keeps at to c (kind c) t (kind_of c) e)

  module _ (len total : ℕ) where
    pub look_before : (text : Bytes) (l : Look) → look len text ≡ l → Unjoined text → KeepsLook l (look total (text ++ 10 ∷ after))
    look_before text l h e =
        subst (λ l. KeepsLook l (look total (text ++ 10 ∷ after))) h
        (subst (λ t. KeepsLook (look len text) (look_at (place total t) t)) (sym (skip_before text e))
        (look_at_keeps (place len (skip text)) (place total (skip text ++ 10 ∷ after)) (skip text) (unjoined_skip text e)))

    pub inner_before : (text : Bytes) (l : Look) → inner len text ≡ l → (l ≡ Ends → ⊥) → Unjoined text → KeepsLook l (inner total (text ++ 10 ∷ after))
    inner_before text l h n e =
        subst (λ t. KeepsLook l (inner_at (place total t) t)) (sym (skip_before text e))
        (inner_at_keeps (place len (skip text)) (place total (skip text ++ 10 ∷ after)) (skip text) l h n (unjoined_skip text e))

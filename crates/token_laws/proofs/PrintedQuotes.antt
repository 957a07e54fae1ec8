-- Quoted bytes, as they are printed, are one part.
use Rattle.std.proofs.Common.{◌≡◌, ℕ, Bool, true, false, ◌||◌, nat_eq, List, [], ◌∷◌, ◌++◌, append_assoc, append-nil, map, codes, refl, sym, ap, ◌∙◌, subst}
use Rattle.std.specs.List.{flat_map}
use Rattle.shell_syntax.specs.PrintedParts.{is_active, escaped, is_one_byte, quoted_text}
use Rattle.shell_lexer.specs.declared.byte_kind.ByteKind.{ByteKind}
use Rattle.shell_lexer.specs.declared.sight.ByteNote.{ByteNote}
use Rattle.shell_lexer.specs.declared.sight.ByteNote.TheVariants as note
use Rattle.shell_lexer.specs.declared.token.RawPart.{RawPart}
use Rattle.shell_lexer.specs.declared.token.RawPart.TheVariants as part
use Rattle.shell_lexer.specs.Parts.{Byte, inner, inner_at, inner_by, look_at}
use Rattle.shell_lexer.specs.Reading.{Out, Whole, Read, grown, plain_run, last_run, IsWord, word_piece, word_double, IsInner, inner_ends, inner_byte}
use Rattle.script_names.specs.ShellNames.{is_digit, is_letter}
use Rattle.shell_lexer.specs.Text.{Bytes, kind, word_kind, skip, place, offset, is_blank, is_special}
use Rattle.token_laws.specs.PrintedLaws.{QuotedIsOnePart}
use Rattle.std.proofs.lemmas.Bool.{cond-false, cond_both, eqb-true, not-true, or_parts}
use Rattle.shell_lexer.proofs.SpelledCases.{or_case}
use Rattle.shell_lexer.proofs.PrintedBytes.{clash, skip_first}

-- ---- bytes in double quotes

-- what a byte with no meaning of its own there is, by its kind
module _ (at b : ℕ) (t : Bytes) (double : nat_eq b 34 ≡ false) (dollar : nat_eq b 36 ≡ false) (back : nat_eq b 92 ≡ false) (tick : nat_eq b 96 ≡ false) where
  abbrev IsItself : ByteKind → Type 0
  IsItself it = inner_by at b it t ≡ Byte b t

  word_itself : IsItself (word_kind b)
  word_itself =
      cond_both (nat_eq b 39) _ _ IsItself (λ e. refl) (λ e.
      cond_both (nat_eq b 34) _ _ IsItself (λ e. absurd (clash double e)) (λ e.
      cond_both (nat_eq b 92) _ _ IsItself (λ e. absurd (clash back e)) (λ e.
      cond_both (nat_eq b 96) _ _ IsItself (λ e. absurd (clash tick e)) (λ e.
      cond_both (nat_eq b 36) _ _ IsItself (λ e. absurd (clash dollar e)) (λ e.
      cond_both (nat_eq b 123) _ _ IsItself (λ e. refl) (λ e.
      cond_both (nat_eq b 64) _ _ IsItself (λ e. refl) (λ e.
      cond_both (is_special b) _ _ IsItself (λ e. refl) (λ e.
      cond_both (is_digit b) _ _ IsItself (λ e. refl) (λ e.
      cond_both (is_letter b) _ _ IsItself (λ e. refl) (λ e. refl))))))))))

  itself : IsItself (kind b)
  itself =
      cond_both (is_blank b) _ _ IsItself (λ e. refl) (λ e.
      cond_both (nat_eq b 10) _ _ IsItself (λ e. refl) (λ e.
      cond_both (nat_eq b 59) _ _ IsItself (λ e. refl) (λ e.
      cond_both (nat_eq b 38) _ _ IsItself (λ e. refl) (λ e.
      cond_both (nat_eq b 124) _ _ IsItself (λ e. refl) (λ e.
      cond_both (nat_eq b 40) _ _ IsItself (λ e. refl) (λ e.
      cond_both (nat_eq b 41) _ _ IsItself (λ e. refl) (λ e.
      cond_both (nat_eq b 60) _ _ IsItself (λ e. refl) (λ e.
      cond_both (nat_eq b 62) _ _ IsItself (λ e. refl) (λ e.
      cond_both (nat_eq b 35) _ _ IsItself (λ e. refl) (λ e. word_itself))))))))))

-- a byte as it is printed there is read as itself
abbrev IsSeen : ℕ → ℕ → Bytes → Bytes → Type 0
IsSeen len b t printed = inner len (printed ++ t) ≡ Byte b t

seen_at : (len b c : ℕ) (t : Bytes) → b ≡ c → IsSeen len c t (92 ∷ c ∷ []) → IsSeen len b t (92 ∷ b ∷ [])
seen_at len b c t e h = subst (λ x. IsSeen len x t (92 ∷ x ∷ [])) (sym e) h

active_seen : (len b : ℕ) (t : Bytes) → is_active b ≡ true → IsSeen len b t (92 ∷ b ∷ [])
active_seen len b t e =
    or_case (nat_eq b 34) (nat_eq b 36 || (nat_eq b 92 || nat_eq b 96)) e (λ f. seen_at len b 34 t (eqb-true b 34 f) refl) (λ e.
    or_case (nat_eq b 36) (nat_eq b 92 || nat_eq b 96) e (λ f. seen_at len b 36 t (eqb-true b 36 f) refl) (λ e.
    or_case (nat_eq b 92) (nat_eq b 96) e (λ f. seen_at len b 92 t (eqb-true b 92 f) refl) (λ f. seen_at len b 96 t (eqb-true b 96 f) refl)))

literal_seen : (len b : ℕ) (t : Bytes) → is_active b ≡ false → IsSeen len b t (b ∷ [])
literal_seen len b t e =
    let three = (or_parts (nat_eq b 34) (nat_eq b 36 || (nat_eq b 92 || nat_eq b 96)) e).1 in
    let two = (or_parts (nat_eq b 36) (nat_eq b 92 || nat_eq b 96) three).1 in
    let back = (or_parts (nat_eq b 92) (nat_eq b 96) two).0 in
    ap (λ u. inner_at (place len u) u) (skip_first b t back)
    ∙ itself (place len (b ∷ t)) b t (or_parts (nat_eq b 34) (nat_eq b 36 || (nat_eq b 92 || nat_eq b 96)) e).0
    (or_parts (nat_eq b 36) (nat_eq b 92 || nat_eq b 96) three).0 back (or_parts (nat_eq b 92) (nat_eq b 96) two).1

byte_seen : (len b : ℕ) (t : Bytes) → IsSeen len b t (escaped b)
byte_seen len b t = cond_both (is_active b) (92 ∷ b ∷ []) (b ∷ []) (IsSeen len b t) (active_seen len b t) (literal_seen len b t)

-- ---- quotes

-- what stands in the quotes
module _ (deep : ℕ → Bool) (len depth «from» : ℕ) (rest : Bytes) where
  inside : (run bytes : Bytes)
      → IsInner deep len depth «from» true run (flat_map escaped bytes ++ 34 ∷ rest) (Whole (last_run true (run ++ bytes), map (λ b. note.Gap) bytes) rest)
  inside run [] = inner_ends rest (ap (λ t. inner_at (place len t) t) (skip_first 34 rest refl)) (ap (λ r. Whole (last_run true r, []) rest) (append-nil run))
  inside run (b ∷ bytes) =
      let t = flat_map escaped bytes ++ 34 ∷ rest in
      let more = inside (run ++ b ∷ []) bytes in
      subst (λ u. IsInner deep len depth «from» true run u (Whole (last_run true (run ++ b ∷ bytes), note.Gap ∷ map (λ b. note.Gap) bytes) rest))
      (sym (append_assoc (escaped b) (flat_map escaped bytes) (34 ∷ rest)))
      (inner_byte b t (Whole (last_run true ((run ++ b ∷ []) ++ bytes), map (λ b. note.Gap) bytes) rest) (byte_seen len b t) more
      (ap (λ r. Whole (last_run true r, note.Gap ∷ map (λ b. note.Gap) bytes) rest) (sym (append_assoc run (b ∷ []) bytes))))

pub last_is : (bytes : Bytes) → last_run true bytes ≡ part.Quoted bytes ∷ []
last_is [] = refl
last_is (b ∷ bytes) = refl

-- ---- the part

module _ (deep : ℕ → Bool) (len depth : ℕ) (run rest : Bytes) (q : Out Read) where
  abbrev IsRead : Bytes → Bytes → Type 0
  IsRead bytes printed = (notes : List ByteNote) × IsWord deep len depth run (printed ++ rest) (grown (plain_run run ++ part.Quoted bytes ∷ []) notes q)

  in_quotes : (bytes : Bytes) → IsWord deep len depth [] rest q → IsRead bytes (codes "\"" ++ flat_map escaped bytes ++ codes "\"")
  in_quotes bytes w =
      let begin = flat_map escaped bytes ++ 34 ∷ rest in
      let from = offset len (34 ∷ begin) in
      let ns = map (λ b. note.Gap) bytes in
      let i = subst (λ (ps : List RawPart). IsInner deep len depth from true [] begin (Whole (ps, ns) rest)) (last_is bytes) (inside deep len depth from rest [] bytes) in
      let all = word_double {run = run} {text = 34 ∷ begin} {q = grown (plain_run run ++ part.Quoted bytes ∷ []) (ns ++ note.Gap ∷ []) q} begin (part.Quoted bytes ∷ [], ns) rest q (ap (λ t. look_at (place len t) t) (skip_first 34 begin refl)) i w refl in (
        ns ++ note.Gap ∷ [],
        subst (λ t. IsWord deep len depth run (34 ∷ t) (grown (plain_run run ++ part.Quoted bytes ∷ []) (ns ++ note.Gap ∷ []) q))
            (sym (append_assoc (flat_map escaped bytes) (34 ∷ []) rest)) all,
      )

  one_byte : (bytes : Bytes) → is_one_byte bytes ≡ true → IsWord deep len depth [] rest q → IsRead bytes (codes "\\" ++ bytes)
  one_byte [] e w = absurd (clash refl e)
  one_byte (b ∷ []) e w = (
    note.Gap ∷ [],
    word_piece (part.Quoted (b ∷ [])) rest q
        (ap (λ t. look_at (place len t) t) (cond-false (nat_eq b 10) (skip rest) (92 ∷ b ∷ rest) (not-true (nat_eq b 10) e))) w refl,
  )
  one_byte (b ∷ c ∷ bytes) e w = absurd (clash refl e)

pub quoted_is_one_part : QuotedIsOnePart
unfolding quoted_text
quoted_is_one_part bytes deep len depth run rest q w =
    cond_both (is_one_byte bytes) _ _ (IsRead deep len depth run rest q bytes) (λ e. one_byte deep len depth run rest q bytes e w) (λ e. in_quotes deep len depth run rest q bytes w)

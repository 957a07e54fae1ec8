-- Word tokens without substitutions, as they are printed, are one token.
use Rattle.std.proofs.Common.{◌≡◌, ℕ, zero, suc, Bool, true, false, if◌then◌else◌, ◌&&◌, nat_eq, not, [], ◌∷◌, ◌++◌, None, refl, sym, ap, ◌∙◌, subst}
use Rattle.std.specs.List.{flat_map}
use Rattle.shell_lexer.specs.declared.byte_kind.ByteKind.{ByteKind}
use Rattle.shell_lexer.specs.declared.byte_kind.ByteKind.TheVariants as k
use Rattle.shell_lexer.specs.declared.byte_kind.RunKind.TheVariants.{Digits}
use Rattle.shell_lexer.specs.declared.sight.ByteNote.TheVariants as note
use Rattle.shell_lexer.specs.declared.sight.Sign.TheVariants as sign
use Rattle.shell_lexer.specs.declared.fault.LexFault.TheVariants.{Unsupported}
use Rattle.shell_syntax.specs.declared.form.Form.TheVariants as form
use Rattle.shell_lexer.specs.declared.token.RawPart.TheVariants as part
use Rattle.shell_lexer.specs.Late.{late}
use Rattle.token_laws.specs.Laws.{PartsAreSpelled, AllArgsAreSpelled, DoubleQuotesAreSpelled}
use Rattle.shell_lexer.specs.Operators.{Word, Passed, End, after_line, numbered, numbered_by, sight_by, sight_at, sight}
use Rattle.shell_lexer.specs.Parts.{look, inner, inner_at}
use Rattle.shell_lexer.specs.Reading.{Whole, Read, items_pass, items_word, IsWord, word_ends, word_double, IsInner, inner_ends, inner_all}
use Rattle.script_names.specs.ShellNames.{is_digit}
use Rattle.shell_lexer.specs.Text.{Bytes, kind, skip, tail, head_is, cells, behind_run, passes, run, place, offset}
use Rattle.token_laws.specs.PrintedLaws.{ParamIsOnePart, AllIsOnePart, raw_text, WordTokensReadBack, AllTokensReadBack}
use Rattle.std.proofs.lemmas.Bool.{and_parts, cond-false, cond-true, eqb-true, not-true, true≢false}
use Rattle.shell_lexer.proofs.PrintedBytes.{clash, skip_first}
use Rattle.token_laws.proofs.PrintedNotes.{late_same, notes_of}
use Rattle.token_laws.proofs.PrintedWords.{no_angle, begins_ten, steady, may_begin, begins_word, word_claim, ends_here}
use Rattle.shell_lexer.proofs.Begun.{begun, NotWord, if_sight, operator_no, wrong_no, less_no, greater_no}

-- ---- where a word begins

kept_by : (b : ℕ) (t : Bytes) (digit : Bool) → is_digit b ≡ digit → (if digit then steady t else (no_angle (kind b) && not (nat_eq b 92 && begins_ten t))) ≡ true → (nat_eq b 92 && begins_ten t) ≡ false
kept_by b t true d e = by (nat_eq b 92) refl where
  by : (is : Bool) → nat_eq b 92 ≡ is → (is && begins_ten t) ≡ false
  by true g = absurd (clash (ap is_digit (eqb-true b 92 g)) d)
  by false g = refl
kept_by b t false d e = not-true (nat_eq b 92 && begins_ten t) (and_parts (no_angle (kind b)) (not (nat_eq b 92 && begins_ten t)) e).1

kept : (b : ℕ) (t : Bytes) → steady (b ∷ t) ≡ true → (nat_eq b 92 && begins_ten t) ≡ false
kept b t e = kept_by b t (is_digit b) refl e

skip_kept : (b : ℕ) (t : Bytes) → (nat_eq b 92 && begins_ten t) ≡ false → skip (b ∷ t) ≡ b ∷ t
skip_kept b [] e = refl
skip_kept b (c ∷ t) e = cond-false (nat_eq b 92 && nat_eq c 10) _ _ e

cells_kept : (b : ℕ) (t : Bytes) → (nat_eq b 92 && begins_ten t) ≡ false → cells (b ∷ t) ≡ (b, t) ∷ cells t
cells_kept b [] e = refl
cells_kept b (c ∷ t) e = cond-false (nat_eq b 92 && nat_eq c 10) _ _ e

numbered_word : (at : ℕ) (number : Bytes) (it : ByteKind) (t : Bytes) → no_angle it ≡ true → numbered_by at number it t ≡ Word
numbered_word at number k.Less t e = absurd (true≢false (sym e))
numbered_word at number k.Greater t e = absurd (true≢false (sym e))
numbered_word at number _ t e = refl

digits_word : (len : ℕ) (number text : Bytes) → steady text ≡ true → numbered len number (skip (behind_run (passes Digits) text (cells text))) ≡ Word
digits_word len number [] e = refl
digits_word len number (b ∷ t) e =
    let c = kept b t e in
    ap (λ cs. numbered len number (skip (behind_run (passes Digits) (b ∷ t) cs))) (cells_kept b t c) ∙ by (is_digit b) refl e (digits_word len number t) c
  where
    by : (digit : Bool) → is_digit b ≡ digit → (if digit then steady t else (no_angle (kind b) && not (nat_eq b 92 && begins_ten t))) ≡ true
        → (steady t ≡ true → numbered len number (skip (behind_run (passes Digits) t (cells t))) ≡ Word) → (nat_eq b 92 && begins_ten t) ≡ false
        → numbered len number (skip (if is_digit b then behind_run (passes Digits) t (cells t) else b ∷ t)) ≡ Word
    by true d e more c = ap (λ r. numbered len number (skip r)) (cond-true (is_digit b) _ _ d) ∙ more e
    by false d e more c =
        ap (λ r. numbered len number (skip r)) (cond-false (is_digit b) _ _ d) ∙ ap (numbered len number) (skip_kept b t c)
        ∙ numbered_word (place len (b ∷ t)) number (kind b) t (and_parts (no_angle (kind b)) (not (nat_eq b 92 && begins_ten t)) e).0

sight_kind : (len at b : ℕ) (it : ByteKind) (t : Bytes) → may_begin it ≡ true → steady (b ∷ t) ≡ true → sight_by len at b it t ≡ Word
sight_kind len at b k.Blank t e s = absurd (true≢false (sym e))
sight_kind len at b k.Newline t e s = absurd (true≢false (sym e))
sight_kind len at b k.Semi t e s = absurd (true≢false (sym e))
sight_kind len at b k.Amp t e s = absurd (true≢false (sym e))
sight_kind len at b k.Bar t e s = absurd (true≢false (sym e))
sight_kind len at b k.Open t e s = absurd (true≢false (sym e))
sight_kind len at b k.Close t e s = absurd (true≢false (sym e))
sight_kind len at b k.Less t e s = absurd (true≢false (sym e))
sight_kind len at b k.Greater t e s = absurd (true≢false (sym e))
sight_kind len at b k.Hash t e s = absurd (true≢false (sym e))
sight_kind len at b k.Digit t e s = digits_word len (run Digits (b ∷ t)) (b ∷ t) s
sight_kind len at b _ t e s = refl

sight_word : (len : ℕ) (text : Bytes) → begins_word text ≡ true → steady text ≡ true → sight len text ≡ Word
sight_word len [] e s = absurd (true≢false (sym e))
sight_word len (b ∷ t) e s = ap (λ u. sight_at len (place len u) u) (skip_kept b t (kept b t s)) ∙ sight_kind len (place len (b ∷ t)) b (kind b) t e s

-- what begins a word where it is read
passed_no : (t : Bytes) → NotWord (Passed t)
passed_no t e = cc

word_begins_by : (len at b : ℕ) (it : ByteKind) (t : Bytes) → sight_by len at b it t ≡ Word → may_begin it ≡ true
word_begins_by len at b k.Blank t e = absurd (passed_no t e)
word_begins_by len at b k.Newline t e = absurd (operator_no sign.Newline t e)
word_begins_by len at b k.Semi t e = absurd (if_sight (head_is 59 (skip t)) _ _ (operator_no sign.DoubleSemi (tail (skip t))) (operator_no sign.Semi t) e)
word_begins_by len at b k.Amp t e = absurd (if_sight (head_is 38 (skip t)) _ _ (operator_no sign.AndAnd (tail (skip t))) (wrong_no (Unsupported form.Background at)) e)
word_begins_by len at b k.Bar t e = absurd (if_sight (head_is 124 (skip t)) _ _ (operator_no sign.OrOr (tail (skip t))) (operator_no sign.Bar t) e)
word_begins_by len at b k.Open t e = absurd (if_sight (head_is 40 (skip t)) _ _ (wrong_no (Unsupported form.Arith at)) (operator_no sign.LeftParen t) e)
word_begins_by len at b k.Close t e = absurd (operator_no sign.RightParen t e)
word_begins_by len at b k.Less t e = absurd (less_no at [] t e)
word_begins_by len at b k.Greater t e = absurd (greater_no at [] t e)
word_begins_by len at b k.Hash t e = absurd (passed_no (after_line t) e)
word_begins_by len at b _ t e = refl

end_no : NotWord End
end_no e = cc

word_begins : (len at : ℕ) (t : Bytes) → sight_at len at t ≡ Word → begins_word t ≡ true
word_begins len at [] e = absurd (end_no e)
word_begins len at (b ∷ t) e = word_begins_by len at b (kind b) t e

-- ---- the tokens

module _ (outside : PartsAreSpelled look false) (inside : PartsAreSpelled inner true) (args : AllArgsAreSpelled look) (quotes : DoubleQuotesAreSpelled look) (param : ParamIsOnePart) (whole : AllIsOnePart) where
  pub word_tokens : WordTokensReadBack
  word_tokens deep len depth at spelled rest v seen w nothing none no_all all «from» parens behind q apart ends x =
      let b = word_claim outside inside args quotes param whole deep all depth behind apart w none ends in
      let text = flat_map raw_text v.0 ++ behind in
      let same : b.suffix ++ behind ≡ text = ap (λ t. t ++ behind) (sym b.printed) in
      let reads : IsWord deep all depth [] text (Whole (v.0, b.notes) behind) = subst (λ t. IsWord deep all depth [] t (Whole (v.0, b.notes) behind)) same b.reads in
      let begins : begins_word text ≡ true =
      ap begins_word (sym same) ∙ b.begun (begun len (place len (skip spelled)) (skip spelled) seen) (word_begins len (place len (skip spelled)) (skip spelled) seen)
      in
      let calm : steady text ≡ true = ap steady (sym same) ∙ b.calm in (
        offset all text,
        items_pass text (ap (λ u. sight_at all (place all u) u) (skip_first 32 text refl))
            (items_word (v.0, b.notes) behind q (sight_word all text begins calm) reads
            (late_same v.0 v.1 b.notes depth at (offset all text) no_all (notes_of w) (notes_of reads) nothing) x refl),
      )

all_late : (depth place at : ℕ) → late depth place (note.All at true ∷ note.Gap ∷ []) ≡ None
all_late zero place at = refl
all_late (suc depth) place at = refl

pub all_tokens : AllTokensReadBack
all_tokens deep all depth «from» parens behind q apart x =
    let begin = 36 ∷ 64 ∷ 34 ∷ behind in
    let text = 34 ∷ begin in
    let mark = note.All (offset all begin) true in
    let v : Read = (part.All ∷ [], mark ∷ note.Gap ∷ []) in
    let closed : IsInner deep all depth (offset all text) false [] (34 ∷ behind) (Whole ([], []) behind) = inner_ends behind (ap (λ t. inner_at (place all t) t) (skip_first 34 behind refl)) refl in
    let i : IsInner deep all depth (offset all text) true [] begin (Whole (part.All ∷ [], mark ∷ []) behind) = inner_all (34 ∷ behind) (Whole ([], []) behind) refl closed refl in
    let last : IsWord deep all depth [] behind (Whole ([], []) behind) = word_ends (ends_here all behind apart) refl in
    let w : IsWord deep all depth [] text (Whole v behind) = word_double begin (part.All ∷ [], mark ∷ []) behind (Whole ([], []) behind) refl i last refl in
    (offset all text, items_pass text refl (items_word v behind q refl w (all_late depth (offset all text) (offset all begin)) x refl))

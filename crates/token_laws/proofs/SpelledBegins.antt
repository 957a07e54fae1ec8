-- What is passed over, and where a word begins, is seen exactly where it is spelled.
use Rattle.std.proofs.Common.{◌≡◌, inl, inr, ℕ, Bool, true, false, not, if◌then◌else◌, nat_eq, [], ◌∷◌, ◌++◌, Option, Some, None, refl, sym, ap, ◌∙◌, subst, codes}
use Rattle.std.specs.List.{list_all}
use Rattle.shell_syntax.specs.declared.form.Form.TheVariants as form
use Rattle.shell_syntax.specs.declared.redirect.Redirect.{Redirect}
use Rattle.shell_lexer.specs.declared.fault.LexFault.TheVariants.{Unsupported}
use Rattle.shell_lexer.specs.declared.byte_kind.ByteKind.{ByteKind}
use Rattle.shell_lexer.specs.declared.byte_kind.ByteKind.TheVariants as k
use Rattle.shell_lexer.specs.declared.sight.Sign.TheVariants as s
use Rattle.script_names.specs.ShellNames.{is_digit}
use Rattle.shell_lexer.specs.Text.{Bytes, kind, skip, place, offset, tail, head_is, is_blank, is_word_end, cells, run_of, behind_run}
use Rattle.shell_lexer.specs.Operators.{Sight, End, Passed, Operator, Wrong, Word, sight, sight_at, sight_by, numbered, numbered_by, less, greater, copied, redirected, out_to, in_from, copy_of, whole_word, null_word, after_line}
use Rattle.shell_lexer.specs.Spelling.{Stands}
use Rattle.token_laws.specs.SpelledBegins.{IsPassed, blank, comment, IsWordBegin}
use Rattle.shell_lexer.specs.SpelledEnds.{begins_operator}
use Rattle.shell_lexer.specs.SpelledFaults.{IsNumbered}
use Rattle.shell_lexer.specs.Tiled.{at_line_end}
use Rattle.shell_lexer.proofs.SpelledEnds.{blank_ends, operator_ends}
use Rattle.shell_lexer.proofs.SpelledFronts.{shown}
use Rattle.shell_lexer.proofs.SpelledKinds.{KindOf, kind_of}
use Rattle.shell_lexer.proofs.SpelledRuns.{run_stands}
use Rattle.shell_lexer.proofs.SpelledWrong.{digits_stand, less_sight, greater_sight}
use Rattle.shell_lexer.proofs.Tiles.{Fits, IsComment, fits}
use Rattle.std.proofs.lemmas.Bool.{and_parts, cond-false, cond-true, cond_both, eqb-true, false≢true, not-true}

-- ---- what is passed over

fits_passed : (text rest t : Bytes) → skip text ≡ t → Fits t (Passed rest) → IsPassed text rest
fits_passed text rest t e (inl f) = blank f.2 (rest, e ∙ f.1, refl)
fits_passed text rest t e (inr f) = comment f.2.bytes (f.0, e ∙ f.1, f.2.is) f.2.line f.2.ended

pub passed_is : (len : ℕ) (text rest : Bytes) → sight len text ≡ Passed rest → IsPassed text rest
passed_is len text rest e = fits_passed text rest (skip text) refl (fits len text (Passed rest) e)

at_line : (rest : Bytes) → at_line_end rest ≡ true → after_line rest ≡ rest
at_line [] e = refl
at_line (b ∷ rest) e = cond-true (nat_eq b 10) (b ∷ rest) (after_line rest) e

line_passed : (bytes rest : Bytes) → list_all (λ b. not (nat_eq b 10)) bytes ≡ true → at_line_end rest ≡ true → after_line (bytes ++ rest) ≡ rest
line_passed [] rest none ends = at_line rest ends
line_passed (b ∷ bytes) rest none ends =
    let both = and_parts (not (nat_eq b 10)) (list_all (λ b. not (nat_eq b 10)) bytes) none in
    cond-false (nat_eq b 10) (b ∷ (bytes ++ rest)) (after_line (bytes ++ rest)) (not-true (nat_eq b 10) both.0) ∙ line_passed bytes rest both.1 ends

blank_kind : (b : ℕ) → is_blank b ≡ true → kind b ≡ k.Blank
blank_kind b e = cond-true (is_blank b) k.Blank _ e

pub passed_seen : (len : ℕ) (text rest : Bytes) → IsPassed text rest → sight len text ≡ Passed rest
passed_seen len text rest (blank {byte = b} is h) =
    shown len b text h.0 h.1 ∙ ap (λ it. sight_by len (place len (b ∷ h.0)) b it h.0) (blank_kind b is) ∙ ap Passed h.2
passed_seen len text rest (comment bytes h none ends) =
    shown len 35 text h.0 h.1 ∙ ap (λ t. Passed (after_line t)) h.2 ∙ ap Passed (line_passed bytes rest none ends)

-- ---- where no word begins

abbrev NoWord : Sight → Type 0
NoWord Word = ⊥
NoWord _ = Unit {0}

redirected_no : (at : ℕ) (which : Option Redirect) (t : Option Bytes) → NoWord (redirected at which t)
redirected_no at None t = tt
redirected_no at (Some which) None = tt
redirected_no at (Some which) (Some rest) = tt

copied_no : (at : ℕ) (number t : Bytes) → NoWord (copied at number t)
copied_no at number [] = tt
copied_no at number (b ∷ rest) = redirected_no at (copy_of number b) (whole_word (Some rest))

less_no : (at : ℕ) (number t : Bytes) → NoWord (less at number t)
less_no at number t =
    cond_both (head_is 60 (skip t)) (Wrong (Unsupported form.Heredoc at)) (redirected at (in_from number) (null_word t)) NoWord (λ _. tt) (λ _. redirected_no at (in_from number) (null_word t))

greater_no : (at : ℕ) (number t : Bytes) → NoWord (greater at number t)
greater_no at number t =
    let copy = copied at number (skip (tail (skip t))) in
    let plain = redirected at (out_to number) (null_word t) in
    cond_both (head_is 62 (skip t)) (redirected at (out_to number) (null_word (tail (skip t)))) (if head_is 38 (skip t) then copy else plain) NoWord
    (λ _. redirected_no at (out_to number) (null_word (tail (skip t))))
    (λ _. cond_both (head_is 38 (skip t)) copy plain NoWord (λ _. copied_no at number (skip (tail (skip t)))) (λ _. redirected_no at (out_to number) (null_word t)))

ends_no : (len at b : ℕ) (it : ByteKind) (t : Bytes) → is_word_end it ≡ true → NoWord (sight_by len at b it t)
ends_no len at b k.Blank t e = tt
ends_no len at b k.Newline t e = tt
ends_no len at b k.Semi t e = cond_both (head_is 59 (skip t)) (Operator s.DoubleSemi (tail (skip t))) (Operator s.Semi t) NoWord (λ _. tt) (λ _. tt)
ends_no len at b k.Amp t e = cond_both (head_is 38 (skip t)) (Operator s.AndAnd (tail (skip t))) (Wrong (Unsupported form.Background at)) NoWord (λ _. tt) (λ _. tt)
ends_no len at b k.Bar t e = cond_both (head_is 124 (skip t)) (Operator s.OrOr (tail (skip t))) (Operator s.Bar t) NoWord (λ _. tt) (λ _. tt)
ends_no len at b k.Open t e = cond_both (head_is 40 (skip t)) (Wrong (Unsupported form.Arith at)) (Operator s.LeftParen t) NoWord (λ _. tt) (λ _. tt)
ends_no len at b k.Close t e = tt
ends_no len at b k.Less t e = less_no at [] t
ends_no len at b k.Greater t e = greater_no at [] t
ends_no len at b _ t e = absurd (false≢true e)

no_word_from : (x : Sight) → x ≡ Word → NoWord x → ⊥
no_word_from x e h = subst NoWord e h

end_kind_false : (len at b : ℕ) (t : Bytes) (it : Bool) → is_word_end (kind b) ≡ it → sight_by len at b (kind b) t ≡ Word → is_word_end (kind b) ≡ false
end_kind_false len at b t false e h = e
end_kind_false len at b t true e h = absurd (no_word_from (sight_by len at b (kind b) t) h (ends_no len at b (kind b) t e))

no_test : (test : Bool) → (test ≡ true → ⊥) → test ≡ false
no_test true h = absurd (h refl)
no_test false h = refl

hash_no : (len at b : ℕ) (t : Bytes) → b ≡ 35 → NoWord (sight_by len at b (kind b) t)
hash_no len at b t e = subst (λ b. NoWord (sight_by len at b (kind b) t)) (sym e) tt

begin_by : (len : ℕ) (text t : Bytes) → skip text ≡ t → sight len text ≡ sight_at len (place len t) t → sight len text ≡ Word → IsWordBegin text
begin_by len text [] s same e = absurd (no_word_from End (sym same ∙ e) tt)
begin_by len text (b ∷ rest) s same e =
    let seen = sym same ∙ e in
    let none = end_kind_false len (place len (b ∷ rest)) b rest (is_word_end (kind b)) refl seen in
    record {
      byte = b;
      rest = rest;
      stands = (rest, s, refl);
      no_blank = no_test (is_blank b) (λ is. false≢true (sym none ∙ blank_ends b is));
      no_comment = no_test (nat_eq b 35) (λ is. no_word_from (sight_by len (place len (b ∷ rest)) b (kind b) rest) seen (hash_no len (place len (b ∷ rest)) b rest (eqb-true b 35 is)));
      no_operator = no_test (begins_operator b) (λ is. false≢true (sym none ∙ operator_ends b is));
      no_input = λ t behind n. no_word_from (less (offset len t) n.digits behind) (sym (less_sight len text t behind n) ∙ e) (less_no (offset len t) n.digits behind);
      no_output = λ t behind n. no_word_from (greater (offset len t) n.digits behind) (sym (greater_sight len text t behind n) ∙ e) (greater_no (offset len t) n.digits behind);
    }

pub begin_is : (len : ℕ) (text : Bytes) → sight len text ≡ Word → IsWordBegin text
begin_is len text e = begin_by len text (skip text) refl refl e

-- ---- where one begins

numbered_word_by : (len c : ℕ) (number text t u : Bytes) (it : ByteKind) → IsWordBegin text → list_all is_digit number ≡ true → Stands number text t → skip t ≡ c ∷ u → KindOf c it
    → numbered_by (place len (c ∷ u)) number it u ≡ Word
numbered_word_by len c number text t u k.Less w pass h e is = absurd (w.no_input t u (record { digits = number; pass = pass; number = h; stands = (u, e ∙ ap (λ c. c ∷ u) is, refl) }))
numbered_word_by len c number text t u k.Greater w pass h e is = absurd (w.no_output t u (record { digits = number; pass = pass; number = h; stands = (u, e ∙ ap (λ c. c ∷ u) is, refl) }))
numbered_word_by len c number text t u _ w pass h e is = refl

numbered_word : (len : ℕ) (number text t next : Bytes) → IsWordBegin text → list_all is_digit number ≡ true → Stands number text t → skip t ≡ next → numbered len number next ≡ Word
numbered_word len number text t [] w pass h e = refl
numbered_word len number text t (c ∷ u) w pass h e = numbered_word_by len c number text t u (kind c) w pass h e (kind_of c)

clash : {A : Type 0} (b c : ℕ) → begins_operator b ≡ false → b ≡ c → begins_operator c ≡ true → A
clash b c none is e = absurd (false≢true (sym none ∙ ap begins_operator is ∙ e))

begin_seen_by : (len b : ℕ) (text more : Bytes) (it : ByteKind) → (w : IsWordBegin text) → skip text ≡ b ∷ more → is_blank b ≡ false → nat_eq b 35 ≡ false → begins_operator b ≡ false → KindOf b it
    → sight_by len (place len (b ∷ more)) b it more ≡ Word
begin_seen_by len b text more k.Blank w e no_blank no_hash none is = absurd (false≢true (sym no_blank ∙ is))
begin_seen_by len b text more k.Hash w e no_blank no_hash none is = absurd (false≢true (sym no_hash ∙ ap (λ b. nat_eq b 35) is))
begin_seen_by len b text more k.Newline w e no_blank no_hash none is = clash b 10 none is refl
begin_seen_by len b text more k.Semi w e no_blank no_hash none is = clash b 59 none is refl
begin_seen_by len b text more k.Amp w e no_blank no_hash none is = clash b 38 none is refl
begin_seen_by len b text more k.Bar w e no_blank no_hash none is = clash b 124 none is refl
begin_seen_by len b text more k.Open w e no_blank no_hash none is = clash b 40 none is refl
begin_seen_by len b text more k.Close w e no_blank no_hash none is = clash b 41 none is refl
begin_seen_by len b text more k.Less w e no_blank no_hash none is = clash b 60 none is refl
begin_seen_by len b text more k.Greater w e no_blank no_hash none is = clash b 62 none is refl
begin_seen_by len b text more k.Digit w e no_blank no_hash none is =
    let number = run_of is_digit (cells (b ∷ more)) in
    let t = behind_run is_digit (b ∷ more) (cells (b ∷ more)) in
    let all = run_stands is_digit number (b ∷ more) refl in
    numbered_word len number text t (skip t) w all.pass (digits_stand b number text more t e is all) refl
begin_seen_by len b text more _ w e no_blank no_hash none is = refl

pub begin_seen : (len : ℕ) (text : Bytes) → IsWordBegin text → sight len text ≡ Word
begin_seen len text w =
    shown len w.byte text w.stands.0 w.stands.1
    ∙ begin_seen_by len w.byte text w.stands.0 (kind w.byte) w w.stands.1 w.no_blank w.no_comment w.no_operator (kind_of w.byte)

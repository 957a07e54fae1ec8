-- Where a token may begin, a form that is not supported, and the text's end, are seen exactly where they are spelled.
use Rattle.std.proofs.Common.{◌≡◌, ℕ, Bool, true, false, nat_eq, [], if◌then◌else◌, ◌∷◌, Option, Some, None, refl, sym, ap, ◌∙◌, subst, codes}
use Rattle.std.specs.List.{list_all}
use Rattle.shell_syntax.specs.declared.form.Form.TheVariants as form
use Rattle.shell_syntax.specs.declared.redirect.Redirect.{Redirect}
use Rattle.shell_lexer.specs.declared.fault.LexFault.{LexFault}
use Rattle.shell_lexer.specs.declared.fault.LexFault.TheVariants.{Unsupported}
use Rattle.shell_lexer.specs.declared.byte_kind.ByteKind.{ByteKind}
use Rattle.shell_lexer.specs.declared.byte_kind.ByteKind.TheVariants as k
use Rattle.shell_lexer.specs.declared.byte_kind.RunKind.TheVariants.{Blanks, Digits}
use Rattle.shell_lexer.specs.declared.sight.Sign.{Sign}
use Rattle.shell_lexer.specs.declared.sight.Sign.TheVariants as s
use Rattle.script_names.specs.ShellNames.{is_digit}
use Rattle.shell_lexer.specs.Text.{Bytes, kind, skip, place, offset, tail, head_is, cells, run_of, behind, behind_run}
use Rattle.shell_lexer.specs.Operators.{Sight, End, Operator, Wrong, sight, sight_at, sight_by, twice, numbered, numbered_by, less, greater, copied, redirected, out_to, in_from, copy_of, whole_word, null_word}
use Rattle.shell_lexer.specs.Spelling.{Stands, begins, IsNotNext, IsRedirected}
use Rattle.shell_lexer.specs.SpelledEnds.{AtTextEnd}
use Rattle.shell_lexer.specs.SpelledFaults.{IsNumbered, IsNoRedirection, IsWrong, background, arithmetic_command, here_document, input, output}
use Rattle.shell_lexer.proofs.SpelledFronts.{shown, head_of, head_back, is_not, not_next}
use Rattle.shell_lexer.proofs.SpelledKinds.{KindOf, kind_of, digit_kind}
use Rattle.shell_lexer.proofs.SpelledOperators.{operator_seen}
use Rattle.shell_lexer.proofs.SpelledRedirects.{sees_redirected, wrong_operator}
use Rattle.shell_lexer.proofs.SpelledRuns.{skip_again, skip_stands, stands_skip, IsRun, run_is, behind_is, run_stands}
use Rattle.std.proofs.lemmas.Bool.{and_parts, cond-false, cond-true, cond_both, true≢false}

-- ---- what is seen is spelled

-- a form that is not supported, or a `<` or `>` of which it is not said that it begins no redirection
data IsWrongSeen (len : ℕ) (text : Bytes) : LexFault → Type 0 where
  wrong : {fault : LexFault} → IsWrong len text fault → IsWrongSeen len text fault
  some_input : {from rest : Bytes} → IsNumbered (codes "<") text from rest → IsNotNext 60 rest → IsWrongSeen len text (Unsupported form.Redirect (offset len from))
  some_output : {from rest : Bytes} → IsNumbered (codes ">") text from rest → IsWrongSeen len text (Unsupported form.Redirect (offset len from))

-- what an end and a form that is not supported say of the text
abbrev IsSeen : ℕ → Bytes → Sight → Type 0
IsSeen len text End = AtTextEnd text
IsSeen len text (Wrong fault) = IsWrongSeen len text fault
IsSeen len text _ = Unit {0}

redirected_seen : (len at : ℕ) (text : Bytes) (which : Option Redirect) (t : Option Bytes) → IsWrongSeen len text (Unsupported form.Redirect at) → IsSeen len text (redirected at which t)
redirected_seen len at text None t h = h
redirected_seen len at text (Some which) None h = h
redirected_seen len at text (Some which) (Some rest) h = tt

copied_seen : (len at : ℕ) (text number t : Bytes) → IsWrongSeen len text (Unsupported form.Redirect at) → IsSeen len text (copied at number t)
copied_seen len at text number [] h = h
copied_seen len at text number (b ∷ rest) h = redirected_seen len at text (copy_of number b) (whole_word (Some rest)) h

less_seen : (len : ℕ) (number text from rest : Bytes) → IsNumbered (codes "<") text from rest → IsSeen len text (less (offset len from) number rest)
less_seen len number text from rest n =
    cond_both (head_is 60 (skip rest)) (Wrong (Unsupported form.Heredoc (offset len from))) (redirected (offset len from) (in_from number) (null_word rest)) (IsSeen len text)
    (λ two. wrong (here_document (record { digits = n.digits; pass = n.pass; number = n.number; stands = (n.stands.0, n.stands.1, (tail (skip rest), ap skip n.stands.2 ∙ head_back 60 (skip rest) two, refl)) })))
    (λ one. redirected_seen len (offset len from) text (in_from number) (null_word rest) (some_input n (not_next 60 rest refl one)))

greater_seen : (len : ℕ) (number text from rest : Bytes) → IsNumbered (codes ">") text from rest → IsSeen len text (greater (offset len from) number rest)
greater_seen len number text from rest n =
    let at = offset len from in
    let copy = copied at number (skip (tail (skip rest))) in
    let plain = redirected at (out_to number) (null_word rest) in
    cond_both (head_is 62 (skip rest)) (redirected at (out_to number) (null_word (tail (skip rest)))) (if head_is 38 (skip rest) then copy else plain) (IsSeen len text)
    (λ _. redirected_seen len at text (out_to number) (null_word (tail (skip rest))) (some_output n))
    (λ _. cond_both (head_is 38 (skip rest)) copy plain (IsSeen len text)
    (λ _. copied_seen len at text number (skip (tail (skip rest))) (some_output n)) (λ _. redirected_seen len at text (out_to number) (null_word rest) (some_output n)))

numbered_by_seen : (len c : ℕ) (number text from u : Bytes) (it : ByteKind) → list_all is_digit number ≡ true → Stands number text from → skip from ≡ c ∷ u → KindOf c it
    → IsSeen len text (numbered_by (offset len from) number it u)
numbered_by_seen len c number text from u k.Less pass h e is = less_seen len number text from u (record { digits = number; pass = pass; number = h; stands = (u, e ∙ ap (λ c. c ∷ u) is, refl) })
numbered_by_seen len c number text from u k.Greater pass h e is = greater_seen len number text from u (record { digits = number; pass = pass; number = h; stands = (u, e ∙ ap (λ c. c ∷ u) is, refl) })
numbered_by_seen len c number text from u _ pass h e is = tt

numbered_seen : (len : ℕ) (number text from t : Bytes) → list_all is_digit number ≡ true → Stands number text from → skip from ≡ t → IsSeen len text (numbered len number t)
numbered_seen len number text from [] pass h e = tt
numbered_seen len number text from (c ∷ u) pass h e =
    subst (λ at. IsSeen len text (numbered_by at number (kind c) u)) (ap (place len) e) (numbered_by_seen len c number text from u (kind c) pass h e (kind_of c))

-- digits that stand behind joined lines
pub digits_stand : (c : ℕ) (number text more from : Bytes) → skip text ≡ c ∷ more → is_digit c ≡ true → IsRun is_digit number (c ∷ more) from → Stands number text from
digits_stand c [] text more from e is all = absurd (true≢false (sym is ∙ ap (begins is_digit) (sym again) ∙ ap (λ t. begins is_digit (skip t)) all.stands ∙ all.longest)) where
  again : skip (c ∷ more) ≡ c ∷ more
  again = sym (ap skip e) ∙ skip_again text ∙ e
digits_stand c (d ∷ number) text more from e is all = stands_skip d number text from (subst (λ t. Stands (d ∷ number) t from) (sym e) all.stands)

seen_by : (len c : ℕ) (text more : Bytes) (it : ByteKind) → skip text ≡ c ∷ more → KindOf c it → IsSeen len text (sight_by len (offset len text) c it more)
seen_by len c text more k.Amp e is =
    let amp = e ∙ ap (λ c. c ∷ more) is in
    cond_both (head_is 38 (skip more)) (Operator s.AndAnd (tail (skip more))) (Wrong (Unsupported form.Background (offset len text))) (IsSeen len text)
    (λ _. tt) (λ one. wrong (background (more, amp, refl) (not_next 38 more refl one)))
seen_by len c text more k.Open e is =
    let first = e ∙ ap (λ c. c ∷ more) is in
    cond_both (head_is 40 (skip more)) (Wrong (Unsupported form.Arith (offset len text))) (Operator s.LeftParen more) (IsSeen len text)
    (λ two. wrong (arithmetic_command (more, first, (tail (skip more), head_back 40 (skip more) two, refl)))) (λ _. tt)
seen_by len c text more k.Less e is = less_seen len [] text text more (record { digits = []; pass = refl; number = refl; stands = (more, e ∙ ap (λ c. c ∷ more) is, refl) })
seen_by len c text more k.Greater e is = greater_seen len [] text text more (record { digits = []; pass = refl; number = refl; stands = (more, e ∙ ap (λ c. c ∷ more) is, refl) })
seen_by len c text more k.Digit e is =
    let number = run_of is_digit (cells (c ∷ more)) in
    let from = behind_run is_digit (c ∷ more) (cells (c ∷ more)) in
    let all = run_stands is_digit number (c ∷ more) refl in
    numbered_seen len number text from (skip from) all.pass (digits_stand c number text more from e is all) refl
seen_by len c text more k.Semi e is = cond_both (head_is 59 (skip more)) (Operator s.DoubleSemi (tail (skip more))) (Operator s.Semi more) (IsSeen len text) (λ _. tt) (λ _. tt)
seen_by len c text more k.Bar e is = cond_both (head_is 124 (skip more)) (Operator s.OrOr (tail (skip more))) (Operator s.Bar more) (IsSeen len text) (λ _. tt) (λ _. tt)
seen_by len c text more _ e is = tt

seen_at : (len : ℕ) (text t : Bytes) → skip text ≡ t → IsSeen len text (sight_at len (offset len text) t)
seen_at len text [] e = e
seen_at len text (c ∷ more) e = seen_by len c text more (kind c) e (kind_of c)

sight_seen : (len : ℕ) (text : Bytes) (it : Sight) → sight len text ≡ it → IsSeen len text it
sight_seen len text it e = subst (IsSeen len text) e (seen_at len text (skip text) refl)

pub end_is : (len : ℕ) (text : Bytes) → sight len text ≡ End → AtTextEnd text
end_is len text e = sight_seen len text End e

no_redirection : (len : ℕ) (text : Bytes) (fault : LexFault) → sight len text ≡ Wrong fault → IsNoRedirection text
no_redirection len text fault e which rest h = wrong_operator (sym e ∙ sees_redirected len text rest which h)

wrong_settled : (len : ℕ) (text : Bytes) (fault : LexFault) → IsWrongSeen len text fault → IsNoRedirection text → IsWrong len text fault
wrong_settled len text fault (wrong h) none = h
wrong_settled len text fault (some_input n other) none = input n other none
wrong_settled len text fault (some_output n) none = output n none

pub wrong_is : (len : ℕ) (text : Bytes) (fault : LexFault) → sight len text ≡ Wrong fault → IsWrong len text fault
wrong_is len text fault e = wrong_settled len text fault (sight_seen len text (Wrong fault) e) (no_redirection len text fault e)

-- ---- what is spelled is seen

pub end_seen : (len : ℕ) (text : Bytes) → AtTextEnd text → sight len text ≡ End
end_seen len text e = ap (λ t. sight_at len (place len t) t) e

-- digits, perhaps none, and another byte
digits_sight : (len : ℕ) (digits text from rest : Bytes) → list_all is_digit digits ≡ true → Stands digits text from → (b : ℕ) → skip from ≡ b ∷ rest → is_digit b ≡ false
    → ((at : ℕ) → sight_by len at b (kind b) rest ≡ numbered_by at [] (kind b) rest) → sight len text ≡ numbered_by (offset len from) digits (kind b) rest
digits_sight len [] text from rest pass h b e other same =
    ap (sight len) h ∙ shown len b from rest e ∙ same (place len (b ∷ rest)) ∙ ap (λ t. numbered_by (place len t) [] (kind b) rest) (sym e)
digits_sight len (d ∷ digits) text from rest pass h b e other same =
    let all : IsRun is_digit (d ∷ digits) (d ∷ h.0) from = record { stands = subst (λ t. Stands (d ∷ digits) t from) h.1 (skip_stands d digits text from h); pass = pass; longest = ap (begins is_digit) e ∙ other } in
    shown len d text h.0 h.1 ∙ ap (λ it. sight_by len (place len (d ∷ h.0)) d it h.0) (digit_kind d (and_parts (is_digit d) (list_all is_digit digits) pass).0)
    ∙ ap (λ number. numbered len number (skip (behind Digits (d ∷ h.0)))) (run_is is_digit (d ∷ digits) (d ∷ h.0) from all)
    ∙ ap (λ t. numbered len (d ∷ digits) (skip t)) (behind_is is_digit (d ∷ digits) (d ∷ h.0) from all)
    ∙ ap (numbered len (d ∷ digits)) e ∙ ap (λ t. numbered_by (place len t) (d ∷ digits) (kind b) rest) (sym e)

pub less_sight : (len : ℕ) (text from rest : Bytes) (n : IsNumbered (codes "<") text from rest) → sight len text ≡ less (offset len from) n.digits rest
less_sight len text from rest n =
    digits_sight len n.digits text from n.stands.0 n.pass n.number 60 n.stands.1 refl (λ at. refl) ∙ ap (less (offset len from) n.digits) n.stands.2

pub greater_sight : (len : ℕ) (text from rest : Bytes) (n : IsNumbered (codes ">") text from rest) → sight len text ≡ greater (offset len from) n.digits rest
greater_sight len text from rest n =
    digits_sight len n.digits text from n.stands.0 n.pass n.number 62 n.stands.1 refl (λ at. refl) ∙ ap (greater (offset len from) n.digits) n.stands.2

-- what is no redirection
redirected_other : (at : ℕ) (which : Option Redirect) (t : Option Bytes) → ((it : Redirect) (rest : Bytes) → redirected at which t ≡ Operator (s.Redirect it) rest → ⊥)
    → redirected at which t ≡ Wrong (Unsupported form.Redirect at)
redirected_other at None t none = refl
redirected_other at (Some which) None none = refl
redirected_other at (Some which) (Some rest) none = absurd (none which rest refl)

copied_other : (at : ℕ) (number t : Bytes) → ((it : Redirect) (rest : Bytes) → copied at number t ≡ Operator (s.Redirect it) rest → ⊥) → copied at number t ≡ Wrong (Unsupported form.Redirect at)
copied_other at number [] none = refl
copied_other at number (b ∷ rest) none = redirected_other at (copy_of number b) (whole_word (Some rest)) none

greater_other : (at : ℕ) (number t : Bytes) → ((it : Redirect) (rest : Bytes) → greater at number t ≡ Operator (s.Redirect it) rest → ⊥) → greater at number t ≡ Wrong (Unsupported form.Redirect at)
greater_other at number t =
    let Other : Sight → Type 0 = λ x. ((it : Redirect) (rest : Bytes) → x ≡ Operator (s.Redirect it) rest → ⊥) → x ≡ Wrong (Unsupported form.Redirect at) in
    let copy = copied at number (skip (tail (skip t))) in
    let plain = redirected at (out_to number) (null_word t) in
    cond_both (head_is 62 (skip t)) (redirected at (out_to number) (null_word (tail (skip t)))) (if head_is 38 (skip t) then copy else plain) Other
    (λ _. redirected_other at (out_to number) (null_word (tail (skip t))))
    (λ _. cond_both (head_is 38 (skip t)) copy plain Other (λ _. copied_other at number (skip (tail (skip t)))) (λ _. redirected_other at (out_to number) (null_word t)))

less_other : (at : ℕ) (number t : Bytes) → head_is 60 (skip t) ≡ false → ((it : Redirect) (rest : Bytes) → less at number t ≡ Operator (s.Redirect it) rest → ⊥) → less at number t ≡ Wrong (Unsupported form.Redirect at)
less_other at number t =
    cond_both (head_is 60 (skip t)) (Wrong (Unsupported form.Heredoc at)) (redirected at (in_from number) (null_word t))
    (λ x. head_is 60 (skip t) ≡ false → ((it : Redirect) (rest : Bytes) → x ≡ Operator (s.Redirect it) rest → ⊥) → x ≡ Wrong (Unsupported form.Redirect at))
    (λ two one none. absurd (true≢false (sym two ∙ one))) (λ _ _ none. redirected_other at (in_from number) (null_word t) none)

-- a redirection that is seen is spelled
none_seen : (len : ℕ) (text : Bytes) (it : Sight) → IsNoRedirection text → sight len text ≡ it → (which : Redirect) (rest : Bytes) → it ≡ Operator (s.Redirect which) rest → ⊥
none_seen len text it none e which rest h = none which rest (operator_seen len text rest (s.Redirect which) (e ∙ h))

pub wrong_seen : (len : ℕ) (text : Bytes) (fault : LexFault) → IsWrong len text fault → sight len text ≡ Wrong fault
wrong_seen len text fault (background {rest = rest} h other) =
    shown len 38 text h.0 h.1
    ∙ cond-false (head_is 38 (skip h.0)) (Operator s.AndAnd (tail (skip h.0))) (Wrong (Unsupported form.Background (place len (38 ∷ h.0)))) (ap (λ t. head_is 38 (skip t)) h.2 ∙ is_not 38 (skip rest) other)
    ∙ ap (λ t. Wrong (Unsupported form.Background (place len t))) (sym h.1)
wrong_seen len text fault (arithmetic_command h) =
    shown len 40 text h.0 h.1
    ∙ cond-true (head_is 40 (skip h.0)) (Wrong (Unsupported form.Arith (place len (40 ∷ h.0)))) (Operator s.LeftParen h.0) (head_of 40 (skip h.0) h.2.0 h.2.1 refl).0
    ∙ ap (λ t. Wrong (Unsupported form.Arith (place len t))) (sym h.1)
wrong_seen len text fault (here_document {from = from} n) =
    let one : IsNumbered (codes "<") text from n.stands.0 = record { digits = n.digits; pass = n.pass; number = n.number; stands = (n.stands.0, n.stands.1, refl) } in
    less_sight len text from n.stands.0 one
    ∙ cond-true (head_is 60 (skip n.stands.0)) (Wrong (Unsupported form.Heredoc (offset len from))) (redirected (offset len from) (in_from n.digits) (null_word n.stands.0))
    (head_of 60 (skip n.stands.0) n.stands.2.0 n.stands.2.1 refl).0
wrong_seen len text fault (input {from = from} {rest = rest} n other none) =
    let e = less_sight len text from rest n in
    e ∙ less_other (offset len from) n.digits rest (is_not 60 (skip rest) other) (none_seen len text (less (offset len from) n.digits rest) none e)
wrong_seen len text fault (output {from = from} {rest = rest} n none) =
    let e = greater_sight len text from rest n in
    e ∙ greater_other (offset len from) n.digits rest (none_seen len text (greater (offset len from) n.digits rest) none e)

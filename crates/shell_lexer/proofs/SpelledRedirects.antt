-- A redirection is seen exactly where one of its spellings stands.
use Rattle.std.proofs.Common.{◌≡◌, ℕ, Bool, true, false, if◌then◌else◌, ◌||◌, ◌&&◌, nat_eq, [], ◌∷◌, ◌++◌, Option, Some, None, refl, sym, ap, ◌∙◌, subst, codes}
use Rattle.std.specs.List.{list_all}
use Rattle.std.specs.Str.{bytes_eq}
use Rattle.std.proofs.lemmas.Slice.Eq.{bytes_eq-Decides}
use Rattle.shell_syntax.specs.declared.redirect.Redirect.{Redirect}
use Rattle.shell_syntax.specs.declared.redirect.Redirect.TheVariants as r
use Rattle.shell_lexer.specs.declared.fault.LexFault.{LexFault}
use Rattle.shell_lexer.specs.declared.byte_kind.ByteKind.{ByteKind}
use Rattle.shell_lexer.specs.declared.byte_kind.ByteKind.TheVariants as k
use Rattle.shell_lexer.specs.declared.byte_kind.RunKind.TheVariants.{Blanks, Digits}
use Rattle.shell_lexer.specs.declared.sight.Sign.{Sign}
use Rattle.shell_lexer.specs.declared.sight.Sign.TheVariants as s
use Rattle.script_names.specs.ShellNames.{is_digit}
use Rattle.shell_lexer.specs.Text.{Bytes, kind, skip, place, tail, head_is, is_blank, cells, run_of, behind, behind_bytes, ends_word}
use Rattle.shell_lexer.specs.Operators.{Operator, Wrong, Word, sight, sight_by, numbered, numbered_by, less, greater, copied, redirected, out_to, in_from, copy_of, whole_word, null_word}
use Rattle.shell_lexer.specs.Spelling.{Stands, begins, IsToNull, IsRedirected, output, output_one, append, append_one, error, append_error, input, input_zero, output_to_error, output_one_to_error, error_to_output, IsOperator}
use Rattle.shell_lexer.proofs.SpelledKinds.{KindOf, kind_of, digit_kind}
use Rattle.shell_lexer.proofs.SpelledRuns.{skip_again, stands_then, stands_parts, stands_skip, bytes_stand, bytes_found, IsRun, run_is, behind_is, run_stands}
use Rattle.shell_lexer.proofs.SpelledFronts.{shown, head_of, head_back}
use Rattle.std.proofs.lemmas.Bool.{and_from, and_parts, cond-false, cond-true, cond_both, eqb-true, false≢true}
use Rattle.shell_lexer.proofs.SpelledCases.{or_case, some_same, none_some}

pub wrong_operator : {fault : LexFault} {which : Sign} {rest : Bytes} → Wrong fault ≡ Operator which rest → ⊥
wrong_operator e = cc

word_operator : {which : Sign} {rest : Bytes} → Word ≡ Operator which rest → ⊥
word_operator e = cc

pub sign_same : {a b : Sign} {t u : Bytes} → Operator a t ≡ Operator b u → a ≡ b
sign_same e = cc

pub rest_same : {a b : Sign} {t u : Bytes} → Operator a t ≡ Operator b u → t ≡ u
rest_same e = cc

-- ---- the word `/dev/null`

whole_is : (o : Option Bytes) (rest : Bytes) → whole_word o ≡ Some rest → (o ≡ Some rest) × (ends_word (skip rest) ≡ true)
whole_is None rest e = absurd (none_some e)
whole_is (Some t) rest e =
    cond_both (ends_word (skip t)) (Some t) None (λ x. x ≡ Some rest → (Some t ≡ Some rest) × (ends_word (skip rest) ≡ true))
    (λ is e. (e, ap (λ t. ends_word (skip t)) (sym (some_same e)) ∙ is)) (λ is e. absurd (none_some e)) e

whole_found : (rest : Bytes) → ends_word (skip rest) ≡ true → whole_word (Some rest) ≡ Some rest
whole_found rest e = cond-true (ends_word (skip rest)) (Some rest) None e

null_stands : (text rest : Bytes) → null_word text ≡ Some rest → IsToNull [] text rest
null_stands text rest e =
    let w = whole_is (behind_bytes (codes "/dev/null") (behind Blanks text)) rest e in
    let blanks = run_stands is_blank (run_of is_blank (cells text)) text refl in
    record {
      blanks = run_of is_blank (cells text);
      blank = blanks.pass;
      stands = stands_then (run_of is_blank (cells text)) (codes "/dev/null") text (behind Blanks text) rest blanks.stands (bytes_stand (codes "/dev/null") (behind Blanks text) rest w.0);
      ends = w.1;
    }

null_found : (text rest : Bytes) → IsToNull [] text rest → null_word text ≡ Some rest
null_found text rest h =
    let p = stands_parts h.blanks (codes "/dev/null") text rest h.stands in
    let run : IsRun is_blank h.blanks text p.0 = record { stands = p.1; pass = h.blank; longest = ap (begins is_blank) p.2.1 } in
    ap (λ t. whole_word (behind_bytes (codes "/dev/null") t)) (behind_is is_blank h.blanks text p.0 run)
    ∙ ap whole_word (bytes_found (codes "/dev/null") p.0 rest p.2) ∙ whole_found rest h.ends

null_then : (operator text middle rest : Bytes) → Stands operator text middle → IsToNull [] middle rest → IsToNull operator text rest
null_then operator text middle rest g h =
    record { blanks = h.blanks; blank = h.blank; stands = stands_then operator (h.blanks ++ codes "/dev/null") text middle rest g h.stands; ends = h.ends }

null_parts : (operator text rest : Bytes) → IsToNull operator text rest → (middle : Bytes) × Stands operator text middle × IsToNull [] middle rest
null_parts operator text rest h =
    let p = stands_parts operator (h.blanks ++ codes "/dev/null") text rest h.stands in
    (p.0, p.1, record { blanks = h.blanks; blank = h.blank; stands = p.2; ends = h.ends })

-- no operator's byte stands before it
null_first : (b : ℕ) (text rest : Bytes) → is_blank b ≡ false → nat_eq 47 b ≡ false → IsToNull [] text rest → head_is b (skip text) ≡ false
null_first b text rest not_blank not_slash h = by h.blanks h.blank h.stands where
  blank_is_not : (a : ℕ) → is_blank a ≡ true → (it : Bool) → nat_eq a b ≡ it → it ≡ false
  blank_is_not a is true e = absurd (false≢true (sym not_blank ∙ ap is_blank (sym (eqb-true a b e)) ∙ is))
  blank_is_not a is false e = refl

  by : (blanks : Bytes) → list_all is_blank blanks ≡ true → Stands (blanks ++ codes "/dev/null") text rest → head_is b (skip text) ≡ false
  by [] pass g = ap (head_is b) g.1 ∙ not_slash
  by (a ∷ blanks) pass g = ap (head_is b) g.1 ∙ blank_is_not a (and_parts (is_blank a) (list_all is_blank blanks) pass).0 (nat_eq a b) refl

-- ---- numbers

same_bytes : (xs ys : Bytes) → bytes_eq xs ys ≡ true → xs ≡ ys
same_bytes xs ys e = (bytes_eq-Decides xs ys).0 e

out_number : (P : Redirect → Bytes → Type 0) → P r.OutNull [] → P r.OutNull (codes "1") → P r.ErrNull (codes "2") → (number : Bytes) (which : Redirect) → out_to number ≡ Some which → P which number
out_number P none one two number which =
    cond_both (bytes_eq number [] || bytes_eq number (codes "1")) (Some r.OutNull) (if bytes_eq number (codes "2") then Some r.ErrNull else None) (λ x. x ≡ Some which → P which number)
    (λ is e. subst (λ w. P w number) (some_same e)
    (or_case (bytes_eq number []) (bytes_eq number (codes "1")) is
    (λ is. subst (P r.OutNull) (sym (same_bytes number [] is)) none) (λ is. subst (P r.OutNull) (sym (same_bytes number (codes "1") is)) one)))
    (λ _. cond_both (bytes_eq number (codes "2")) (Some r.ErrNull) None (λ x. x ≡ Some which → P which number)
    (λ is e. subst (λ w. P w number) (some_same e) (subst (P r.ErrNull) (sym (same_bytes number (codes "2") is)) two)) (λ is e. absurd (none_some e)))

in_number : (P : Redirect → Bytes → Type 0) → P r.InNull [] → P r.InNull (codes "0") → (number : Bytes) (which : Redirect) → in_from number ≡ Some which → P which number
in_number P none zero' number which =
    cond_both (bytes_eq number [] || bytes_eq number (codes "0")) (Some r.InNull) None (λ x. x ≡ Some which → P which number)
    (λ is e. subst (λ w. P w number) (some_same e)
    (or_case (bytes_eq number []) (bytes_eq number (codes "0")) is
    (λ is. subst (P r.InNull) (sym (same_bytes number [] is)) none) (λ is. subst (P r.InNull) (sym (same_bytes number (codes "0") is)) zero')))
    (λ is e. absurd (none_some e))

copy_number : (P : Redirect → Bytes → ℕ → Type 0) → P r.OutToErr [] 50 → P r.OutToErr (codes "1") 50 → P r.ErrToOut (codes "2") 49
    → (number : Bytes) (b : ℕ) (which : Redirect) → copy_of number b ≡ Some which → P which number b
copy_number P none one two number b which =
    cond_both ((bytes_eq number [] || bytes_eq number (codes "1")) && nat_eq b 50) (Some r.OutToErr) (if bytes_eq number (codes "2") && nat_eq b 49 then Some r.ErrToOut else None) (λ x. x ≡ Some which → P which number b)
    (λ is e. subst (λ w. P w number b) (some_same e)
    (subst (P r.OutToErr number) (sym (eqb-true b 50 (and_parts (bytes_eq number [] || bytes_eq number (codes "1")) (nat_eq b 50) is).1))
    (or_case (bytes_eq number []) (bytes_eq number (codes "1")) (and_parts (bytes_eq number [] || bytes_eq number (codes "1")) (nat_eq b 50) is).0
    (λ is. subst (λ n. P r.OutToErr n 50) (sym (same_bytes number [] is)) none) (λ is. subst (λ n. P r.OutToErr n 50) (sym (same_bytes number (codes "1") is)) one))))
    (λ _. cond_both (bytes_eq number (codes "2") && nat_eq b 49) (Some r.ErrToOut) None (λ x. x ≡ Some which → P which number b)
    (λ is e. subst (λ w. P w number b) (some_same e)
    (subst (P r.ErrToOut number) (sym (eqb-true b 49 (and_parts (bytes_eq number (codes "2")) (nat_eq b 49) is).1))
    (subst (λ n. P r.ErrToOut n 49) (sym (same_bytes number (codes "2") (and_parts (bytes_eq number (codes "2")) (nat_eq b 49) is).0)) two)))
    (λ is e. absurd (none_some e)))

-- ---- what is seen is spelled

redirected_is : (at : ℕ) (o : Option Redirect) (p : Option Bytes) (which : Sign) (rest : Bytes) → redirected at o p ≡ Operator which rest
    → (it : Redirect) × (o ≡ Some it) × (p ≡ Some rest) × (s.Redirect it ≡ which)
redirected_is at None p which rest e = absurd (wrong_operator e)
redirected_is at (Some it) None which rest e = absurd (wrong_operator e)
redirected_is at (Some it) (Some t) which rest e = (it, refl, ap Some (rest_same e), sign_same e)

-- the number and `>` stand, and what follows
output_seen : (at : ℕ) (number text x rest : Bytes) (which : Sign) → Stands (number ++ codes ">") text x → redirected at (out_to number) (null_word x) ≡ Operator which rest → IsOperator which text rest
output_seen at number text x rest which g e =
    let o = redirected_is at (out_to number) (null_word x) which rest e in
    let null = null_stands x rest o.2 in
    subst (λ w. IsOperator w text rest) o.3
    (out_number (λ w n. Stands (n ++ codes ">") text x → IsRedirected w text rest) (λ g. output (null_then (codes ">") text x rest g null))
    (λ g. output_one (null_then (codes "1>") text x rest g null)) (λ g. error (null_then (codes "2>") text x rest g null)) number o.0 o.1 g)

append_seen : (at : ℕ) (number text x y rest : Bytes) (which : Sign) → Stands (number ++ codes ">") text x → Stands (codes ">") x y → redirected at (out_to number) (null_word y) ≡ Operator which rest → IsOperator which text rest
append_seen at number text x y rest which g more e =
    let o = redirected_is at (out_to number) (null_word y) which rest e in
    let null = null_stands y rest o.2 in
    subst (λ w. IsOperator w text rest) o.3
    (out_number (λ w n. Stands (n ++ codes ">") text x → IsRedirected w text rest) (λ g. append (null_then (codes ">>") text y rest (stands_then (codes ">") (codes ">") text x y g more) null))
    (λ g. append_one (null_then (codes "1>>") text y rest (stands_then (codes "1>") (codes ">") text x y g more) null))
    (λ g. append_error (null_then (codes "2>>") text y rest (stands_then (codes "2>") (codes ">") text x y g more) null)) number o.0 o.1 g)

copy_seen : (at : ℕ) (number text x y t rest : Bytes) (which : Sign) → Stands (number ++ codes ">") text x → skip x ≡ 38 ∷ y → skip y ≡ t → copied at number t ≡ Operator which rest → IsOperator which text rest
copy_seen at number text x y [] rest which g more next e = absurd (wrong_operator e)
copy_seen at number text x y (b ∷ u) rest which g more next e =
    let o = redirected_is at (copy_of number b) (whole_word (Some u)) which rest e in
    let w = whole_is (Some u) rest o.2 in
    subst (λ w. IsOperator w text rest) o.3
    (copy_number (λ w n b. skip y ≡ b ∷ u → Stands (n ++ codes ">") text x → IsRedirected w text rest)
    (λ next g. output_to_error (record { stands = stands_then (codes ">") (codes "&2") text x rest g (y, more, (u, next, some_same w.0)); ends = w.1 }))
    (λ next g. output_one_to_error (record { stands = stands_then (codes "1>") (codes "&2") text x rest g (y, more, (u, next, some_same w.0)); ends = w.1 }))
    (λ next g. error_to_output (record { stands = stands_then (codes "2>") (codes "&1") text x rest g (y, more, (u, next, some_same w.0)); ends = w.1 }))
    number b o.0 o.1 next g)

pub greater_seen : (at : ℕ) (number text x rest : Bytes) (which : Sign) → Stands (number ++ codes ">") text x → greater at number x ≡ Operator which rest → IsOperator which text rest
greater_seen at number text x rest which g e =
    cond_both (head_is 62 (skip x)) _ _ (λ v. v ≡ Operator which rest → IsOperator which text rest)
    (λ is e. append_seen at number text x (tail (skip x)) rest which g (tail (skip x), head_back 62 (skip x) is, refl) e)
    (λ _ e. cond_both (head_is 38 (skip x)) _ _ (λ v. v ≡ Operator which rest → IsOperator which text rest)
    (λ is e. copy_seen at number text x (tail (skip x)) (skip (tail (skip x))) rest which g (head_back 38 (skip x) is) refl e)
    (λ _ e. output_seen at number text x rest which g e) e) e

pub less_seen : (at : ℕ) (number text x rest : Bytes) (which : Sign) → Stands (number ++ codes "<") text x → less at number x ≡ Operator which rest → IsOperator which text rest
less_seen at number text x rest which g e =
    cond_both (head_is 60 (skip x)) _ _ (λ v. v ≡ Operator which rest → IsOperator which text rest)
    (λ is e. absurd (wrong_operator e))
    (λ _ e.
    let o = redirected_is at (in_from number) (null_word x) which rest e in
    let null = null_stands x rest o.2 in
    subst (λ w. IsOperator w text rest) o.3
    (in_number (λ w n. Stands (n ++ codes "<") text x → IsRedirected w text rest) (λ g. input (null_then (codes "<") text x rest g null))
    (λ g. input_zero (null_then (codes "0<") text x rest g null)) number o.0 o.1 g)) e

-- a number that stands from its first byte on, and `<` or `>`
number_then : (b : ℕ) (number text middle rest : Bytes) → Stands number (skip text) middle → skip middle ≡ b ∷ rest → Stands (number ++ b ∷ []) text rest
number_then b [] text middle rest g e = (rest, (sym (skip_again text) ∙ ap skip g) ∙ e, refl)
number_then b (a ∷ number) text middle rest g e = stands_skip a (number ++ b ∷ []) text rest (stands_then (a ∷ number) (b ∷ []) (skip text) middle rest g (rest, e, refl))

numbered_by_seen : (at c : ℕ) (number text middle u rest : Bytes) (which : Sign) (it : ByteKind) → Stands number (skip text) middle → skip middle ≡ c ∷ u → KindOf c it
    → numbered_by at number it u ≡ Operator which rest → IsOperator which text rest
numbered_by_seen at c number text middle u rest which k.Less g next is e = less_seen at number text u rest which (number_then 60 number text middle u g (next ∙ ap (λ c. c ∷ u) is)) e
numbered_by_seen at c number text middle u rest which k.Greater g next is e = greater_seen at number text u rest which (number_then 62 number text middle u g (next ∙ ap (λ c. c ∷ u) is)) e
numbered_by_seen at c number text middle u rest which _ g next is e = absurd (word_operator e)

pub numbered_seen : (len : ℕ) (number text middle t rest : Bytes) (which : Sign) → Stands number (skip text) middle → skip middle ≡ t → numbered len number t ≡ Operator which rest → IsOperator which text rest
numbered_seen len number text middle [] rest which g next e = absurd (word_operator e)
numbered_seen len number text middle (c ∷ u) rest which g next e = numbered_by_seen (place len (c ∷ u)) c number text middle u rest which (kind c) g next (kind_of c) e

-- ---- what is spelled is seen

plain_greater : (len : ℕ) (text x : Bytes) → Stands (codes ">") text x → (at : ℕ) × (sight len text ≡ greater at [] x)
plain_greater len text x h = (place len (62 ∷ h.0), shown len 62 text h.0 h.1 ∙ ap (greater (place len (62 ∷ h.0)) []) h.2)

plain_less : (len : ℕ) (text x : Bytes) → Stands (codes "<") text x → (at : ℕ) × (sight len text ≡ less at [] x)
plain_less len text x h = (place len (60 ∷ h.0), shown len 60 text h.0 h.1 ∙ ap (less (place len (60 ∷ h.0)) []) h.2)

-- one digit, and another byte behind it
digit_sight : (len d : ℕ) (text more : Bytes) → is_digit d ≡ true → skip text ≡ d ∷ more → begins is_digit (skip more) ≡ false → sight len text ≡ numbered len (d ∷ []) (skip more)
digit_sight len d text more is e other =
    let one : IsRun is_digit (d ∷ []) (d ∷ more) more = record { stands = (more, sym (ap skip e) ∙ skip_again text ∙ e, refl); pass = and_from (is_digit d) true is refl; longest = other } in
    shown len d text more e ∙ ap (λ it. sight_by len (place len (d ∷ more)) d it more) (digit_kind d is)
    ∙ ap (λ number. numbered len number (skip (behind Digits (d ∷ more)))) (run_is is_digit (d ∷ []) (d ∷ more) more one)
    ∙ ap (λ t. numbered len (d ∷ []) (skip t)) (behind_is is_digit (d ∷ []) (d ∷ more) more one)

digit_greater : (len d : ℕ) (text x : Bytes) → is_digit d ≡ true → Stands (d ∷ codes ">") text x → (at : ℕ) × (sight len text ≡ greater at (d ∷ []) x)
digit_greater len d text x is h =
    (place len (62 ∷ h.2.0), digit_sight len d text h.0 is h.1 (ap (begins is_digit) h.2.1) ∙ ap (numbered len (d ∷ [])) h.2.1 ∙ ap (greater (place len (62 ∷ h.2.0)) (d ∷ [])) h.2.2)

digit_less : (len d : ℕ) (text x : Bytes) → is_digit d ≡ true → Stands (d ∷ codes "<") text x → (at : ℕ) × (sight len text ≡ less at (d ∷ []) x)
digit_less len d text x is h =
    (place len (60 ∷ h.2.0), digit_sight len d text h.0 is h.1 (ap (begins is_digit) h.2.1) ∙ ap (numbered len (d ∷ [])) h.2.1 ∙ ap (less (place len (60 ∷ h.2.0)) (d ∷ [])) h.2.2)

redirected_both : (at : ℕ) (which : Redirect) (rest : Bytes) (o : Option Redirect) (p : Option Bytes) → o ≡ Some which → p ≡ Some rest → redirected at o p ≡ Operator (s.Redirect which) rest
redirected_both at which rest o p e g = ap (λ o. redirected at o p) e ∙ ap (redirected at (Some which)) g

greater_null : (at : ℕ) (number x rest : Bytes) (which : Redirect) → out_to number ≡ Some which → IsToNull [] x rest → greater at number x ≡ Operator (s.Redirect which) rest
greater_null at number x rest which o h =
    cond-false (head_is 62 (skip x)) _ _ (null_first 62 x rest refl refl h) ∙ cond-false (head_is 38 (skip x)) _ _ (null_first 38 x rest refl refl h)
    ∙ redirected_both at which rest (out_to number) (null_word x) o (null_found x rest h)

greater_append : (at : ℕ) (number x y rest : Bytes) (which : Redirect) → out_to number ≡ Some which → Stands (codes ">") x y → IsToNull [] y rest → greater at number x ≡ Operator (s.Redirect which) rest
greater_append at number x y rest which o g h =
    let a = head_of 62 (skip x) g.0 g.1 refl in
    cond-true (head_is 62 (skip x)) _ _ a.0 ∙ redirected_both at which rest (out_to number) (null_word (tail (skip x))) o (ap null_word (a.1 ∙ g.2) ∙ null_found y rest h)

greater_copy : (at d : ℕ) (number x rest : Bytes) (which : Redirect) → copy_of number d ≡ Some which → Stands (38 ∷ d ∷ []) x rest → ends_word (skip rest) ≡ true → greater at number x ≡ Operator (s.Redirect which) rest
greater_copy at d number x rest which o g ends =
    let a = head_of 38 (skip x) g.0 g.1 refl in
    cond-false (head_is 62 (skip x)) _ _ (ap (head_is 62) g.1) ∙ cond-true (head_is 38 (skip x)) _ _ a.0
    ∙ ap (copied at number) (ap skip a.1 ∙ g.2.1)
    ∙ redirected_both at which rest (copy_of number d) (whole_word (Some g.2.0)) o (ap (λ t. whole_word (Some t)) g.2.2 ∙ whole_found rest ends)

less_null : (at : ℕ) (number x rest : Bytes) (which : Redirect) → in_from number ≡ Some which → IsToNull [] x rest → less at number x ≡ Operator (s.Redirect which) rest
less_null at number x rest which o h =
    cond-false (head_is 60 (skip x)) _ _ (null_first 60 x rest refl refl h) ∙ redirected_both at which rest (in_from number) (null_word x) o (null_found x rest h)

pub sees_redirected : (len : ℕ) (text rest : Bytes) (which : Redirect) → IsRedirected which text rest → sight len text ≡ Operator (s.Redirect which) rest
sees_redirected len text rest which (output h) =
    let p = null_parts (codes ">") text rest h in let a = plain_greater len text p.0 p.1 in a.1 ∙ greater_null a.0 [] p.0 rest r.OutNull refl p.2
sees_redirected len text rest which (output_one h) =
    let p = null_parts (codes "1>") text rest h in let a = digit_greater len 49 text p.0 refl p.1 in a.1 ∙ greater_null a.0 (codes "1") p.0 rest r.OutNull refl p.2
sees_redirected len text rest which (error h) =
    let p = null_parts (codes "2>") text rest h in let a = digit_greater len 50 text p.0 refl p.1 in a.1 ∙ greater_null a.0 (codes "2") p.0 rest r.ErrNull refl p.2
sees_redirected len text rest which (append h) =
    let p = null_parts (codes ">>") text rest h in
    let q = stands_parts (codes ">") (codes ">") text p.0 p.1 in
    let a = plain_greater len text q.0 q.1 in a.1 ∙ greater_append a.0 [] q.0 p.0 rest r.OutNull refl q.2 p.2
sees_redirected len text rest which (append_one h) =
    let p = null_parts (codes "1>>") text rest h in
    let q = stands_parts (codes "1>") (codes ">") text p.0 p.1 in
    let a = digit_greater len 49 text q.0 refl q.1 in a.1 ∙ greater_append a.0 (codes "1") q.0 p.0 rest r.OutNull refl q.2 p.2
sees_redirected len text rest which (append_error h) =
    let p = null_parts (codes "2>>") text rest h in
    let q = stands_parts (codes "2>") (codes ">") text p.0 p.1 in
    let a = digit_greater len 50 text q.0 refl q.1 in a.1 ∙ greater_append a.0 (codes "2") q.0 p.0 rest r.ErrNull refl q.2 p.2
sees_redirected len text rest which (input h) =
    let p = null_parts (codes "<") text rest h in let a = plain_less len text p.0 p.1 in a.1 ∙ less_null a.0 [] p.0 rest r.InNull refl p.2
sees_redirected len text rest which (input_zero h) =
    let p = null_parts (codes "0<") text rest h in let a = digit_less len 48 text p.0 refl p.1 in a.1 ∙ less_null a.0 (codes "0") p.0 rest r.InNull refl p.2
sees_redirected len text rest which (output_to_error h) =
    let q = stands_parts (codes ">") (codes "&2") text rest h.stands in
    let a = plain_greater len text q.0 q.1 in a.1 ∙ greater_copy a.0 50 [] q.0 rest r.OutToErr refl q.2 h.ends
sees_redirected len text rest which (output_one_to_error h) =
    let q = stands_parts (codes "1>") (codes "&2") text rest h.stands in
    let a = digit_greater len 49 text q.0 refl q.1 in a.1 ∙ greater_copy a.0 50 (codes "1") q.0 rest r.OutToErr refl q.2 h.ends
sees_redirected len text rest which (error_to_output h) =
    let q = stands_parts (codes "2>") (codes "&1") text rest h.stands in
    let a = digit_greater len 50 text q.0 refl q.1 in a.1 ∙ greater_copy a.0 49 (codes "2") q.0 rest r.ErrToOut refl q.2 h.ends

-- Operators and redirections, as they are printed, are one token.
use Rattle.std.proofs.Common.{◌≡◌, ℕ, Bool, true, false, nat_eq, List, [], ◌∷◌, ◌++◌, codes, refl, sym, ap, ◌∙◌, subst}
use Rattle.shell_syntax.specs.declared.redirect.Redirect.{Redirect}
use Rattle.shell_syntax.specs.declared.redirect.Redirect.TheVariants.{OutNull, ErrNull, InNull, OutToErr, ErrToOut}
use Rattle.shell_lexer.specs.declared.sight.Sign.{Sign}
use Rattle.shell_lexer.specs.declared.sight.Sign.TheVariants as sign
use Rattle.shell_lexer.specs.declared.token.Token.{Token}
use Rattle.shell_lexer.specs.Operators.{sight_at}
use Rattle.shell_lexer.specs.Spelling.{IsOperator, IsNotNext, IsRedirected, output, error, input, output_to_error, error_to_output}
use Rattle.shell_lexer.specs.Reading.{Out, behind, opened, closes, kind_of_sign, token_at, IsItems, items_pass, items_sign, items_close}
use Rattle.shell_lexer.specs.Text.{Bytes, skip, place, offset, ends_word}
use Rattle.token_laws.specs.PrintedLaws.{is_apart, operator_text, OperatorsReadBack, SubstitutionsClose}
use Rattle.std.proofs.lemmas.Bool.{eqb-true}
use Rattle.shell_lexer.proofs.SpelledCases.{eq_same, or_case}
use Rattle.shell_lexer.proofs.SpelledOperators.{sees_operator}
use Rattle.shell_lexer.proofs.PrintedBytes.{clash, skip_first, stands_here}

-- ---- what stands behind

heads : (b : ℕ) {c : ℕ} {t u : Bytes} → b ∷ t ≡ c ∷ u → b ≡ c
heads b e = cc

no_nil : {c : ℕ} {u : Bytes} → [] ≡ c ∷ u → ⊥
no_nil e = cc

-- no byte but a blank or a newline comes next
not_next : (b : ℕ) (rest : Bytes) → is_apart rest ≡ true → nat_eq 32 b ≡ false → nat_eq 10 b ≡ false → IsNotNext b rest
not_next b [] e f g = λ more h. no_nil h
not_next b (a ∷ t) e f g = λ more h.
    or_case (nat_eq a 32) (nat_eq a 10) e
    (λ i. clash f (subst (λ x. nat_eq x b ≡ true) (sym (heads 32 (sym (skip_first 32 t refl) ∙ ap (λ x. skip (x ∷ t)) (sym (eqb-true a 32 i)) ∙ h))) (same b)))
    (λ i. clash g (subst (λ x. nat_eq x b ≡ true) (sym (heads 10 (sym (skip_first 10 t refl) ∙ ap (λ x. skip (x ∷ t)) (sym (eqb-true a 10 i)) ∙ h))) (same b)))
  where
    same : (x : ℕ) → nat_eq x x ≡ true
    same x = eq_same x

ends_there : (rest : Bytes) → is_apart rest ≡ true → ends_word (skip rest) ≡ true
ends_there [] e = refl
ends_there (b ∷ t) e =
    or_case (nat_eq b 32) (nat_eq b 10) e
    (λ f. subst (λ x. ends_word (skip (x ∷ t)) ≡ true) (sym (eqb-true b 32 f)) (ap ends_word (skip_first 32 t refl)))
    (λ f. subst (λ x. ends_word (skip (x ∷ t)) ≡ true) (sym (eqb-true b 10 f)) (ap ends_word (skip_first 10 t refl)))

-- ---- how they are spelled behind the blank

abbrev redirection : Redirect → Bytes
redirection OutNull = codes ">/dev/null"
redirection ErrNull = codes "2>/dev/null"
redirection InNull = codes "</dev/null"
redirection OutToErr = codes ">&2"
redirection ErrToOut = codes "2>&1"

abbrev spelled : Sign → Bytes
spelled sign.Newline = codes "\n"
spelled sign.Semi = codes ";"
spelled sign.DoubleSemi = codes ";;"
spelled sign.AndAnd = codes "&&"
spelled sign.OrOr = codes "||"
spelled sign.Bar = codes "|"
spelled sign.LeftParen = codes "("
spelled sign.RightParen = codes ")"
spelled (sign.Redirect which) = redirection which

redirected : (which : Redirect) (rest : Bytes) → ends_word (skip rest) ≡ true → IsRedirected which (redirection which ++ rest) rest
redirected OutNull rest e = output (record { blanks = []; blank = refl; stands = stands_here (codes ">/dev/null") rest refl; ends = e })
redirected ErrNull rest e = error (record { blanks = []; blank = refl; stands = stands_here (codes "2>/dev/null") rest refl; ends = e })
redirected InNull rest e = input (record { blanks = []; blank = refl; stands = stands_here (codes "</dev/null") rest refl; ends = e })
redirected OutToErr rest e = output_to_error (record { stands = stands_here (codes ">&2") rest refl; ends = e })
redirected ErrToOut rest e = error_to_output (record { stands = stands_here (codes "2>&1") rest refl; ends = e })

stands : (which : Sign) (rest : Bytes) → is_apart rest ≡ true → IsOperator which (spelled which ++ rest) rest
stands sign.Newline rest e = stands_here (codes "\n") rest refl
stands sign.Semi rest e = (stands_here (codes ";") rest refl, not_next 59 rest e refl refl)
stands sign.DoubleSemi rest e = stands_here (codes ";;") rest refl
stands sign.AndAnd rest e = stands_here (codes "&&") rest refl
stands sign.OrOr rest e = stands_here (codes "||") rest refl
stands sign.Bar rest e = (stands_here (codes "|") rest refl, not_next 124 rest e refl refl)
stands sign.LeftParen rest e = (stands_here (codes "(") rest refl, not_next 40 rest e refl refl)
stands sign.RightParen rest e = stands_here (codes ")") rest refl
stands (sign.Redirect which) rest e = redirected which rest (ends_there rest e)

-- ---- the tokens

module _ (deep : ℕ → Bool) (len depth «from» parens : ℕ) (rest : Bytes) (q : Out (List Token)) (e : is_apart rest ≡ true) where
  token_read : (which : Sign) → closes depth parens which ≡ false → IsItems deep len depth «from» (opened which parens) rest q
      → IsItems deep len depth «from» parens (spelled which ++ rest) (behind (token_at (offset len (spelled which ++ rest)) (kind_of_sign which) ∷ []) q)
  token_read which c x = items_sign which rest q (sees_operator len (spelled which ++ rest) rest which (stands which rest e)) c x refl

  abbrev IsRead : Sign → Type 0
  IsRead which = (at : ℕ) × IsItems deep len depth «from» parens (operator_text which ++ rest) (behind (token_at at (kind_of_sign which) ∷ []) q)

  -- behind a blank
  blank_read : (which : Sign) → closes depth parens which ≡ false → IsItems deep len depth «from» (opened which parens) rest q
      → (at : ℕ) × IsItems deep len depth «from» parens (32 ∷ (spelled which ++ rest)) (behind (token_at at (kind_of_sign which) ∷ []) q)
  blank_read which c x =
      let u = spelled which ++ rest in
      (offset len u, items_pass u (ap (λ t. sight_at len (place len t) t) (skip_first 32 u refl)) (token_read which c x))

  sign_read : (which : Sign) → closes depth parens which ≡ false → IsItems deep len depth «from» (opened which parens) rest q → IsRead which
  sign_read sign.Newline c x = (offset len (codes "\n" ++ rest), token_read sign.Newline c x)
  sign_read sign.Semi c x = blank_read sign.Semi c x
  sign_read sign.DoubleSemi c x = blank_read sign.DoubleSemi c x
  sign_read sign.AndAnd c x = blank_read sign.AndAnd c x
  sign_read sign.OrOr c x = blank_read sign.OrOr c x
  sign_read sign.Bar c x = blank_read sign.Bar c x
  sign_read sign.LeftParen c x = blank_read sign.LeftParen c x
  sign_read sign.RightParen c x = blank_read sign.RightParen c x
  sign_read (sign.Redirect OutNull) c x = blank_read (sign.Redirect OutNull) c x
  sign_read (sign.Redirect ErrNull) c x = blank_read (sign.Redirect ErrNull) c x
  sign_read (sign.Redirect InNull) c x = blank_read (sign.Redirect InNull) c x
  sign_read (sign.Redirect OutToErr) c x = blank_read (sign.Redirect OutToErr) c x
  sign_read (sign.Redirect ErrToOut) c x = blank_read (sign.Redirect ErrToOut) c x

pub operators_read_back : OperatorsReadBack
operators_read_back deep len depth «from» parens which rest q e c x = sign_read deep len depth «from» parens rest q e which c x

pub substitutions_close : SubstitutionsClose
substitutions_close deep len depth «from» rest =
    items_pass (41 ∷ rest) refl (items_close sign.RightParen rest (sees_operator len (41 ∷ rest) rest sign.RightParen (stands_here (codes ")") rest refl)) refl refl)

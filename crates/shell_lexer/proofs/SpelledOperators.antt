-- An operator is seen exactly where its spelling stands and no longer one does.
use Rattle.std.proofs.Common.{◌≡◌, ℕ, true, false, nat_eq, [], ◌∷◌, refl, sym, ap, ◌∙◌, subst}
use Rattle.shell_lexer.specs.declared.byte_kind.ByteKind.{ByteKind}
use Rattle.shell_lexer.specs.declared.byte_kind.ByteKind.TheVariants as k
use Rattle.shell_lexer.specs.declared.sight.Sign.{Sign}
use Rattle.shell_lexer.specs.declared.sight.Sign.TheVariants as s
use Rattle.script_names.specs.ShellNames.{is_digit}
use Rattle.shell_lexer.specs.Text.{Bytes, kind, skip, place, tail, head_is, cells, run_of, behind_run}
use Rattle.shell_lexer.specs.Operators.{Sight, Operator, sight, sight_at, sight_by, twice}
use Rattle.shell_lexer.specs.Spelling.{Stands, IsNotNext, IsOperator}
use Rattle.shell_lexer.proofs.SpelledKinds.{KindOf, kind_of}
use Rattle.shell_lexer.proofs.SpelledRuns.{run_stands}
use Rattle.shell_lexer.proofs.SpelledFronts.{shown, head_of, head_back, is_not, not_next}
use Rattle.shell_lexer.proofs.SpelledRedirects.{sign_same, rest_same, sees_redirected, greater_seen, less_seen, numbered_seen}
use Rattle.std.proofs.lemmas.Bool.{cond_both}

-- ---- what is spelled is seen

twice_longer : (b : ℕ) (next : Bytes) (x y : Sight) → head_is b next ≡ true → twice b next x y ≡ x
twice_longer b next x y e = rw e

twice_shorter : (b : ℕ) (next : Bytes) (x y : Sight) → head_is b next ≡ false → twice b next x y ≡ y
twice_shorter b next x y e = rw e

pub sees_operator : (len : ℕ) (text rest : Bytes) (which : Sign) → IsOperator which text rest → sight len text ≡ Operator which rest
sees_operator len text rest s.Newline h = shown len 10 text h.0 h.1 ∙ ap (Operator s.Newline) h.2
sees_operator len text rest s.RightParen h = shown len 41 text h.0 h.1 ∙ ap (Operator s.RightParen) h.2
sees_operator len text rest s.LeftParen h =
    shown len 40 text h.0.0 h.0.1 ∙ twice_shorter 40 (skip h.0.0) _ _ (ap (λ t. head_is 40 (skip t)) h.0.2 ∙ is_not 40 (skip rest) h.1) ∙ ap (Operator s.LeftParen) h.0.2
sees_operator len text rest s.Semi h =
    shown len 59 text h.0.0 h.0.1 ∙ twice_shorter 59 (skip h.0.0) _ _ (ap (λ t. head_is 59 (skip t)) h.0.2 ∙ is_not 59 (skip rest) h.1) ∙ ap (Operator s.Semi) h.0.2
sees_operator len text rest s.Bar h =
    shown len 124 text h.0.0 h.0.1 ∙ twice_shorter 124 (skip h.0.0) _ _ (ap (λ t. head_is 124 (skip t)) h.0.2 ∙ is_not 124 (skip rest) h.1) ∙ ap (Operator s.Bar) h.0.2
sees_operator len text rest s.DoubleSemi h =
    let a = head_of 59 (skip h.0) h.2.0 h.2.1 refl in
    shown len 59 text h.0 h.1 ∙ twice_longer 59 (skip h.0) _ _ a.0 ∙ ap (Operator s.DoubleSemi) (a.1 ∙ h.2.2)
sees_operator len text rest s.AndAnd h =
    let a = head_of 38 (skip h.0) h.2.0 h.2.1 refl in
    shown len 38 text h.0 h.1 ∙ twice_longer 38 (skip h.0) _ _ a.0 ∙ ap (Operator s.AndAnd) (a.1 ∙ h.2.2)
sees_operator len text rest s.OrOr h =
    let a = head_of 124 (skip h.0) h.2.0 h.2.1 refl in
    shown len 124 text h.0 h.1 ∙ twice_longer 124 (skip h.0) _ _ a.0 ∙ ap (Operator s.OrOr) (a.1 ∙ h.2.2)
sees_operator len text rest (s.Redirect which) h = sees_redirected len text rest which h

-- ---- what is seen is spelled

one_byte : (b c : ℕ) (text more rest : Bytes) (which seen : Sign) → skip text ≡ c ∷ more → c ≡ b → Operator seen more ≡ Operator which rest
    → (Stands (b ∷ []) text rest → IsOperator seen text rest) → IsOperator which text rest
one_byte b c text more rest which seen e is h make = subst (λ w. IsOperator w text rest) (sign_same h) (make (more, e ∙ ap (λ c. c ∷ more) is, rest_same h))

two_bytes : (b c : ℕ) (text more rest : Bytes) (which seen : Sign) → skip text ≡ c ∷ more → c ≡ b → head_is b (skip more) ≡ true → Operator seen (tail (skip more)) ≡ Operator which rest
    → (Stands (b ∷ b ∷ []) text rest → IsOperator seen text rest) → IsOperator which text rest
two_bytes b c text more rest which seen e is next h make =
    subst (λ w. IsOperator w text rest) (sign_same h) (make (more, e ∙ ap (λ c. c ∷ more) is, (tail (skip more), head_back b (skip more) next, rest_same h)))

-- no second byte
shorter : (b : ℕ) (more rest : Bytes) (which seen : Sign) → nat_eq b b ≡ true → head_is b (skip more) ≡ false → Operator seen more ≡ Operator which rest → IsNotNext b rest
shorter b more rest which seen r e h = not_next b rest r (ap (λ t. head_is b (skip t)) (sym (rest_same h)) ∙ e)

seen_by : (len at c : ℕ) (text more rest : Bytes) (which : Sign) (it : ByteKind) → skip text ≡ c ∷ more → KindOf c it → sight_by len at c it more ≡ Operator which rest → IsOperator which text rest
seen_by len at c text more rest which k.Newline e is h = one_byte 10 c text more rest which s.Newline e is h (λ g. g)
seen_by len at c text more rest which k.Close e is h = one_byte 41 c text more rest which s.RightParen e is h (λ g. g)
seen_by len at c text more rest which k.Open e is h =
    cond_both (head_is 40 (skip more)) _ _ (λ x. x ≡ Operator which rest → IsOperator which text rest)
    (λ two h. absurd (cc h)) (λ one h. one_byte 40 c text more rest which s.LeftParen e is h (λ g. (g, shorter 40 more rest which s.LeftParen refl one h))) h
seen_by len at c text more rest which k.Semi e is h =
    cond_both (head_is 59 (skip more)) _ _ (λ x. x ≡ Operator which rest → IsOperator which text rest)
    (λ two h. two_bytes 59 c text more rest which s.DoubleSemi e is two h (λ g. g))
    (λ one h. one_byte 59 c text more rest which s.Semi e is h (λ g. (g, shorter 59 more rest which s.Semi refl one h))) h
seen_by len at c text more rest which k.Bar e is h =
    cond_both (head_is 124 (skip more)) _ _ (λ x. x ≡ Operator which rest → IsOperator which text rest)
    (λ two h. two_bytes 124 c text more rest which s.OrOr e is two h (λ g. g))
    (λ one h. one_byte 124 c text more rest which s.Bar e is h (λ g. (g, shorter 124 more rest which s.Bar refl one h))) h
seen_by len at c text more rest which k.Amp e is h =
    cond_both (head_is 38 (skip more)) _ _ (λ x. x ≡ Operator which rest → IsOperator which text rest)
    (λ two h. two_bytes 38 c text more rest which s.AndAnd e is two h (λ g. g)) (λ one h. absurd (cc h)) h
seen_by len at c text more rest which k.Less e is h = less_seen at [] text more rest which (more, e ∙ ap (λ c. c ∷ more) is, refl) h
seen_by len at c text more rest which k.Greater e is h = greater_seen at [] text more rest which (more, e ∙ ap (λ c. c ∷ more) is, refl) h
seen_by len at c text more rest which k.Digit e is h =
    let run = run_stands is_digit (run_of is_digit (cells (c ∷ more))) (c ∷ more) refl in
    numbered_seen len (run_of is_digit (cells (c ∷ more))) text (behind_run is_digit (c ∷ more) (cells (c ∷ more))) _ rest which
    (subst (λ t. Stands (run_of is_digit (cells (c ∷ more))) t (behind_run is_digit (c ∷ more) (cells (c ∷ more)))) (sym e) run.stands) refl h
seen_by len at c text more rest which _ e is h = absurd (cc h)

seen_at : (len at : ℕ) (text t rest : Bytes) (which : Sign) → skip text ≡ t → sight_at len at t ≡ Operator which rest → IsOperator which text rest
seen_at len at text [] rest which e h = absurd (cc h)
seen_at len at text (c ∷ more) rest which e h = seen_by len at c text more rest which (kind c) e (kind_of c) h

pub operator_seen : (len : ℕ) (text rest : Bytes) (which : Sign) → sight len text ≡ Operator which rest → IsOperator which text rest
operator_seen len text rest which h = seen_at len (place len (skip text)) text (skip text) rest which refl h

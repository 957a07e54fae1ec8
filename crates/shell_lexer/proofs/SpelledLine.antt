-- A first line is accepted exactly where it is spelled as one.
use Rattle.std.proofs.Common.{◌≡◌, ◌⊎◌, inl, inr, ℕ, Bool, true, false, ◌&&◌, nat_eq, [], ◌∷◌, ◌++◌, Option, Some, None, refl, sym, ap, ◌∙◌, subst, codes}
use Rattle.std.specs.List.{list_all}
use Rattle.shell_lexer.specs.Text.{Bytes, is_blank}
use Rattle.shell_lexer.specs.FirstLine.{after, after_blanks, or_else, after_interpreter, strict_end, begins_blank, option_of, option_behind, interpreter_behind, interpreter}
use Rattle.shell_lexer.specs.SpelledLine.{AreBlanks, IsInterpreter, sh, dash, bash, IsFirstLine, plain, strict}
use Rattle.std.proofs.lemmas.Bool.{and_from, and_parts, cond-false, cond-true, cond_both, eqb-true, false≢true}
use Rattle.shell_lexer.proofs.SpelledCases.{some_same, none_some}

-- ---- what is spelled is accepted

-- blanks before another byte are passed over
blanks_pass : (blanks : Bytes) (b : ℕ) (rest : Bytes) → AreBlanks blanks → is_blank b ≡ false → after_blanks (blanks ++ b ∷ rest) ≡ b ∷ rest
blanks_pass [] b rest h n = cond-false (is_blank b) _ _ n
blanks_pass (a ∷ blanks) b rest h n = cond-true (is_blank a) _ _ (and_parts (is_blank a) (list_all is_blank blanks) h).0 ∙ blanks_pass blanks b rest (and_parts (is_blank a) (list_all is_blank blanks) h).1 n

not_all : (blanks : Bytes) (b : ℕ) (rest : Bytes) → AreBlanks blanks → is_blank b ≡ false → list_all is_blank (blanks ++ b ∷ rest) ≡ false
not_all [] b rest h n = ap (λ it. it && list_all is_blank rest) n
not_all (a ∷ blanks) b rest h n =
    ap (λ it. it && list_all is_blank (blanks ++ b ∷ rest)) (and_parts (is_blank a) (list_all is_blank blanks) h).0 ∙ not_all blanks b rest (and_parts (is_blank a) (list_all is_blank blanks) h).1 n

shell_found : (blanks shell rest : Bytes) → AreBlanks blanks → IsInterpreter shell → after_interpreter (after_blanks (blanks ++ (shell ++ rest))) ≡ Some rest
shell_found blanks shell rest h sh = ap after_interpreter (blanks_pass blanks 47 _ h refl)
shell_found blanks shell rest h dash = ap after_interpreter (blanks_pass blanks 47 _ h refl)
shell_found blanks shell rest h bash = ap after_interpreter (blanks_pass blanks 47 _ h refl)

pub line_accepted : (line : Bytes) (asks : Bool) → IsFirstLine asks line → interpreter line ≡ Some asks
line_accepted line asks (plain bs s last b is l e) =
    ap interpreter e ∙ ap option_behind (shell_found bs s last b is) ∙ cond-true (list_all is_blank last) _ _ l
line_accepted line asks (strict bs s a m last b is between l e) =
    let rest = a ∷ (m ++ (codes "-e" ++ last)) in
    ap interpreter e ∙ ap option_behind (shell_found bs s rest b is) ∙ cond-false (list_all is_blank rest) _ _ (not_all (a ∷ m) 45 (101 ∷ last) between refl)
    ∙ cond-true (is_blank a) _ _ (and_parts (is_blank a) (list_all is_blank m) between).0
    ∙ ap (λ t. strict_end (after (codes "-e") t)) (blanks_pass (a ∷ m) 45 (101 ∷ last) between refl) ∙ cond-true (list_all is_blank last) _ _ l

-- ---- what is accepted is spelled

after_is : (bytes line rest : Bytes) → after bytes line ≡ Some rest → line ≡ bytes ++ rest
after_is [] line rest e = some_same e
after_is (b ∷ bytes) [] rest e = absurd (none_some e)
after_is (b ∷ bytes) (a ∷ line) rest e = cond_both (nat_eq a b) (after bytes line) None (λ o. o ≡ Some rest → a ∷ line ≡ b ∷ (bytes ++ rest))
    (λ is e. both a b line (bytes ++ rest) (eqb-true a b is) (after_is bytes line rest e)) (λ _ e. absurd (none_some e)) e where
      both : (a b : ℕ) (t u : Bytes) → a ≡ b → t ≡ u → a ∷ t ≡ b ∷ u
      both a b t u e g = cc

-- the blanks that are passed over
record IsPassed (blanks line : Bytes) : Type 0 where
  pub all : AreBlanks blanks
  pub splits : line ≡ blanks ++ after_blanks line

passed : (line : Bytes) → (blanks : Bytes) × IsPassed blanks line
passed [] = ([], record { all = refl; splits = refl })
passed (b ∷ line) = by (is_blank b) refl (passed line) where
  by : (it : Bool) → is_blank b ≡ it → (blanks : Bytes) × IsPassed blanks line → (blanks : Bytes) × IsPassed blanks (b ∷ line)
  by true e more = (b ∷ more.0, record { all = and_from (is_blank b) (list_all is_blank more.0) e more.1.all; splits = ap (λ t. b ∷ t) more.1.splits ∙ ap (λ t. b ∷ (more.0 ++ t)) (sym (cond-true (is_blank b) (after_blanks line) (b ∷ line) e)) })
  by false e more = ([], record { all = refl; splits = sym (cond-false (is_blank b) (after_blanks line) (b ∷ line) e) })

or_is : (o p : Option Bytes) (rest : Bytes) → or_else o p ≡ Some rest → (o ≡ Some rest) ⊎ (p ≡ Some rest)
or_is None p rest e = inr e
or_is (Some t) p rest e = inl e

-- an interpreter, and what follows
record IsShell (line rest : Bytes) : Type 0 where
  pub shell : Bytes
  pub is : IsInterpreter shell
  pub splits : line ≡ shell ++ rest

shell_is : (line rest : Bytes) → after_interpreter line ≡ Some rest → IsShell line rest
shell_is line rest e = first (or_is (after (codes "/bin/sh") line) (or_else (after (codes "/bin/dash") line) (after (codes "/bin/bash") line)) rest e) where
  second : (after (codes "/bin/dash") line ≡ Some rest) ⊎ (after (codes "/bin/bash") line ≡ Some rest) → IsShell line rest
  second (inl e) = record { shell = codes "/bin/dash"; is = dash; splits = after_is (codes "/bin/dash") line rest e }
  second (inr e) = record { shell = codes "/bin/bash"; is = bash; splits = after_is (codes "/bin/bash") line rest e }

  first : (after (codes "/bin/sh") line ≡ Some rest) ⊎ (or_else (after (codes "/bin/dash") line) (after (codes "/bin/bash") line) ≡ Some rest) → IsShell line rest
  first (inl e) = record { shell = codes "/bin/sh"; is = sh; splits = after_is (codes "/bin/sh") line rest e }
  first (inr e) = second (or_is (after (codes "/bin/dash") line) (after (codes "/bin/bash") line) rest e)

-- what follows the interpreter
plain_rest : (blanks shell last line : Bytes) (asks : Bool) → AreBlanks blanks → IsInterpreter shell → AreBlanks last → line ≡ codes "#!" ++ (blanks ++ (shell ++ last)) → Some false ≡ Some asks → IsFirstLine asks line
plain_rest blanks shell last line asks b is l e h = subst (λ a. IsFirstLine a line) (some_same h) (plain blanks shell last b is l e)

strict_is : (o : Option Bytes) (asks : Bool) → strict_end o ≡ Some asks → (last : Bytes) × (o ≡ Some last) × AreBlanks last × (true ≡ asks)
strict_is None asks e = absurd (none_some e)
strict_is (Some last) asks e =
    cond_both (list_all is_blank last) (Some true) None (λ x. x ≡ Some asks → (end : Bytes) × (Some last ≡ Some end) × AreBlanks end × (true ≡ asks))
    (λ l e. (last, refl, l, some_same e)) (λ _ e. absurd (none_some e)) e

strict_by : (blanks shell rest line between last : Bytes) → AreBlanks blanks → IsInterpreter shell → line ≡ codes "#!" ++ (blanks ++ (shell ++ rest)) → begins_blank rest ≡ true
    → AreBlanks between → rest ≡ between ++ (codes "-e" ++ last) → AreBlanks last → IsFirstLine true line
strict_by blanks shell rest line [] last b is e begin all splits l = absurd (false≢true (sym (ap begins_blank splits) ∙ begin))
strict_by blanks shell rest line (a ∷ more) last b is e begin all splits l = strict blanks shell a more last b is all l (e ∙ ap (λ t. codes "#!" ++ (blanks ++ (shell ++ t))) splits)

strict_rest : (blanks shell rest line : Bytes) (asks : Bool) → AreBlanks blanks → IsInterpreter shell → line ≡ codes "#!" ++ (blanks ++ (shell ++ rest)) → begins_blank rest ≡ true
    → strict_end (after (codes "-e") (after_blanks rest)) ≡ Some asks → IsFirstLine asks line
strict_rest blanks shell rest line asks b is e begin h =
    let o = strict_is (after (codes "-e") (after_blanks rest)) asks h in
    let p = passed rest in
    subst (λ a. IsFirstLine a line) o.3
    (strict_by blanks shell rest line p.0 o.0 b is e begin p.1.all (p.1.splits ∙ ap (λ t. p.0 ++ t) (after_is (codes "-e") (after_blanks rest) o.0 o.1)) o.2)

option_is : (blanks shell rest line : Bytes) (asks : Bool) → AreBlanks blanks → IsInterpreter shell → line ≡ codes "#!" ++ (blanks ++ (shell ++ rest)) → option_of rest ≡ Some asks → IsFirstLine asks line
option_is blanks shell rest line asks b is e h =
    cond_both (list_all is_blank rest) _ _ (λ o. o ≡ Some asks → IsFirstLine asks line)
    (λ l h. plain_rest blanks shell rest line asks b is l e h)
    (λ _ h. cond_both (begins_blank rest) _ _ (λ o. o ≡ Some asks → IsFirstLine asks line) (λ begin h. strict_rest blanks shell rest line asks b is e begin h) (λ _ h. absurd (none_some h)) h) h

behind_shell : (line rest : Bytes) (asks : Bool) (o : Option Bytes) → line ≡ codes "#!" ++ rest → after_interpreter (after_blanks rest) ≡ o → option_behind o ≡ Some asks → IsFirstLine asks line
behind_shell line rest asks None e is h = absurd (none_some h)
behind_shell line rest asks (Some last) e is h =
    let p = passed rest in
    let s = shell_is (after_blanks rest) last is in
    option_is p.0 s.shell last line asks p.1.all s.is (e ∙ ap (λ t. codes "#!" ++ t) (p.1.splits ∙ ap (λ t. p.0 ++ t) s.splits)) h

behind_mark : (line : Bytes) (asks : Bool) (o : Option Bytes) → after (codes "#!") line ≡ o → interpreter_behind o ≡ Some asks → IsFirstLine asks line
behind_mark line asks None is h = absurd (none_some h)
behind_mark line asks (Some rest) is h = behind_shell line rest asks (after_interpreter (after_blanks rest)) (after_is (codes "#!") line rest is) refl h

pub line_is : (line : Bytes) (asks : Bool) → interpreter line ≡ Some asks → IsFirstLine asks line
line_is line asks h = behind_mark line asks (after (codes "#!") line) refl h

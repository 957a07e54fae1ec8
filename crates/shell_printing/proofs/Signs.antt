-- What is seen as an operator or a redirection is no word: by the tests of its first byte, one after another.
use Rattle.std.proofs.Common.{◌≡◌, ℕ, nat_eq, [], ◌∷◌, Option, Some, None, ap}
use Rattle.shell_syntax.specs.declared.redirect.Redirect.{Redirect}
use Rattle.shell_lexer.specs.declared.token.TokenKind.{out-TokenKind}
use Rattle.shell_lexer.specs.declared.token.RawPart.TheOpen as o
use Rattle.shell_lexer.specs.Operators.{Sight, Operator, sight_by, sight_at, sight, less, greater, copied, redirected, numbered, numbered_by, out_to, in_from, copy_of, whole_word, null_word}
use Rattle.shell_lexer.specs.Reading.{kind_of_sign}
use Rattle.script_names.specs.ShellNames.{is_digit, is_letter}
use Rattle.shell_lexer.specs.Text.{Bytes, kind, is_blank, is_special, skip, place, tail, head_is, cells, run_of, behind_run}
use Rattle.shell_grammar.specs.Look.{kind_word}
use Rattle.shell_printing.proofs.ZeroedTokens.{seen_kind}
use Rattle.shell_printing.proofs.CutDollars.{either}

abbrev pub NoWord : Sight → Type 0
NoWord (Operator which rest) = kind_word (out-TokenKind (kind_of_sign which)) ≡ None
NoWord _ = Unit {0}

redirected_no : (at : ℕ) (which : Option Redirect) (rest : Option Bytes) → NoWord (redirected at which rest)
redirected_no at None rest = tt
redirected_no at (Some which) None = tt
redirected_no at (Some which) (Some rest) = ap kind_word (seen_kind (o.Redirect which))

copied_no : (at : ℕ) (number text : Bytes) → NoWord (copied at number text)
copied_no at number [] = tt
copied_no at number (b ∷ rest) = redirected_no at (copy_of number b) (whole_word (Some rest))

less_no : (at : ℕ) (number rest : Bytes) → NoWord (less at number rest)
less_no at number rest = either NoWord (head_is 60 (skip rest)) tt (redirected_no at (in_from number) (null_word rest))

greater_no : (at : ℕ) (number rest : Bytes) → NoWord (greater at number rest)
greater_no at number rest =
    either NoWord (head_is 62 (skip rest)) (redirected_no at (out_to number) (null_word (tail (skip rest))))
    (either NoWord (head_is 38 (skip rest)) (copied_no at number (skip (tail (skip rest)))) (redirected_no at (out_to number) (null_word rest)))

numbered_no : (len : ℕ) (number text : Bytes) → NoWord (numbered len number text)
numbered_no len number [] = tt
numbered_no len number (b ∷ rest) =
    let at = place len (b ∷ rest) in
    either (λ it. NoWord (numbered_by at number it rest)) (is_blank b) tt
    (either (λ it. NoWord (numbered_by at number it rest)) (nat_eq b 10) tt
    (either (λ it. NoWord (numbered_by at number it rest)) (nat_eq b 59) tt
    (either (λ it. NoWord (numbered_by at number it rest)) (nat_eq b 38) tt
    (either (λ it. NoWord (numbered_by at number it rest)) (nat_eq b 124) tt
    (either (λ it. NoWord (numbered_by at number it rest)) (nat_eq b 40) tt
    (either (λ it. NoWord (numbered_by at number it rest)) (nat_eq b 41) tt
    (either (λ it. NoWord (numbered_by at number it rest)) (nat_eq b 60) (less_no at number rest)
    (either (λ it. NoWord (numbered_by at number it rest)) (nat_eq b 62) (greater_no at number rest)
    (either (λ it. NoWord (numbered_by at number it rest)) (nat_eq b 35) tt
    (either (λ it. NoWord (numbered_by at number it rest)) (nat_eq b 39) tt
    (either (λ it. NoWord (numbered_by at number it rest)) (nat_eq b 34) tt
    (either (λ it. NoWord (numbered_by at number it rest)) (nat_eq b 92) tt
    (either (λ it. NoWord (numbered_by at number it rest)) (nat_eq b 96) tt
    (either (λ it. NoWord (numbered_by at number it rest)) (nat_eq b 36) tt
    (either (λ it. NoWord (numbered_by at number it rest)) (nat_eq b 123) tt
    (either (λ it. NoWord (numbered_by at number it rest)) (nat_eq b 64) tt
    (either (λ it. NoWord (numbered_by at number it rest)) (is_special b) tt
    (either (λ it. NoWord (numbered_by at number it rest)) (is_digit b) tt
    (either (λ it. NoWord (numbered_by at number it rest)) (is_letter b) tt tt)))))))))))))))))))

first_no : (len at b : ℕ) (rest : Bytes) → NoWord (sight_by len at b (kind b) rest)
first_no len at b rest =
    either (λ it. NoWord (sight_by len at b it rest)) (is_blank b) tt
    (either (λ it. NoWord (sight_by len at b it rest)) (nat_eq b 10) (ap kind_word (seen_kind o.Newline))
    (either (λ it. NoWord (sight_by len at b it rest)) (nat_eq b 59) (either NoWord (head_is 59 (skip rest)) (ap kind_word (seen_kind o.DoubleSemi)) (ap kind_word (seen_kind o.Semi)))
    (either (λ it. NoWord (sight_by len at b it rest)) (nat_eq b 38) (either NoWord (head_is 38 (skip rest)) (ap kind_word (seen_kind o.AndAnd)) tt)
    (either (λ it. NoWord (sight_by len at b it rest)) (nat_eq b 124) (either NoWord (head_is 124 (skip rest)) (ap kind_word (seen_kind o.OrOr)) (ap kind_word (seen_kind o.Bar)))
    (either (λ it. NoWord (sight_by len at b it rest)) (nat_eq b 40) (either NoWord (head_is 40 (skip rest)) tt (ap kind_word (seen_kind o.LeftParen)))
    (either (λ it. NoWord (sight_by len at b it rest)) (nat_eq b 41) (ap kind_word (seen_kind o.RightParen))
    (either (λ it. NoWord (sight_by len at b it rest)) (nat_eq b 60) (less_no at [] rest)
    (either (λ it. NoWord (sight_by len at b it rest)) (nat_eq b 62) (greater_no at [] rest)
    (either (λ it. NoWord (sight_by len at b it rest)) (nat_eq b 35) tt
    (either (λ it. NoWord (sight_by len at b it rest)) (nat_eq b 39) tt
    (either (λ it. NoWord (sight_by len at b it rest)) (nat_eq b 34) tt
    (either (λ it. NoWord (sight_by len at b it rest)) (nat_eq b 92) tt
    (either (λ it. NoWord (sight_by len at b it rest)) (nat_eq b 96) tt
    (either (λ it. NoWord (sight_by len at b it rest)) (nat_eq b 36) tt
    (either (λ it. NoWord (sight_by len at b it rest)) (nat_eq b 123) tt
    (either (λ it. NoWord (sight_by len at b it rest)) (nat_eq b 64) tt
    (either (λ it. NoWord (sight_by len at b it rest)) (is_special b) tt
    (either (λ it. NoWord (sight_by len at b it rest)) (is_digit b) (numbered_no len (run_of is_digit (cells (b ∷ rest))) (skip (behind_run is_digit (b ∷ rest) (cells (b ∷ rest)))))
    (either (λ it. NoWord (sight_by len at b it rest)) (is_letter b) tt tt)))))))))))))))))))

begins_no : (len at : ℕ) (text : Bytes) → NoWord (sight_at len at text)
begins_no len at [] = tt
begins_no len at (b ∷ rest) = first_no len at b rest

pub sight_no_word : (len : ℕ) (text : Bytes) → NoWord (sight len text)
sight_no_word len text = begins_no len (place len (skip text)) (skip text)

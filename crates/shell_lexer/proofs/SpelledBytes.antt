-- What a byte that stands for itself has for a kind, and what stands behind it.
use Rattle.std.proofs.Common.{◌≡◌, ℕ, Bool, true, false, not, ◌&&◌, ◌||◌, nat_eq, [], ◌∷◌, refl, sym, ap, ◌∙◌, subst, codes}
use Rattle.std.specs.List.{list_any}
use Rattle.shell_lexer.specs.declared.byte_kind.ByteKind.{ByteKind}
use Rattle.shell_lexer.specs.declared.byte_kind.ByteKind.TheVariants as k
use Rattle.script_names.specs.ShellNames.{is_letter, is_digit, is_name_byte}
use Rattle.shell_lexer.specs.Text.{Bytes, kind, skip, is_blank, is_special, is_word_end}
use Rattle.shell_lexer.specs.Parts.{is_escapable}
use Rattle.shell_lexer.specs.Spelling.{Stands}
use Rattle.shell_lexer.specs.SpelledBytes.{is_escaped, has_meaning, begins_expansion, IsByte, ordinary, dollar, last, backslash, escaped}
use Rattle.shell_lexer.specs.SpelledEnds.{begins_operator}
use Rattle.shell_lexer.proofs.Ahead.{Ahead}
use Rattle.shell_lexer.proofs.SpelledCases.{or_case, Each, one_among}
use Rattle.shell_lexer.proofs.SpelledEnds.{blank_ends, operator_ends}
use Rattle.shell_lexer.proofs.SpelledKinds.{KindOf, kind_of, digit_kind, letter_kind}
use Rattle.std.proofs.lemmas.Bool.{false≢true}

-- what no byte of a kind is
none_from : (f : ℕ → Bool) (g : ByteKind → Bool) → ((b : ℕ) → f b ≡ true → g (kind b) ≡ true) → (b : ℕ) (it : ByteKind) → kind b ≡ it → g it ≡ false → f b ≡ false
none_from f g h b it same e = by (f b) refl where
  by : (x : Bool) → f b ≡ x → x ≡ false
  by false is = refl
  by true is = absurd (false≢true (sym e ∙ ap g (sym same) ∙ h b is))

-- ---- in double quotes

pub escaped_kind : (b : ℕ) → is_escaped b ≡ true → is_escapable (kind b) ≡ true
escaped_kind b e = one_among (λ b. is_escapable (kind b) ≡ true) b (codes "\"\\`$") (refl, (refl, (refl, (refl, tt)))) e

pub kind_escaped : (b : ℕ) (it : ByteKind) → KindOf b it → is_escapable it ≡ true → is_escaped b ≡ true
kind_escaped b k.Double h e = ap is_escaped h
kind_escaped b k.Back h e = ap is_escaped h
kind_escaped b k.Tick h e = ap is_escaped h
kind_escaped b k.Dollar h e = ap is_escaped h
kind_escaped b _ h e = absurd (false≢true e)

pub not_escaped : (b : ℕ) (it : ByteKind) → kind b ≡ it → is_escapable it ≡ false → is_escaped b ≡ false
not_escaped b it same e = none_from is_escaped is_escapable escaped_kind b it same e

-- ---- outside

abbrev pub is_quoting : ByteKind → Bool
is_quoting k.Single = true
is_quoting it = is_escapable it

quoting_kind : (b : ℕ) → list_any (nat_eq b) (codes "'\"\\`$") ≡ true → is_quoting (kind b) ≡ true
quoting_kind b e = one_among (λ b. is_quoting (kind b) ≡ true) b (codes "'\"\\`$") (refl, (refl, (refl, (refl, (refl, tt))))) e

abbrev pub means_more : ByteKind → Bool
means_more it = is_word_end it || is_quoting it

or_right : (a b : Bool) → b ≡ true → (a || b) ≡ true
or_right true b e = refl
or_right false b e = e

meaning_kind : (b : ℕ) → has_meaning false b ≡ true → means_more (kind b) ≡ true
meaning_kind b e =
    or_case (is_blank b || begins_operator b) (list_any (nat_eq b) (codes "'\"\\`$")) e
    (λ e. ap (λ x. x || is_quoting (kind b)) (or_case (is_blank b) (begins_operator b) e (λ e. blank_ends b e) (λ e. operator_ends b e)))
    (λ e. or_right (is_word_end (kind b)) (is_quoting (kind b)) (quoting_kind b e))

pub no_meaning : (b : ℕ) (it : ByteKind) → kind b ≡ it → means_more it ≡ false → has_meaning false b ≡ false
no_meaning b it same e = none_from (has_meaning false) means_more meaning_kind b it same e

-- ---- behind `$`

abbrev pub is_expansion : Bool → ByteKind → Bool
is_expansion inside k.Open = true
is_expansion inside k.Brace = true
is_expansion inside k.Name = true
is_expansion inside k.Digit = true
is_expansion inside k.Hash = true
is_expansion inside k.At = true
is_expansion inside k.Special = true
is_expansion inside k.Dollar = true
is_expansion inside k.Single = not inside
is_expansion inside k.Double = not inside
is_expansion inside _ = false

expansion_kind : (inside : Bool) (b : ℕ) → begins_expansion inside b ≡ true → is_expansion inside (kind b) ≡ true
expansion_kind inside b e =
    or_case (is_name_byte b || list_any (nat_eq b) (codes "{(@#*?-$!")) (not inside && list_any (nat_eq b) (codes "'\"")) e
    (λ e. or_case (is_name_byte b) (list_any (nat_eq b) (codes "{(@#*?-$!")) e
    (λ e. or_case (is_letter b) (is_digit b) e (λ e. ap (is_expansion inside) (letter_kind b e)) (λ e. ap (is_expansion inside) (digit_kind b e)))
    (λ e. one_among (λ b. is_expansion inside (kind b) ≡ true) b (codes "{(@#*?-$!") (refl, (refl, (refl, (refl, (refl, (refl, (refl, (refl, (refl, tt))))))))) e))
    (λ e. quotes inside e) where
      quotes : (inside : Bool) → (not inside && list_any (nat_eq b) (codes "'\"")) ≡ true → is_expansion inside (kind b) ≡ true
      quotes true e = absurd (false≢true e)
      quotes false e = one_among (λ b. is_expansion false (kind b) ≡ true) b (codes "'\"") (refl, (refl, tt)) e

pub no_expansion : (inside : Bool) (b : ℕ) (it : ByteKind) → kind b ≡ it → is_expansion inside it ≡ false → begins_expansion inside b ≡ false
no_expansion inside b it same e = none_from (begins_expansion inside) (is_expansion inside) (expansion_kind inside) b it same e

-- ---- what stands behind

-- outside double quotes the byte is the next that counts
pub byte_front : (b : ℕ) (text rest : Bytes) → IsByte false text b rest → skip text ≡ b ∷ rest
byte_front b text rest (ordinary h none) = h.1 ∙ ap (λ t. b ∷ t) h.2
byte_front b text rest (dollar h none) = h.1 ∙ ap (λ t. 36 ∷ t) h.2
byte_front b text rest (last h) = h.1 ∙ ap (λ t. 92 ∷ t) h.2
byte_front b text rest (backslash inside h none) = absurd (false≢true inside)
byte_front b text rest (escaped inside h is) = absurd (false≢true inside)

pub byte_ahead : (inside : Bool) (b : ℕ) (text rest : Bytes) → IsByte inside text b rest → Ahead text rest
byte_ahead inside b text rest (ordinary h none) = (b, [], h.1 ∙ ap (λ t. b ∷ t) h.2)
byte_ahead inside b text rest (dollar h none) = (36, [], h.1 ∙ ap (λ t. 36 ∷ t) h.2)
byte_ahead inside b text rest (last h) = (92, [], h.1 ∙ ap (λ t. 92 ∷ t) h.2)
byte_ahead inside b text rest (backslash is h none) = (92, [], h.1 ∙ ap (λ t. 92 ∷ t) h.2)
byte_ahead inside b text rest (escaped is h e) = (92, b ∷ [], h.1 ∙ ap (λ t. 92 ∷ t) h.2)

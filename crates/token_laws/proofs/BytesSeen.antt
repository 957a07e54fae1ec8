-- A byte that stands for itself is seen where it is spelled.
use Rattle.std.proofs.Common.{◌≡◌, ℕ, Bool, true, false, not, ◌&&◌, ◌||◌, nat_eq, [], ◌∷◌, refl, sym, ap, ◌∙◌, subst, codes}
use Rattle.std.specs.List.{list_any}
use Rattle.shell_lexer.specs.declared.byte_kind.ByteKind.{ByteKind}
use Rattle.shell_lexer.specs.declared.byte_kind.ByteKind.TheVariants as k
use Rattle.script_names.specs.ShellNames.{is_letter, is_digit, is_name_byte}
use Rattle.shell_lexer.specs.Text.{Bytes, kind, skip, place, offset, is_blank, is_special}
use Rattle.shell_lexer.specs.Parts.{Look, Byte, dollar_by, dollar as dollar_look, look_by, look_at, is_escapable, inner_escaped, inner_by, inner_at}
use Rattle.shell_lexer.specs.Spelling.{Stands, begins}
use Rattle.shell_lexer.specs.SpelledBytes.{is_escaped, has_meaning, begins_expansion, IsByte, ordinary, dollar, last, backslash, escaped}
use Rattle.shell_lexer.proofs.SpelledBytes.{escaped_kind, kind_escaped}
use Rattle.shell_lexer.proofs.SpelledCases.{or_case}
use Rattle.shell_lexer.proofs.SpelledFaults.{eyes, eyes_dollar}
use Rattle.shell_lexer.proofs.SpelledKinds.{KindOf, kind_of}
use Rattle.shell_lexer.proofs.SpelledParts.{letter_passes}
use Rattle.std.proofs.lemmas.Bool.{cond-false, cond-true, eqb-true, false≢true}

-- a byte with a meaning has none
clash : {A : Type 0} (inside : Bool) (b c : ℕ) → has_meaning inside b ≡ false → b ≡ c → has_meaning inside c ≡ true → A
clash inside b c none is e = absurd (false≢true (sym none ∙ ap (has_meaning inside) is ∙ e))

blank_means : {A : Type 0} (b : ℕ) → has_meaning false b ≡ false → is_blank b ≡ true → A
blank_means b none is = or_case (nat_eq b 32) (nat_eq b 9) is (λ e. clash false b 32 none (eqb-true b 32 e) refl) (λ e. clash false b 9 none (eqb-true b 9 e) refl)

look_byte : (at b : ℕ) (it : ByteKind) (rest : Bytes) → KindOf b it → has_meaning false b ≡ false → look_by at b it rest ≡ Byte b rest
look_byte at b k.Blank rest h none = blank_means b none h
look_byte at b k.Newline rest h none = clash false b 10 none h refl
look_byte at b k.Semi rest h none = clash false b 59 none h refl
look_byte at b k.Amp rest h none = clash false b 38 none h refl
look_byte at b k.Bar rest h none = clash false b 124 none h refl
look_byte at b k.Open rest h none = clash false b 40 none h refl
look_byte at b k.Close rest h none = clash false b 41 none h refl
look_byte at b k.Less rest h none = clash false b 60 none h refl
look_byte at b k.Greater rest h none = clash false b 62 none h refl
look_byte at b k.Single rest h none = clash false b 39 none h refl
look_byte at b k.Double rest h none = clash false b 34 none h refl
look_byte at b k.Back rest h none = clash false b 92 none h refl
look_byte at b k.Tick rest h none = clash false b 96 none h refl
look_byte at b k.Dollar rest h none = clash false b 36 none h refl
look_byte at b _ rest h none = refl

inner_byte : (at b : ℕ) (it : ByteKind) (rest : Bytes) → KindOf b it → has_meaning true b ≡ false → inner_by at b it rest ≡ Byte b rest
inner_byte at b k.Double rest h none = clash true b 34 none h refl
inner_byte at b k.Back rest h none = clash true b 92 none h refl
inner_byte at b k.Tick rest h none = clash true b 96 none h refl
inner_byte at b k.Dollar rest h none = clash true b 36 none h refl
inner_byte at b _ rest h none = refl

-- `$` before another byte
other : {A : Type 0} (inside : Bool) (b c : ℕ) → begins_expansion inside b ≡ false → b ≡ c → begins_expansion inside c ≡ true → A
other inside b c none is e = absurd (false≢true (sym none ∙ ap (begins_expansion inside) is ∙ e))

name_expands : {A : Type 0} (inside : Bool) (b : ℕ) → begins_expansion inside b ≡ false → is_name_byte b ≡ true → A
name_expands inside b none is = absurd (false≢true (sym none ∙ ap (λ x. x || list_any (nat_eq b) (codes "{(@#*?-$!") || (not inside && list_any (nat_eq b) (codes "'\""))) is))

special_expands : {A : Type 0} (inside : Bool) (b : ℕ) → begins_expansion inside b ≡ false → is_special b ≡ true → A
special_expands inside b none is =
    or_case (nat_eq b 42 || nat_eq b 63 || nat_eq b 33) (nat_eq b 45) is
    (λ e. or_case (nat_eq b 42 || nat_eq b 63) (nat_eq b 33) e
    (λ e. or_case (nat_eq b 42) (nat_eq b 63) e (λ e. other inside b 42 none (eqb-true b 42 e) refl) (λ e. other inside b 63 none (eqb-true b 63 e) refl))
    (λ e. other inside b 33 none (eqb-true b 33 e) refl)) (λ e. other inside b 45 none (eqb-true b 45 e) refl)

digit_passes_name : (b : ℕ) → is_digit b ≡ true → is_name_byte b ≡ true
digit_passes_name b e = by (is_letter b) where
  by : (it : Bool) → (it || is_digit b) ≡ true
  by true = refl
  by false = e

dollar_by_byte : (inside : Bool) (at : ℕ) (rest : Bytes) (b : ℕ) (it : ByteKind) (more : Bytes) → KindOf b it → begins_expansion inside b ≡ false → dollar_by inside at rest b it more ≡ Byte 36 rest
dollar_by_byte inside at rest b k.Open more h none = other inside b 40 none h refl
dollar_by_byte inside at rest b k.Brace more h none = other inside b 123 none h refl
dollar_by_byte inside at rest b k.Name more h none = name_expands inside b none (letter_passes b h)
dollar_by_byte inside at rest b k.Digit more h none = name_expands inside b none (digit_passes_name b h)
dollar_by_byte inside at rest b k.Hash more h none = other inside b 35 none h refl
dollar_by_byte inside at rest b k.At more h none = other inside b 64 none h refl
dollar_by_byte inside at rest b k.Special more h none = special_expands inside b none h
dollar_by_byte inside at rest b k.Dollar more h none = other inside b 36 none h refl
dollar_by_byte true at rest b k.Single more h none = refl
dollar_by_byte true at rest b k.Double more h none = refl
dollar_by_byte false at rest b k.Single more h none = other false b 39 none h refl
dollar_by_byte false at rest b k.Double more h none = other false b 34 none h refl
dollar_by_byte inside at rest b _ more h none = refl

dollar_byte : (inside : Bool) (at : ℕ) (rest t : Bytes) → begins (begins_expansion inside) t ≡ false → dollar_look inside at rest t ≡ Byte 36 rest
dollar_byte inside at rest [] none = refl
dollar_byte inside at rest (b ∷ more) none = dollar_by_byte inside at rest b (kind b) more (kind_of b) none

-- a backslash in double quotes
no_escape : (b : ℕ) → is_escaped b ≡ false → is_escapable (kind b) ≡ false
no_escape b none = by (is_escapable (kind b)) refl where
  by : (it : Bool) → is_escapable (kind b) ≡ it → it ≡ false
  by false e = refl
  by true e = absurd (false≢true (sym none ∙ kind_escaped b (kind b) (kind_of b) e))

backslash_byte : (rest : Bytes) → begins is_escaped rest ≡ false → inner_escaped 92 rest ≡ Byte 92 rest
backslash_byte [] none = refl
backslash_byte (b ∷ rest) none = cond-false (is_escapable (kind b)) (Byte b rest) (Byte 92 (b ∷ rest)) (no_escape b none)

eyes_inside : (inside : Bool) (len b : ℕ) (text rest : Bytes) → inside ≡ true → eyes true len text ≡ Byte b rest → eyes inside len text ≡ Byte b rest
eyes_inside inside len b text rest is e = subst (λ inside. eyes inside len text ≡ Byte b rest) (sym is) e

inner_backslash : (len : ℕ) (text rest : Bytes) → Stands (codes "\\") text rest → eyes true len text ≡ inner_escaped 92 rest
inner_backslash len text rest h = ap (λ t. inner_at (place len t) t) h.1 ∙ ap (inner_escaped 92) h.2

pub byte_sees : (inside : Bool) (len b : ℕ) (text rest : Bytes) → IsByte inside text b rest → eyes inside len text ≡ Byte b rest
byte_sees false len b text rest (ordinary h none) =
    ap (λ t. look_at (place len t) t) h.1 ∙ look_byte (place len (b ∷ h.0)) b (kind b) h.0 (kind_of b) none ∙ ap (Byte b) h.2
byte_sees true len b text rest (ordinary h none) =
    ap (λ t. inner_at (place len t) t) h.1 ∙ inner_byte (place len (b ∷ h.0)) b (kind b) h.0 (kind_of b) none ∙ ap (Byte b) h.2
byte_sees inside len b text rest (dollar h none) =
    let after = h.1 ∙ ap (λ t. 36 ∷ t) h.2 in
    eyes_dollar inside len text rest after ∙ dollar_byte inside (offset len text) rest (skip rest) none
byte_sees false len b text rest (last h) = ap (λ t. look_at (place len t) t) (h.1 ∙ ap (λ t. 92 ∷ t) h.2)
byte_sees true len b text rest (last h) = inner_backslash len text [] h
byte_sees inside len b text rest (backslash is h none) = eyes_inside inside len 92 text rest is (inner_backslash len text rest h ∙ backslash_byte rest none)
byte_sees inside len b text rest (escaped is h e) =
    eyes_inside inside len b text rest is (inner_backslash len text (b ∷ rest) h ∙ cond-true (is_escapable (kind b)) (Byte b rest) (Byte 92 (b ∷ rest)) (escaped_kind b e))

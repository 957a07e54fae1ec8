-- The one spelling of bytes in texts.
use Rattle.std.specs.Prelude.{ℕ, zero, suc, ◌+◌, ◌-◌, ◌*◌, ◌/◌, ◌%◌, Bool, not, ◌&&◌, ◌==◌, nat_le, nat_lt, List, []}
use Rattle.std.specs.Prelude.{◌∷◌, slice_index, codes, Option, Some, None, if◌then◌else◌}
use Rattle.std.specs.List.{flat_map, list_all}
use Rattle.std.specs.Str.{bytes_eq}
use Rattle.script_names.specs.Ascii.{backslash, brace_close, brace_open, comma, digit_nine, digit_zero, exclamation}
use Rattle.script_names.specs.Ascii.{lower_a, lower_x, paren_close, paren_open, tilde}

-- a byte that a spelling may have: 0x21 to 0x7e but `,`, `{`, `}`, `(` and `)`
abbrev pub is_shown : ℕ → Bool
is_shown b =
    nat_le exclamation b && nat_le b tilde && not (b == comma) && not (b == brace_open) && not (b == brace_close)
    && not (b == paren_open) && not (b == paren_close)

-- a byte that stands for itself: 0x21 to 0x7e but `\`, `,`, `{`, `}`, `(` and `)`
abbrev pub is_literal : ℕ → Bool
is_literal b =
    nat_le exclamation b && nat_le b tilde && not (b == backslash) && not (b == comma) && not (b == brace_open)
    && not (b == brace_close) && not (b == paren_open) && not (b == paren_close)

-- a lower hexadecimal digit
abbrev pub hex_digit : ℕ → ℕ
hex_digit d = (if nat_lt d 10 then d + digit_zero else d + (lower_a - 10))

-- how a byte is spelled: as itself, or as `\x` and two lower hexadecimal digits
abbrev pub shown_byte : ℕ → List ℕ
shown_byte b = (if is_literal b then b ∷ [] else backslash ∷ lower_x ∷ hex_digit (b / 16) ∷ hex_digit (b % 16) ∷ [])

-- how bytes are spelled; no bytes are `\e`
abbrev pub show : List ℕ → List ℕ
show [] = codes "\\e"
show (b ∷ bs) = flat_map shown_byte (b ∷ bs)

-- numbers that are bytes
abbrev pub are_bytes : List ℕ → Bool
are_bytes bytes = list_all (λ b. nat_lt b 256) bytes

-- the value of a lower hexadecimal digit
abbrev pub hex_value : ℕ → ℕ
hex_value b = (if nat_lt b (digit_nine + 1) then b - digit_zero else b - (lower_a - 10)) % 16

-- the byte of an escape, from what stands behind its backslash: a letter and two digits
abbrev pub escaped : List ℕ → ℕ
escaped text = hex_value (slice_index text 1) * 16 + hex_value (slice_index text 2)

-- the bytes that a text spells, if it is a spelling, without those of it that are passed over first
abbrev pub bytes_after : ℕ → List ℕ → List ℕ
bytes_after passed [] = []
bytes_after zero (b ∷ text) = if b == backslash then escaped text ∷ bytes_after 3 text else b ∷ bytes_after 0 text
bytes_after (suc passed) (b ∷ text) = bytes_after passed text

-- the bytes, where they are spelled so
abbrev pub if_spelled : List ℕ → List ℕ → Option (List ℕ)
if_spelled text bytes = if bytes_eq (show bytes) text then Some bytes else None

-- the bytes that are spelled so. A text has one reading at most: `\x41` has none, since `A` stands for itself
abbrev pub shown_of : List ℕ → Option (List ℕ)
shown_of text = if bytes_eq text (codes "\\e") then Some [] else if_spelled text (bytes_after 0 text)

-- Numbers in decimal.
use Rattle.std.specs.Prelude.{ℕ, ◌-◌, ◌^◌, Bool, not, ◌&&◌, ◌||◌, ◌==◌, nat_eq, nat_le, nat_lt}
use Rattle.std.specs.Prelude.{List, length, slice_index, Option, Some, None, if◌then◌else◌}
use Rattle.std.specs.List.{list_all}
use Rattle.std.specs.Str.Parse.{digits_value}
use Rattle.script_names.specs.Ascii.{digit_zero}
use Rattle.script_names.specs.ShellNames.{is_digit}

-- the greatest number of 8 bits
abbrev pub u8_max : ℕ
u8_max = 2 ^ 8 - 1

-- the greatest number of 16 bits
abbrev pub u16_max : ℕ
u16_max = 2 ^ 16 - 1

-- the greatest number of 32 bits
abbrev pub u32_max : ℕ
u32_max = 2 ^ 32 - 1

-- a numeral: digits, the first of which is no 0 unless it stands alone
abbrev pub is_numeral : List ℕ → Bool
is_numeral text =
    nat_lt 0 (length text)
    && (list_all is_digit text && (nat_eq (length text) 1 || not (slice_index text 0 == digit_zero)))

-- the number, up to `most`, whose decimal digits these are
abbrev pub number_of : ℕ → List ℕ → Option ℕ
number_of most text =
    if is_numeral text && nat_le (digits_value 10 text) most then Some (digits_value 10 text) else None

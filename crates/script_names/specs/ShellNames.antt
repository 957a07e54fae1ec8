-- Names of variables and functions of a shell (POSIX.1-2017, Base Definitions, 3.235 Name).
use Rattle.std.specs.Prelude.{ℕ, Bool, false, not, ◌&&◌, ◌||◌, nat_eq, nat_le, List, [], ◌∷◌}
use Rattle.std.specs.List.{list_all}
use Rattle.script_names.specs.Ascii.{digit_nine, digit_zero, lower_a, lower_z, underscore, upper_a, upper_z}

-- `0` to `9`
abbrev pub is_digit : ℕ → Bool
is_digit b = nat_le digit_zero b && nat_le b digit_nine

-- a letter or `_`
abbrev pub is_letter : ℕ → Bool
is_letter b = (nat_le lower_a b && nat_le b lower_z) || (nat_le upper_a b && nat_le b upper_z) || nat_eq b underscore

-- a byte of a name: a letter, `_` or a digit
abbrev pub is_name_byte : ℕ → Bool
is_name_byte b = is_letter b || is_digit b

-- a name: such bytes, one at least, of which the first is no digit
abbrev pub is_shell_name : List ℕ → Bool
is_shell_name [] = false
is_shell_name (b ∷ rest) = is_letter b && list_all is_name_byte rest

-- The version and the name of a package, from its control file (Debian Policy, 5.6.12 and 5.6.7).
use Rattle.std.specs.Prelude.{ℕ, ◌+◌, Bool, ◌&&◌, ◌||◌, ◌==◌, nat_eq, nat_le, List, [], ◌∷◌}
use Rattle.std.specs.Prelude.{length, drop, codes, Option, Some, None, Result, Ok, Err, if◌then◌else◌}
use Rattle.std.specs.List.{list_all, starts_with}
use Rattle.script_names.specs.Ascii.{colon, digit_nine, digit_zero, full_stop, hyphen, lower_a, lower_z, plus, space}
use Rattle.script_names.specs.Ascii.{tab, tilde, upper_a, upper_z}
use Rattle.script_names.specs.Paths.{is_filled}
use Rattle.feature_trees.specs.TreeLines.{text_lines}
use Rattle.package_lists.specs.declared.fault.LineFault.{LineFault}
use Rattle.package_lists.specs.declared.fault.LineFault.TheVariants.{Line}

-- a space or a tab
abbrev pub is_blank : ℕ → Bool
is_blank b = (b == space) || (b == tab)

-- bytes without the blanks at their beginning
abbrev pub after_blanks : List ℕ → List ℕ
after_blanks [] = []
after_blanks (b ∷ bs) = if is_blank b then after_blanks bs else b ∷ bs

-- bytes without the blanks at their end
abbrev pub before_blanks : List ℕ → List ℕ
before_blanks [] = []
before_blanks (b ∷ bs) = if list_all is_blank (b ∷ bs) then [] else b ∷ before_blanks bs

-- bytes without the blanks at both ends
abbrev pub trimmed : List ℕ → List ℕ
trimmed bytes = before_blanks (after_blanks bytes)

-- the number and the value of the first of these lines that has a field, which begins so; lines from number n on
abbrev pub first_field : List ℕ → ℕ → List (List ℕ) → Option (ℕ × List ℕ)
first_field field n [] = None
first_field field n (line ∷ lines) =
    if starts_with nat_eq line field then Some (n, trimmed (drop (length field) line))
    else first_field field (n + 1) lines

-- what the value of a line comes to; without a line it is the usual one
abbrev pub value_or : List ℕ → (ℕ → List ℕ → Result (List ℕ) LineFault) → Option (ℕ × List ℕ) → Result (List ℕ) LineFault
value_or usual comes None = Ok usual
value_or usual comes (Some line) = comes line.0 line.1

-- a byte that a version may have: a letter, a digit, `.`, `+`, `-`, `:` or `~`
abbrev pub is_version_byte : ℕ → Bool
is_version_byte b =
    (nat_le lower_a b && nat_le b lower_z) || (nat_le upper_a b && nat_le b upper_z)
    || (nat_le digit_zero b && nat_le b digit_nine) || (b == full_stop) || (b == plus) || (b == hyphen) || (b == colon)
    || (b == tilde)

-- a version: such bytes, at least one
abbrev pub is_version : List ℕ → Bool
is_version bytes = is_filled bytes && list_all is_version_byte bytes

-- the version of line n, where the value is one
abbrev pub version_of : ℕ → List ℕ → Result (List ℕ) LineFault
version_of n value = if is_version value then Ok value else Err (Line n 1)

-- the version of a control file, or its line at fault; without one it is `0`
abbrev pub control_of : List ℕ → Result (List ℕ) LineFault
control_of text = value_or (codes "0") version_of (first_field (codes "Version:") 1 (text_lines text))

-- a byte that the name of a package may have: a lower-case letter, a digit, `+`, `-` or `.`
abbrev pub is_package_byte : ℕ → Bool
is_package_byte b =
    (nat_le lower_a b && nat_le b lower_z) || (nat_le digit_zero b && nat_le b digit_nine) || (b == plus)
    || (b == hyphen) || (b == full_stop)

-- the name of a package: such bytes, at least one
abbrev pub is_package_name : List ℕ → Bool
is_package_name bytes = is_filled bytes && list_all is_package_byte bytes

-- the name of line n, where the value is one
abbrev pub name_of : ℕ → List ℕ → Result (List ℕ) LineFault
name_of n value = if is_package_name value then Ok value else Err (Line n 2)

-- the name of the package of a control file, or its line at fault; without one it is `unnamed`
abbrev pub package_name_of : List ℕ → Result (List ℕ) LineFault
package_name_of text = value_or (codes "unnamed") name_of (first_field (codes "Package:") 1 (text_lines text))

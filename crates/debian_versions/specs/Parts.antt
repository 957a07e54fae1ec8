-- How the upstream version and the revision of a package are ordered (Debian Policy, 5.6.12; deb-version(7)): from left
-- to right, what stands before the digits by its characters, then the digits by their value, and so on. A part is read
-- as a list of numbers, and the first of these in which two parts differ decides.
use Rattle.std.specs.Prelude.{ℕ, ◌+◌, Bool, true, false, ◌&&◌, ◌||◌, nat_eq, nat_le, List, [], ◌∷◌, ◌++◌, length}
use Rattle.std.specs.Prelude.{if◌then◌else◌}
use Rattle.script_names.specs.Ascii.{digit_zero, lower_a, lower_z, upper_a, upper_z, tilde}
use Rattle.script_names.specs.ShellNames.{is_digit}

-- `a` to `z` and `A` to `Z`
abbrev pub is_letter : ℕ → Bool
is_letter b = (nat_le lower_a b && nat_le b lower_z) || (nat_le upper_a b && nat_le b upper_z)

-- where no character stands more before the digits, or at all: behind a tilde, before each other character
abbrev pub end_rank : ℕ
end_rank = 1

-- what every character that is no letter comes behind all letters by
abbrev pub behind_letters : ℕ
behind_letters = 256

-- the rank of a character that is no digit: a tilde sorts before anything, even the end of a part, and all the letters
-- sort before all the others
abbrev pub rank : ℕ → ℕ
rank b = if nat_eq b tilde then 0 else (if is_letter b then b else b + behind_letters)

-- the digits that a text begins with
abbrev pub leading : List ℕ → List ℕ
leading [] = []
leading (b ∷ rest) = if is_digit b then b ∷ leading rest else []

-- digits without the zeros that they begin with
abbrev pub significant : List ℕ → List ℕ
significant [] = []
significant (d ∷ digits) = if nat_eq d digit_zero then significant digits else d ∷ digits

-- digits by their value: first how many there are, then they, from the highest; no digit is zero
abbrev pub number : List ℕ → List ℕ
number digits = length (significant digits) ∷ significant digits

-- what a character adds, behind a digit or not: its rank; the first of some digits ends what stood before them, and
-- stands for all
abbrev pub added : Bool → ℕ → List ℕ → List ℕ
added behind_digit b rest =
    if is_digit b
    then (if behind_digit then [] else end_rank ∷ number (leading (b ∷ rest)))
    else rank b ∷ []

-- what the end adds: digits that are not there are zero
abbrev pub at_end : Bool → List ℕ
at_end true = end_rank ∷ []
at_end false = end_rank ∷ number [] ++ end_rank ∷ []

-- a part from here on, behind a digit or not
abbrev pub part_from : Bool → List ℕ → List ℕ
part_from behind_digit [] = at_end behind_digit
part_from behind_digit (b ∷ rest) = added behind_digit b rest ++ part_from (is_digit b) rest

-- a part, as the numbers that order it
abbrev pub part : List ℕ → List ℕ
part text = part_from false text

-- The options and operands among a utility's words (POSIX.1-2017, Base Definitions, 12.2 Utility Syntax Guidelines).
-- Options come before operands; `--` ends them once.
use Rattle.std.specs.Prelude.{ℕ, ◌+◌, Bool, false, not, ◌&&◌, ◌||◌, ◌==◌, List, [], ◌∷◌, length, take, drop}
use Rattle.std.specs.Prelude.{if◌then◌else◌, codes}
use Rattle.std.specs.Str.{bytes_eq}
use Rattle.std.specs.List.{list_any, list_all}
use Rattle.script_names.specs.Ascii.{hyphen}

-- `--`
abbrev pub is_end : List ℕ → Bool
is_end word = bytes_eq word (codes "--")

-- a word of two bytes or more, of which the first is `-`
abbrev pub is_option : List ℕ → Bool
is_option [] = false
is_option (a ∷ []) = false
is_option (a ∷ b ∷ rest) = a == hyphen

-- how many words from the first on are options, of which `--` is none
abbrev pub option_count : List (List ℕ) → ℕ
option_count [] = 0
option_count (word ∷ words) = if is_option word && not (is_end word) then option_count words + 1 else 0

-- the options in front
abbrev pub options : List (List ℕ) → List (List ℕ)
options words = take (option_count words) words

-- what stands behind them
abbrev pub behind : List (List ℕ) → List (List ℕ)
behind words = drop (option_count words) words

-- whether the first word is `--`
abbrev pub is_ended : List (List ℕ) → Bool
is_ended [] = false
is_ended (word ∷ words) = is_end word

-- the words without a `--` in front
abbrev pub unended : List (List ℕ) → List (List ℕ)
unended [] = []
unended (word ∷ words) = if is_end word then words else word ∷ words

-- whether a letter is among these
abbrev pub has_letter : List ℕ → ℕ → Bool
has_letter letters letter = list_any (λ b. b == letter) letters

-- an option that has letters of these alone: one, or where they may be joined, several
abbrev pub option_fits : Bool → List ℕ → List ℕ → Bool
option_fits joined letters word = (joined || (length word == 2)) && list_all (has_letter letters) (drop 1 word)

-- whether each of the options in front is one of these
abbrev pub options_fit : Bool → List ℕ → List (List ℕ) → Bool
options_fit joined letters words = list_all (option_fits joined letters) (options words)

-- whether one of these options has this letter
abbrev pub option_with : ℕ → List (List ℕ) → Bool
option_with letter given = list_any (λ word. has_letter (drop 1 word) letter) given

-- whether one of the options in front has it
abbrev pub has_option : ℕ → List (List ℕ) → Bool
has_option letter words = option_with letter (options words)

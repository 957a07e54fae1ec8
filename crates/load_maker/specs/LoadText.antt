-- The text of the script of a made package.
use Rattle.std.specs.Prelude.{ℕ, zero, suc, ◌+◌, ◌/◌, ◌%◌, List, [], ◌∷◌, ◌++◌, codes}
use Rattle.script_names.specs.Ascii.{digit_zero}
use Rattle.shown_texts.specs.Lines.{line}

-- a number below 1,000 in three decimal digits
abbrev pub three_digits : ℕ → List ℕ
three_digits k = (digit_zero + k / 100) ∷ (digit_zero + (k / 10) % 10) ∷ (digit_zero + k % 10) ∷ []

-- a line of words with a number behind them
abbrev pub numbered_line : List ℕ → ℕ → List ℕ
numbered_line words k = line (words ++ three_digits k)

-- the line that makes the directory of a number
abbrev pub load_line : ℕ → List ℕ
load_line k = numbered_line (codes "mkdir -p /srv/k") k

-- the lines of the numbers from 1 to the given one
abbrev pub load_lines : ℕ → List ℕ
load_lines zero = []
load_lines (suc k) = load_lines k ++ load_line (suc k)

-- the script: it begins strict, and makes directory after directory
abbrev pub load_text : ℕ → List ℕ
load_text n = line (codes "#!/bin/sh") ++ (line (codes "set -e") ++ load_lines n)

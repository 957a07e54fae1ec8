-- A text that is cut at bytes that pass a test. What is read of such pieces is printed again and compared, so pieces
-- without a byte may be left out.
use Rattle.std.specs.Prelude.{ℕ, Bool, ◌||◌, ◌==◌, List, filter}
use Rattle.std.specs.List.{slice_split}
use Rattle.script_names.specs.Ascii.{newline, space, comma, brace_open, brace_close}
use Rattle.script_names.specs.Paths.{is_filled}

-- the pieces between bytes that pass the test, without those of no byte
abbrev pub pieces : (ℕ → Bool) → List ℕ → List (List ℕ)
pieces ends text = filter is_filled (slice_split ends text)

-- what ends a line
abbrev pub ends_line : ℕ → Bool
ends_line b = b == newline

-- what ends a word of a line
abbrev pub ends_word : ℕ → Bool
ends_word b = b == space

-- what ends a member of a list: a comma or a brace
abbrev pub ends_member : ℕ → Bool
ends_member b = (b == comma) || ((b == brace_open) || (b == brace_close))

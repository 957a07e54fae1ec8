-- Where a byte stands in a text: its line, and its column in characters of UTF-8.
use Rattle.std.specs.Prelude.{ℕ, zero, suc, ◌+◌, ◌-◌, ◌==◌, nat_le, is_some, List, [], ◌∷◌, length, take, drop}
use Rattle.std.specs.Prelude.{if◌then◌else◌}
use Rattle.bstr.specs.Utf8.{decoded}
use Rattle.script_names.specs.Ascii.{newline}
use Rattle.script_places.specs.declared.positions.Position.{Position}

-- how many bytes the first character has: those of a well-formed sequence (The Unicode Standard, table 3-7); a byte
-- that begins none is a character of its own
abbrev pub character_length : List ℕ → ℕ
character_length text = if is_some (decoded text).char then (decoded text).size else 1

-- how many newlines a byte is
abbrev pub newline_count : ℕ → ℕ
newline_count b = if b == newline then 1 else 0

-- how many newlines there are
abbrev pub newlines : List ℕ → ℕ
newlines [] = 0
newlines (b ∷ text) = newline_count b + newlines text

-- how many bytes stand behind the last newline, a byte later
abbrev pub offset_behind : ℕ → ℕ → ℕ
offset_behind n b = if b == newline then 0 else n + 1

-- how many bytes stand behind the last newline, where n stand behind one before the text
abbrev pub behind_newline : ℕ → List ℕ → ℕ
behind_newline n [] = n
behind_newline n (b ∷ text) = behind_newline (offset_behind n b) text

-- where the line begins that byte `at` stands in; the last line's begin where there is no such byte
abbrev pub line_begin : ℕ → List ℕ → ℕ
line_begin at text = length (take at text) - behind_newline 0 (take at text)

-- how many bytes stand before the first newline
abbrev pub line_length : List ℕ → ℕ
line_length [] = 0
line_length (b ∷ text) = if b == newline then 0 else suc (line_length text)

-- what stands before the first newline
abbrev pub first_line : List ℕ → List ℕ
first_line text = take (line_length text) text

-- how many bytes are to be passed over behind the first one, where so many are from that one on: the rest of a character
abbrev pub passed_behind : ℕ → List ℕ → ℕ
passed_behind zero text = character_length text - 1
passed_behind (suc passed) text = passed

-- how many characters begin here and end within the first n bytes: one, or none
abbrev pub whole_here : ℕ → ℕ → List ℕ → ℕ
whole_here zero n text = if nat_le (character_length text) n then 1 else 0
whole_here (suc passed) n text = 0

-- how many characters end within the first n bytes, but for the one whose rest the first `passed` bytes are
abbrev pub characters_within : ℕ → ℕ → List ℕ → ℕ
characters_within passed n [] = 0
characters_within passed n (b ∷ text) =
    whole_here passed n (b ∷ text) + characters_within (passed_behind passed (b ∷ text)) (n - 1) text

-- The line of byte `at` is one more than the newlines before it; its column one more than the characters of its line
-- that end before it or with it, so that a byte within a character has the character's own column.
abbrev pub position_of : List ℕ → ℕ → Position
position_of text at = record {
  line = 1 + newlines (take at text);
  column = 1 + characters_within 0 (behind_newline 0 (take at text)) (drop (line_begin at text) text);
}

-- the line of byte `at`, without its newline
abbrev pub line_at : List ℕ → ℕ → List ℕ
line_at text at = first_line (drop (line_begin at text) text)

-- how many lines a text has, of which the last may lack its newline
abbrev pub line_count : List ℕ → ℕ
line_count text = newlines text + (if behind_newline 0 text == 0 then 0 else 1)

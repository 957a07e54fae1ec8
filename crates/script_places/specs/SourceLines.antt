-- How the line of a byte is shown on a terminal, and where the command that begins there stands below it.
use Rattle.std.specs.Prelude.{ℕ, zero, suc, ◌+◌, ◌-◌, ◌%◌, ◌/◌, Bool, true, false, not, ◌&&◌, ◌||◌, ◌==◌, nat_le, nat_lt}
use Rattle.std.specs.Prelude.{max, List, [], ◌∷◌, ◌++◌, length, take, drop, replicate, codes, Option, Some, None}
use Rattle.std.specs.Prelude.{if◌then◌else◌}
use Rattle.std.specs.List.{flat_map}
use Rattle.bstr.specs.Utf8.{decoded}
use Rattle.script_names.specs.Ascii.{tab, space, backslash, lower_x}
use Rattle.shown_texts.specs.Show.{hex_digit}
use Rattle.script_places.specs.declared.source_lines.Look.{Look}
use Rattle.script_places.specs.declared.source_lines.Look.TheVariants.{Itself, Joined, Blanks, Spelled}
use Rattle.script_places.specs.declared.source_lines.Cell.{Cell}
use Rattle.script_places.specs.declared.source_lines.SourceLine.{SourceLine}
use Rattle.script_places.specs.Positions.{passed_behind, line_at, behind_newline}
use Rattle.script_places.specs.CommandEnds.{command_length}

-- ---- one byte

-- a number from a to b
abbrev pub is_within : ℕ → ℕ → ℕ → Bool
is_within a b n = nat_le a n && nat_le n b

-- A character that is shown as it is: no control, and none that turns the direction of writing, breaks a line, or
-- has no width (The Unicode Standard, 23.2 Layout Controls).
abbrev pub is_shown : ℕ → Bool
is_shown c =
    not (is_within 0 31 c || is_within 127 159 c || c == 0x61c || is_within 0x200b 0x200f c
    || is_within 0x2028 0x202e c || is_within 0x2060 0x206f c || c == 0xfeff)

-- whether the first character of a text is shown as it is
abbrev pub shows : Option ℕ → Bool
shows None = false
shows (Some c) = is_shown c

-- how the first byte of a character looks that begins so many columns behind one where a tab goes to: each fourth
abbrev pub first_look : ℕ → List ℕ → Look
first_look column [] = Spelled
first_look column (b ∷ text) =
    if b == tab then Blanks (4 - column % 4)
    else (if shows (decoded (b ∷ text)).char then Itself else Spelled)

-- how the further bytes of a character look
abbrev pub rest_look : Look → Look
rest_look Itself = Joined
rest_look Joined = Joined
rest_look (Blanks n) = Spelled
rest_look Spelled = Spelled

-- how many columns a byte has that looks so
abbrev pub look_width : Look → ℕ
look_width Itself = 1
look_width Joined = 0
look_width (Blanks n) = n
look_width Spelled = 4

-- how a byte is printed: as it is, as blanks, or as `\x` and two hexadecimal digits
abbrev pub looked : ℕ → Look → List ℕ
looked b Itself = b ∷ []
looked b Joined = b ∷ []
looked b (Blanks n) = replicate n space
looked b Spelled = backslash ∷ lower_x ∷ hex_digit (b / 16) ∷ hex_digit (b % 16) ∷ []

-- how a cell is printed
abbrev pub cell_text : Cell → List ℕ
cell_text c = looked c.byte c.look

-- ---- bytes

-- how the first byte looks, of which so many first bytes are the rest of an earlier character and look so
abbrev pub look_at : ℕ → ℕ → Look → List ℕ → Look
look_at column zero rest text = first_look column text
look_at column (suc passed) rest text = rest

-- the cells of a text, byte by byte, that begins so many columns behind one where a tab goes to
abbrev pub cells : ℕ → ℕ → Look → List ℕ → List Cell
cells column passed rest [] = []
cells column passed rest (b ∷ text) =
    let look = look_at column passed rest (b ∷ text) in
    record { byte = b; look = look }
    ∷ cells ((column + look_width look) % 4) (passed_behind passed (b ∷ text)) (rest_look look) text

-- the cells of a line
abbrev pub line_cells : List ℕ → List Cell
line_cells line = cells 0 0 Spelled line

-- how many columns they have
abbrev pub width : List Cell → ℕ
width [] = 0
width (c ∷ cs) = look_width c.look + width cs

-- whether they have room in so many columns
abbrev pub fits : ℕ → List Cell → Bool
fits room cells = nat_le (width cells) room

-- ---- lines that are too long

-- how many first cells have room in so many columns
abbrev pub first_count : ℕ → List Cell → ℕ
first_count room [] = 0
first_count room (c ∷ cs) =
    if nat_le (look_width c.look) room then suc (first_count (room - look_width c.look) cs) else 0

-- the first cells that have room in so many columns
abbrev pub first_within : ℕ → List Cell → List Cell
first_within room cs = take (first_count room cs) cs

-- whether a cell goes on with a character
abbrev pub is_joined : Look → Bool
is_joined Joined = true
is_joined look = false

-- the last cells that have room in so many columns, from the begin of a character on
abbrev pub last_within : ℕ → List Cell → List Cell
last_within room [] = []
last_within room (c ∷ cs) =
    if fits room (c ∷ cs) && not (is_joined c.look) then c ∷ cs else last_within room cs

-- how many columns are printed of a line
abbrev pub most_columns : ℕ
most_columns = 100

-- how many of a longer one before the place
abbrev pub most_before : ℕ
most_before = 40

-- how many from the place on
abbrev pub most_after : ℕ
most_after = 60

-- what stands for cells that are left out before the printed ones
abbrev pub left_out_before : Bool → List ℕ
left_out_before cut = if cut then codes "[..] " else []

-- what stands for those that are left out behind them
abbrev pub left_out_behind : Bool → List ℕ
left_out_behind cut = if cut then codes " [..]" else []

-- The line with the printed cells before the place and from the place on, and whether there are more of either;
-- `marked` bytes from the place on are underlined, as far as they are printed, and at least one column.
abbrev pub shown_line : List Cell → List Cell → Bool → Bool → ℕ → SourceLine
shown_line before after cut_before cut_after marked = record {
  text =
      left_out_before cut_before
      ++ (flat_map cell_text before ++ (flat_map cell_text after ++ left_out_behind cut_after));
  before = length (left_out_before cut_before) + width before;
  marked = max 1 (width (take marked after));
}

-- as much as has room of cells before a place and from it on
abbrev pub cut_line : List Cell → List Cell → ℕ → SourceLine
cut_line before after marked =
    let left = last_within most_before before in
    let right = first_within most_after after in
    shown_line left right (nat_lt (length left) (length before)) (nat_lt (length right) (length after)) marked

-- a line of cells with a place behind the first n of them: whole where it has room, else cut
abbrev pub fitted_line : ℕ → List Cell → ℕ → SourceLine
fitted_line n all marked =
    if fits most_columns all then shown_line (take n all) (drop n all) false false marked
    else cut_line (take n all) (drop n all) marked

-- the line of byte `at` of a script, with the command that begins there underlined as far as it stands in the line
abbrev pub source_line : List ℕ → ℕ → SourceLine
source_line script at =
    fitted_line (behind_newline 0 (take at script)) (line_cells (line_at script at))
    (command_length (drop at script))

-- The lines of a text, each with its number and the byte at which it begins.
use Rattle.std.specs.Prelude.{ℕ, ◌+◌, ◌==◌, List, [], ◌∷◌, ◌++◌, length, if◌then◌else◌}
use Rattle.script_names.specs.Ascii.{newline}
use Rattle.explanation_pages.specs.declared.cut_lines.Line.{Line}
use Rattle.explanation_pages.specs.declared.cut_lines.Cut.{Cut}

-- no line, and an empty first one
abbrev pub begun : Cut
begun = record { done = []; last = record { number = 1; begin = 0; text = [] } }

-- the empty line below a line
abbrev pub below : Line → Line
below line = record { number = line.number + 1; begin = line.begin + length line.text + 1; text = [] }

-- the lines, a newline later
abbrev pub with_newline : Cut → Cut
with_newline cut = record { done = cut.done ++ cut.last ∷ []; last = below cut.last }

-- the lines, a byte later that is no newline
abbrev pub with_other : Cut → ℕ → Cut
with_other cut b = record {
  done = cut.done;
  last = record { number = cut.last.number; begin = cut.last.begin; text = cut.last.text ++ b ∷ [] };
}

-- the lines, a byte later
abbrev pub with_byte : Cut → ℕ → Cut
with_byte cut b = if b == newline then with_newline cut else with_other cut b

-- the lines, some bytes later
abbrev pub cut_from : Cut → List ℕ → Cut
cut_from cut [] = cut
cut_from cut (b ∷ text) = cut_from (with_byte cut b) text

-- all lines: also the last, where it has bytes and no newline
abbrev pub all_lines : Cut → List Line
all_lines cut = if length cut.last.text == 0 then cut.done else cut.done ++ cut.last ∷ []

-- the lines of a text
abbrev pub lines_of : List ℕ → List Line
lines_of text = all_lines (cut_from begun text)

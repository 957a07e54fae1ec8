-- A line, and the text of lines.
use Rattle.std.specs.Prelude.{ℕ, Bool, List, [], ◌∷◌, ◌++◌, Option, Some, None, if◌then◌else◌}
use Rattle.std.specs.List.{flat_map}
use Rattle.std.specs.Option.{option_map}
use Rattle.script_names.specs.Ascii.{newline}
use Rattle.script_names.specs.Paths.{is_filled}
use Rattle.shown_texts.specs.Parts.{parts, lacks}

-- a line of a text: it ends in a newline
abbrev pub line : List ℕ → List ℕ
line text = text ++ newline ∷ []

-- the text of lines
abbrev pub lines_text : List (List ℕ) → List ℕ
lines_text lines = flat_map line lines

-- what may stand in a line: no newline
abbrev pub is_line : List ℕ → Bool
is_line text = lacks newline text

-- parts but the last, which is to have no byte
abbrev pub but_last : List (List ℕ) → Option (List (List ℕ))
but_last [] = None
but_last (last ∷ []) = if is_filled last then None else Some []
but_last (part ∷ next ∷ texts) = option_map (λ lines. part ∷ lines) (but_last (next ∷ texts))

-- the lines of a text; it has none, or ends in a newline
abbrev pub lines_of : List ℕ → Option (List (List ℕ))
lines_of text = but_last (parts newline text)

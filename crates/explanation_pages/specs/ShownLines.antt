-- A text of `explain` in a page, line by line: what a browser reads of it is the text, and a line has a class by the sign
-- that stands in it.
use Rattle.std.specs.Prelude.{ℕ, ◌-◌, ◌==◌, Bool, List, [], ◌++◌, length, take, drop, codes, if◌then◌else◌}
use Rattle.std.specs.List.{flat_map}
use Rattle.std.specs.Str.{bytes_eq}
use Rattle.html_texts.specs.Escaped.{html_text}
use Rattle.explanation_pages.specs.Joined.{two, five}
use Rattle.explanation_pages.specs.declared.cut_lines.Line.{Line}
use Rattle.explanation_pages.specs.CutLines.{lines_of}

-- a line begins with this sign of what a run makes of a place
abbrev pub begins : List ℕ → List ℕ → Bool
begins sign line = bytes_eq (take 6 line) sign

-- the mark of a place that is told above stands at the end of a line
abbrev pub is_told_above : List ℕ → Bool
is_told_above line = bytes_eq (drop (length line - 14) line) (codes "<-- told above")

-- the class of a line, by the sign in it; no bytes, where it has none
abbrev pub line_class : List ℕ → List ℕ
line_class line =
    if begins (codes "    - ") line then codes "taken"
    else (if begins (codes "    + ") line then codes "made"
    else (if begins (codes "    ~ ") line then codes "changed"
    else (if is_told_above line then codes "decides" else [])))

-- a line without a class
unfoldable pub plain_html : Line → List ℕ
plain_html line = two (html_text line.text) (codes "\n")

-- a line with one
unfoldable pub marked_html : List ℕ → Line → List ℕ
marked_html class line =
    five (codes "<span class=\"") class (codes "\">") (html_text line.text) (codes "</span>\n")

-- a line
abbrev pub line_html : Line → List ℕ
line_html line =
    if length (line_class line.text) == 0 then plain_html line else marked_html (line_class line.text) line

-- a text, whose lines stay as they are
unfoldable pub pre_html : List ℕ → List ℕ
pre_html text = codes "<pre>" ++ flat_map line_html (lines_of text) ++ codes "</pre>\n"

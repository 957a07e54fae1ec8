-- Of which outcomes an act stands in a line: those of which one is at a byte of it.
use Rattle.std.specs.Prelude.{ℕ, ◌-◌, Bool, true, false, ◌&&◌, nat_le, List, [], ◌∷◌, length, Option, Some, None}
use Rattle.std.specs.List.{filter, list_any}
use Rattle.script_places.specs.declared.reach.Lines.{Lines}
use Rattle.explanation_pages.specs.declared.cut_lines.Line.{Line}

-- a byte of a script stands in a line, or is its newline
abbrev pub is_on : Line → ℕ → Bool
is_on line at = nat_le line.begin at && nat_le (at - line.begin) (length line.text)

-- an act of an outcome stands in a line, whose acts are at these bytes
abbrev pub acts_on : Line → List ℕ → Bool
acts_on line sites = list_any (is_on line) sites

-- of how many outcomes an act stands in a line
abbrev pub act_count : Line → List (List ℕ) → ℕ
act_count line all = length (filter (acts_on line) all)

-- an outcome has an act in the script, at some byte
abbrev pub acts_somewhere : List ℕ → Bool
acts_somewhere [] = false
acts_somewhere (at ∷ sites) = true

-- how many outcomes have one
abbrev pub acting_count : List (List ℕ) → ℕ
acting_count all = length (filter acts_somewhere all)

-- a line is one of these, where some are known
abbrev pub is_left : Option Lines → ℕ → Bool
is_left None number = false
is_left (Some lines) number = nat_le lines.first number && nat_le number lines.last

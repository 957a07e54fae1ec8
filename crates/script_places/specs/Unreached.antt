-- The lines of a script behind which no run comes. A script without a loop and without a function is executed from the
-- top to the bottom: nothing is executed that begins behind the end of the command at which the run stands. So where
-- each call of the script ends the whole run at a command, no line below the lowest of these commands is reached. (The
-- patterns of a `case` are expanded before a fault at the `case` itself, so such an end tells nothing here.)
use Rattle.std.specs.Prelude.{ℕ, ◌+◌, Bool, false, not, ◌&&◌, ◌||◌, ◌==◌, nat_le, max, List, [], ◌∷◌, codes, length, take}
use Rattle.std.specs.Prelude.{drop, Option, Some, None, if◌then◌else◌}
use Rattle.std.specs.Str.{bytes_eq}
use Rattle.script_names.specs.Ascii.{newline, backslash, paren_open, paren_close}
use Rattle.script_places.specs.declared.reach.CallLeft.{CallLeft}
use Rattle.script_places.specs.declared.reach.CallLeft.TheVariants.{Through, EndedAt}
use Rattle.script_places.specs.declared.reach.Lines.{Lines}
use Rattle.script_places.specs.Positions.{newlines, line_count}
use Rattle.script_places.specs.CommandEnds.{command_length, is_blank}

-- whether a joined line stands at a byte with this behind it: a backslash, and a newline
abbrev pub is_joined : ℕ → List ℕ → Bool
is_joined b [] = false
is_joined b (c ∷ text) = b == backslash && c == newline

-- a text without its joined lines
abbrev pub joined : List ℕ → List ℕ
joined [] = []
joined (b ∷ []) = b ∷ []
joined (b ∷ c ∷ text) = if is_joined b (c ∷ text) then joined text else b ∷ joined (c ∷ text)

-- whether a text begins with these four bytes
abbrev pub begins : List ℕ → List ℕ → Bool
begins word text = bytes_eq (take 4 text) word

-- whether the word stands somewhere that ends each loop: `done` (XCU 2.9.4)
abbrev pub has_done : List ℕ → Bool
has_done [] = false
has_done (b ∷ text) = begins (codes "done") (b ∷ text) || has_done text

-- whether a parenthesis is closed here, perhaps behind blanks
abbrev pub is_closed : List ℕ → Bool
is_closed [] = false
is_closed (b ∷ text) = b == paren_close || (is_blank b && is_closed text)

-- whether a pair of parentheses stands somewhere with nothing in it, as in each definition of a function (XCU 2.9.5)
abbrev pub has_parens : List ℕ → Bool
has_parens [] = false
has_parens (b ∷ text) = (b == paren_open && is_closed text) || has_parens text

-- A script that has no loop and no function. Some of these are not told to be so, as where a comment has the word.
abbrev pub goes_down : List ℕ → Bool
goes_down script = not (has_done (joined script)) && not (has_parens (joined script))

-- the command that begins at this byte
abbrev pub command_at : List ℕ → ℕ → List ℕ
command_at script at = take (command_length (drop at script)) (drop at script)

-- where the command ends at which a call ended; None where the call went through, or ended at a `case`
abbrev pub end_of : List ℕ → CallLeft → Option ℕ
end_of script Through = None
end_of script (EndedAt at) =
    if begins (codes "case") (joined (command_at script at)) then None
    else Some (at + length (command_at script at))

-- the last of two ends, where there are two
abbrev pub lower_end : Option ℕ → Option ℕ → Option ℕ
lower_end None low = None
lower_end (Some end) None = None
lower_end (Some end) (Some low) = Some (max low end)

-- the last of the end of an earlier call and the ends of these, where each has one
abbrev pub lowest_end : List ℕ → Option ℕ → List CallLeft → Option ℕ
lowest_end script low [] = low
lowest_end script low (call ∷ calls) = lowest_end script (lower_end (end_of script call) low) calls

-- the lines from the one below a byte to the last, if there are some
abbrev pub lines_below : List ℕ → Option ℕ → Option Lines
lines_below script None = None
lines_below script (Some end) =
    if nat_le (newlines (take end script) + 2) (line_count script)
    then Some (record { first = newlines (take end script) + 2; last = line_count script })
    else None

-- The last lines of a script that no run reaches, by how each call of the script ends in any run of a scenario; None
-- where no call is known, or no such lines are known.
abbrev pub unreached : List ℕ → List CallLeft → Option Lines
unreached script [] = None
unreached script (call ∷ calls) =
    if goes_down script then lines_below script (lowest_end script (Some 0) (call ∷ calls)) else None

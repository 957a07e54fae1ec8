-- Nested text: words and lists in parentheses, read byte by byte with a stack of the open lists. Any text is read;
-- what has the wrong form gives some members.
use Rattle.std.specs.Prelude.{ℕ, ◌-◌, ◌==◌, List, [], ◌∷◌, ◌++◌, length, take, slice_index_or, if◌then◌else◌}
use Rattle.script_names.specs.Ascii.{paren_close, paren_open, space}
use Rattle.colis_reader.specs.declared.nest.Nest.{Nest}
use Rattle.colis_reader.specs.declared.nest.Nest.TheVariants.{Node}

-- how far a text is read: the word that is begun, the members of the innermost open list, and those of the lists
-- around it, the innermost last
pub record Reading : Type 0 where
  pub word : List ℕ
  pub top : List Nest
  pub up : List (List Nest)

-- the reading of these
abbrev pub reading : List ℕ → List Nest → List (List Nest) → Reading
reading word top up = record { word = word; top = top; up = up }

-- members, with the word that was begun behind them, if one was
abbrev pub with_word : List ℕ → List Nest → List Nest
with_word word top = if length word == 0 then top else top ++ Node word [] ∷ []

-- the word is over
abbrev pub ended : Reading → Reading
ended r = reading [] (with_word r.word r.top) r.up

-- a list begins
abbrev pub opened : Reading → Reading
opened r = reading [] [] (r.up ++ r.top ∷ [])

-- the members of the list around the innermost one; none where there is none
abbrev pub around : List (List Nest) → List Nest
around up = slice_index_or up (length up - 1) []

-- the innermost list is over
abbrev pub closed : Reading → Reading
closed r = reading [] (around r.up ++ Node [] r.top ∷ []) (take (length r.up - 1) r.up)

-- a byte further: a space ends a word, parentheses begin and end a list
abbrev pub step : Reading → ℕ → Reading
step r byte =
    if byte == space then ended r
    else (if byte == paren_open then opened (ended r)
    else (if byte == paren_close then closed (ended r)
    else reading (r.word ++ byte ∷ []) r.top r.up))

-- a text further
abbrev pub run : Reading → List ℕ → Reading
run r [] = r
run r (byte ∷ text) = run (step r byte) text

-- nothing is read yet
abbrev pub unread : Reading
unread = reading [] [] []

-- the members that a text has outside of parentheses, but for a word at its end
abbrev pub nests_of : List ℕ → List Nest
nests_of text = (run unread text).top

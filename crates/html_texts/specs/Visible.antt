-- The text that is shown for bytes: characters as they are, and everything else spelled.
use Rattle.std.specs.Prelude.{ℕ, zero, suc, Bool, true, false, ◌&&◌, ◌||◌, ◌==◌, List, [], ◌∷◌, ◌++◌}
use Rattle.bstr.specs.Utf8.{decoded}
use Rattle.script_names.specs.Ascii.{tab, newline}
use Rattle.shown_texts.specs.Show.{show}
use Rattle.script_places.specs.Positions.{passed_behind}
use Rattle.script_places.specs.SourceLines.{shows}

-- whether the first character of a text stands as it is: a tab, a newline, or one that is shown on a terminal as it is
abbrev pub stands : List ℕ → Bool
stands [] = false
stands (b ∷ text) = (b == tab) || (b == newline) || shows (decoded (b ∷ text)).char

-- whether the first byte stands as it is, of which so many first bytes are the rest of an earlier character and do so
abbrev pub stands_at : ℕ → Bool → List ℕ → Bool
stands_at zero rest text = stands text
stands_at (suc passed) rest text = rest

-- a byte as it is, or spelled: `\x` and two hexadecimal digits
abbrev pub visible_byte : Bool → ℕ → List ℕ
visible_byte true b = b ∷ []
visible_byte false b = show (b ∷ [])

-- the bytes of a text, of which so many first ones are the rest of an earlier character, and stand as they are or not
abbrev pub visible_from : ℕ → Bool → List ℕ → List ℕ
visible_from passed rest [] = []
visible_from passed rest (b ∷ text) =
    let as_it_is = stands_at passed rest (b ∷ text) in
    visible_byte as_it_is b ++ visible_from (passed_behind passed (b ∷ text)) as_it_is text

-- the text that is shown for bytes
abbrev pub visible : List ℕ → List ℕ
visible text = visible_from 0 true text

-- each character of a text stands as it is, but for so many first bytes
abbrev pub all_stand : ℕ → List ℕ → Bool
all_stand passed [] = true
all_stand passed (b ∷ text) = stands_at passed true (b ∷ text) && all_stand (passed_behind passed (b ∷ text)) text

-- no control but tabs and newlines stands in the text, no byte that is no UTF-8, and no character that turns the direction of
-- writing, breaks a line or has no width
abbrev pub is_visible : List ℕ → Bool
is_visible text = all_stand 0 text

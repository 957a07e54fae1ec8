-- Which bytes name an entry of a directory (POSIX.1-2017, Base Definitions, 3.170).
use Rattle.std.specs.Prelude.{ℕ, Bool, false, not, ◌&&◌, ◌==◌, nat_le, nat_lt, List, [], ◌∷◌, length}
use Rattle.std.specs.List.{list_all}
use Rattle.script_names.specs.Ascii.{full_stop, nul, slash}
use Rattle.script_names.specs.declared.name.TheConstants.{NAME_MAX}

-- `.` and `..`, which name a directory itself and the one above it
abbrev pub is_dots : List ℕ → Bool
is_dots [] = false
is_dots (a ∷ []) = a == full_stop
is_dots (a ∷ b ∷ []) = (a == full_stop) && (b == full_stop)
is_dots (a ∷ b ∷ c ∷ rest) = false

-- neither NUL nor `/`
abbrev pub is_plain_byte : ℕ → Bool
is_plain_byte b = not (b == nul) && not (b == slash)

-- a name: 1 to 255 bytes, none NUL or `/`, neither `.` nor `..`
abbrev pub is_name : List ℕ → Bool
is_name bytes =
    nat_lt 0 (length bytes) && nat_le (length bytes) NAME_MAX && list_all is_plain_byte bytes && not (is_dots bytes)

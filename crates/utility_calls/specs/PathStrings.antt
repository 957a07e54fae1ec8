-- What `basename` and `dirname` write of a string (POSIX.1-2017, XCU `basename`, `dirname`). No path is looked up.
use Rattle.std.specs.Prelude.{ℕ, Bool, false, not, ◌&&◌, ◌||◌, ◌-◌, nat_eq, nat_lt, List, [], ◌∷◌, length, take, codes}
use Rattle.std.specs.Prelude.{None, if◌then◌else◌}
use Rattle.std.specs.List.{list_any, last_or, ends_with}
use Rattle.std.specs.Option.{option_map_or}
use Rattle.std.specs.Str.{bytes_eq}
use Rattle.script_names.specs.Ascii.{slash}
use Rattle.script_names.specs.Paths.{is_slash, is_filled, components}
use Rattle.utility_calls.specs.Options.{is_option}

-- whether the first byte is `/`
abbrev pub begins_with_slash : List ℕ → Bool
begins_with_slash [] = false
begins_with_slash (b ∷ bs) = is_slash b

-- whether two `/` stand side by side
abbrev pub has_adjacent_slashes : List ℕ → Bool
has_adjacent_slashes [] = false
has_adjacent_slashes (b ∷ bs) = (is_slash b && begins_with_slash bs) || has_adjacent_slashes bs

-- whether a word is an operand, by whether `--` ended the options: behind an operand there are no options
abbrev pub is_operand : Bool → List ℕ → Bool
is_operand ended word = ended || not (is_option word)

-- whether a word is a string that has a meaning here: it has bytes, and no two `/` side by side
abbrev pub is_path_string : Bool → List ℕ → Bool
is_path_string ended word = is_operand ended word && (is_filled word && not (has_adjacent_slashes word))

-- a string without a `/` at its end, unless it is `/`
abbrev pub without_last_slash : List ℕ → List ℕ
without_last_slash word =
    if nat_lt 1 (length word) && ends_with nat_eq word (slash ∷ []) then take (length word - 1) word else word

-- what stands behind the last `/`, or all where there is none
abbrev pub last_part : List ℕ → List ℕ
last_part word = option_map_or (λ part. part) (last_or None (components word)) []

-- what stands before the last `/`
abbrev pub front_part : List ℕ → List ℕ
front_part word = take (length word - length (last_part word) - 1) word

-- the last part of such a string without a slash at its end; of `/` that is `/`
abbrev pub file_part : List ℕ → List ℕ
file_part word = if bytes_eq word (codes "/") then word else last_part word

-- the directory of such a string without a slash at its end: `.` where it has no slash, `/` where that is its first byte
-- alone
abbrev pub directory_part : List ℕ → List ℕ
directory_part word =
    if not (list_any is_slash word) then codes "."
    else (if not (is_filled (front_part word)) then codes "/" else front_part word)

-- what `basename` writes of a string
abbrev pub base_name : List ℕ → List ℕ
base_name word = file_part (without_last_slash word)

-- what `dirname` writes of a string
abbrev pub dir_name : List ℕ → List ℕ
dir_name word = directory_part (without_last_slash word)

-- a name without this suffix, where it has it and is not the suffix alone
abbrev pub without_suffix : List ℕ → List ℕ → List ℕ
without_suffix suffix name =
    if nat_lt (length suffix) (length name) && ends_with nat_eq name suffix
    then take (length name - length suffix) name else name

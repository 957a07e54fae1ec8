-- Words that say a mode, an owner or a group (POSIX.1-2017, XCU `chmod`, `chown`, `chgrp`). Which mode, owner or group
-- that is makes no difference here: a tree has none of them.
use Rattle.std.specs.Prelude.{ℕ, Bool, false, ◌&&◌, ◌||◌, ◌==◌, nat_lt, nat_le, List, [], ◌∷◌, length, codes}
use Rattle.std.specs.Prelude.{if◌then◌else◌}
use Rattle.std.specs.List.{list_all, slice_split}
use Rattle.std.specs.Str.{bytes_eq}
use Rattle.script_names.specs.Ascii.{digit_zero, digit_seven, comma, colon}
use Rattle.script_names.specs.ShellNames.{is_digit}
use Rattle.utility_calls.specs.declared.modes.Setting.{Setting}
use Rattle.utility_calls.specs.declared.modes.Setting.TheVariants as setting
use Rattle.utility_calls.specs.Options.{has_letter}

-- one byte or more, and at most so many
abbrev pub has_at_most : ℕ → List ℕ → Bool
has_at_most most word = nat_lt 0 (length word) && nat_le (length word) most

-- ---- modes

-- `0` to `7`
abbrev pub is_octal_digit : ℕ → Bool
is_octal_digit b = nat_le digit_zero b && nat_le b digit_seven

-- a mode as a number: one to four octal digits
abbrev pub is_octal_mode : List ℕ → Bool
is_octal_mode word = has_at_most 4 word && list_all is_octal_digit word

-- one of the letters that say whose permissions are meant
abbrev pub is_who : ℕ → Bool
is_who b = has_letter (codes "ugoa") b

-- one of the operators
abbrev pub is_operator : ℕ → Bool
is_operator b = has_letter (codes "+-=") b

-- an operator, or one of the letters of permissions
abbrev pub is_of_action : ℕ → Bool
is_of_action b = has_letter (codes "+-=rwxXst") b

-- a clause without the letters in front that say whose permissions are meant
abbrev pub behind_who : List ℕ → List ℕ
behind_who [] = []
behind_who (b ∷ bs) = if is_who b then behind_who bs else b ∷ bs

-- one or more actions: each is an operator with letters of permissions behind it, perhaps none
abbrev pub are_actions : List ℕ → Bool
are_actions [] = false
are_actions (b ∷ bs) = is_operator b && list_all is_of_action bs

-- a clause of a mode: perhaps letters that say whose permissions are meant, and actions
abbrev pub is_mode_clause : List ℕ → Bool
is_mode_clause clause = are_actions (behind_who clause)

-- `,`
abbrev pub is_comma : ℕ → Bool
is_comma b = b == comma

-- a mode as clauses, with a `,` between each two
abbrev pub is_symbolic_mode : List ℕ → Bool
is_symbolic_mode word = list_all is_mode_clause (slice_split is_comma word)

-- a mode
abbrev pub is_mode : List ℕ → Bool
is_mode word = is_octal_mode word || is_symbolic_mode word

-- ---- owners and groups

-- a user or a group: `root`, whose number is 0, or a number of one to nine digits
abbrev pub is_account : List ℕ → Bool
is_account word = bytes_eq word (codes "root") || (has_at_most 9 word && list_all is_digit word)

-- `:`
abbrev pub is_colon : ℕ → Bool
is_colon b = b == colon

-- an owner: a user, or a user and a group with a `:` between them
abbrev pub is_owner : List ℕ → Bool
is_owner word = nat_le (length (slice_split is_colon word)) 2 && list_all is_account (slice_split is_colon word)

-- ---- what a utility sets

-- whether a word says what is set
abbrev pub says : Setting → List ℕ → Bool
says setting.Mode word = is_mode word
says setting.Owner word = is_owner word
says setting.Group word = is_account word

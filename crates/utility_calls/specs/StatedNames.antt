-- Which names of commands can be stated.
use Rattle.std.specs.Prelude.{ℕ, Bool, not, ◌&&◌, ◌||◌, ◌==◌, nat_lt, nat_le, List, [], ◌∷◌, length, codes}
use Rattle.std.specs.List.{list_all}
use Rattle.script_names.specs.declared.name.TheConstants.{NAME_MAX}
use Rattle.script_names.specs.Ascii.{nul, space, tab}
use Rattle.script_names.specs.CommandNames.{is_one_of, is_kept_name}

-- neither NUL nor a blank (POSIX.1-2017, Base Definitions, 3.74 Blank Character): a space or a tab
abbrev pub is_name_byte : ℕ → Bool
is_name_byte b = not (b == nul) && (not (b == space) && not (b == tab))

-- special built-in utilities that change the shell itself, and that have no meaning here (POSIX.1-2017, XCU 2.14)
abbrev pub changing_special_built_ins : List (List ℕ)
changing_special_built_ins = codes "eval" ∷ codes "exec" ∷ codes "readonly" ∷ codes "shift" ∷ codes "trap" ∷ []

-- the other utilities that do (XCU cd, getopts and read); `local` is an extension (Debian Policy, 10.4)
abbrev pub changing_utilities : List (List ℕ)
changing_utilities = codes "cd" ∷ codes "getopts" ∷ codes "local" ∷ codes "read" ∷ []

-- whether a name is that of a utility that changes the shell itself: in no shell is it so that no call of it changes
-- anything, as a stated call has it
abbrev pub changes_shell : List ℕ → Bool
changes_shell name = is_one_of name changing_special_built_ins || is_one_of name changing_utilities

-- a name that can be stated: 1 to NAME_MAX bytes, none of them NUL or a blank, no name that has a meaning already, and
-- none of a utility that changes the shell itself
abbrev pub can_be_stated : List ℕ → Bool
can_be_stated name =
    nat_lt 0 (length name)
    && (nat_le (length name) NAME_MAX
    && (list_all is_name_byte name && (not (is_kept_name name) && not (changes_shell name))))

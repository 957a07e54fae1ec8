-- The first line of a script, which names its interpreter: `#!`, blanks, `/bin/sh`, `/bin/dash` or `/bin/bash`,
-- perhaps blanks and `-e`, perhaps blanks. It is read as it stands, without joined lines.
use Rattle.std.specs.Prelude.{ℕ, ◌+◌, Bool, true, false, if◌then◌else◌, nat_eq, [], ◌∷◌, Option}
use Rattle.std.specs.Prelude.{Some, None, codes}
use Rattle.std.specs.List.{list_all}
use Rattle.script_names.specs.Ascii.{newline, nul}
use Rattle.shell_lexer.specs.Text.{Bytes, is_blank}

-- the bytes before the first newline, and those behind it
abbrev pub first_line : Bytes → Bytes
first_line [] = []
first_line (b ∷ rest) = if nat_eq b newline then [] else b ∷ first_line rest

-- the bytes behind the first newline
abbrev pub behind_line : Bytes → Bytes
behind_line [] = []
behind_line (b ∷ rest) = if nat_eq b newline then rest else behind_line rest

-- from the first byte that is no blank
abbrev pub after_blanks : Bytes → Bytes
after_blanks [] = []
after_blanks (b ∷ rest) = if is_blank b then after_blanks rest else b ∷ rest

-- what follows these bytes, where a line begins with them
abbrev pub after : Bytes → Bytes → Option Bytes
after [] line = Some line
after (b ∷ bytes) [] = None
after (b ∷ bytes) (a ∷ rest) = if nat_eq a b then after bytes rest else None

-- the first of two that is there
abbrev pub or_else : Option Bytes → Option Bytes → Option Bytes
or_else None other = other
or_else (Some rest) other = Some rest

-- what follows the interpreter
abbrev pub after_interpreter : Bytes → Option Bytes
after_interpreter line =
    or_else (after (codes "/bin/sh") line) (or_else (after (codes "/bin/dash") line) (after (codes "/bin/bash") line))

-- blanks alone behind `-e`
abbrev pub strict_end : Option Bytes → Option Bool
strict_end None = None
strict_end (Some rest) = if list_all is_blank rest then Some true else None

-- whether the first byte is a blank
abbrev pub begins_blank : Bytes → Bool
begins_blank [] = false
begins_blank (b ∷ rest) = is_blank b

-- whether what follows the interpreter asks for `-e`, where it is of the form: blanks alone, or blanks, `-e` and
-- perhaps blanks
abbrev pub option_of : Bytes → Option Bool
option_of rest =
    if list_all is_blank rest then Some false
    else (if begins_blank rest then strict_end (after (codes "-e") (after_blanks rest)) else None)

-- whether `-e` is asked for, from what follows the interpreter, where there is one
abbrev pub option_behind : Option Bytes → Option Bool
option_behind None = None
option_behind (Some rest) = option_of rest

-- whether `-e` is asked for, from what follows `#!`, where the line begins so
abbrev pub interpreter_behind : Option Bytes → Option Bool
interpreter_behind None = None
interpreter_behind (Some rest) = option_behind (after_interpreter (after_blanks rest))

-- whether the line asks for `-e`, where it is of the form
abbrev pub interpreter : Bytes → Option Bool
interpreter line = interpreter_behind (after (codes "#!") line)

-- the place of the first NUL of a text whose first byte has this offset
abbrev pub nul_from : ℕ → Bytes → Option ℕ
nul_from at [] = None
nul_from at (b ∷ rest) = if nat_eq b nul then Some at else nul_from (at + 1) rest

-- the place of the first NUL of a text
abbrev pub nul_of : Bytes → Option ℕ
nul_of text = nul_from 0 text

-- How the parts of a word are printed, so that a shell reads them as the same parts (POSIX.1-2017, XCU 2.2 Quoting,
-- 2.6 Word Expansions).
use Rattle.std.specs.Prelude.{ℕ, Bool, true, false, if◌then◌else◌, not, ◌||◌, nat_eq, List, [], ◌∷◌, ◌++◌, Option}
use Rattle.std.specs.Prelude.{Some, None, codes}
use Rattle.std.specs.List.{flat_map}
use Rattle.std.specs.Fmt.{decimal}
use Rattle.script_names.specs.Ascii.{backquote, backslash, dollar, double_quote as double_quote_byte, newline}
use Rattle.shell_syntax.specs.declared.key.Key.{Key}
use Rattle.shell_syntax.specs.declared.key.Key.TheVariants.{Named, Arg, Count}

-- a string of bytes
abbrev pub Text : Type 0
Text = List ℕ

-- a byte that keeps a meaning of its own in double quotes: `"`, `$`, backslash or backquote (XCU 2.2.3)
abbrev pub is_active : ℕ → Bool
is_active byte =
    nat_eq byte double_quote_byte || (nat_eq byte dollar || (nat_eq byte backslash || nat_eq byte backquote))

-- a byte as it stands for itself in double quotes
abbrev pub escaped : ℕ → Text
escaped byte = if is_active byte then backslash ∷ byte ∷ [] else byte ∷ []

-- whether there is one byte alone that a backslash can quote, which is any but a newline (XCU 2.2.1)
abbrev pub is_one_byte : Text → Bool
is_one_byte [] = false
is_one_byte (byte ∷ []) = not (nat_eq byte newline)
is_one_byte (byte ∷ other ∷ bytes) = false

-- Quoted bytes: one byte behind a backslash, any others in double quotes of their own. Single quotes could not hold
-- every byte, and double quotes may not stand behind a plain `$`, where a part of one byte can.
unfoldable pub quoted_text : Text → Text
quoted_text bytes =
    if is_one_byte bytes then codes "\\" ++ bytes else codes "\"" ++ flat_map escaped bytes ++ codes "\""

-- the quotes before and behind an expansion that stands in double quotes
abbrev pub double_quote : Bool → Text
double_quote true = codes "\""
double_quote false = []

-- what a parameter expansion names, between the braces
abbrev pub key_text : Key → Text
key_text (Named name) = name
key_text (Arg number) = decimal number
key_text Count = codes "#"

-- the default, if there is one (XCU 2.6.2)
abbrev pub default_text : Option Text → Text
default_text None = []
default_text (Some default) = codes ":-" ++ default

-- a parameter expansion, always in braces, so that no byte behind it is taken for one of its name
unfoldable pub param_text : Key → Option Text → Bool → Text
param_text key default quoted =
    double_quote quoted ++ codes "${" ++ key_text key ++ default_text default ++ codes "}" ++ double_quote quoted

-- a command substitution: behind its `$(` no parenthesis stands (XCU 2.6.3), since each token has a blank or a newline
-- before it
unfoldable pub run_text : Text → Bool → Text
run_text body quoted = double_quote quoted ++ codes "$(" ++ body ++ codes " )" ++ double_quote quoted

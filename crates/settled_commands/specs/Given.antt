-- The variables that the commands of a script give a value (POSIX.1-2017, XCU 2.9.1 Simple Commands, 2.9.4.2 The for
-- Loop, 2.14 export, unset).
use Rattle.std.specs.Prelude.{ℕ, Bool, false, ◌||◌, ◌==◌, List, [], ◌∷◌, ◌++◌, take, codes}
use Rattle.std.specs.Prelude.{Option, Some, None, is_none, if◌then◌else◌}
use Rattle.std.specs.List.{list_any, flat_map, position}
use Rattle.std.specs.Str.{bytes_eq}
use Rattle.script_names.specs.Ascii.{equals}
use Rattle.settled_commands.specs.declared.seen.SeenCommand.{SeenCommand}
use Rattle.settled_commands.specs.declared.seen.SeenPart.{SeenPart}
use Rattle.settled_commands.specs.declared.seen.SeenPart.TheVariants.{Literal, Variable, Unknown}
use Rattle.settled_commands.specs.Joined.{all_joined}
use Rattle.settled_commands.specs.Seen.{Seen}

-- ---- static words

-- the bytes of a part without an expansion
abbrev pub literal : SeenPart → Option (List ℕ)
literal (Literal bytes quoted) = Some bytes
literal (Variable name default quoted) = None
literal Unknown = None

-- the text of a word without any expansion in it; such a word is static
abbrev pub static_text : List SeenPart → Option (List ℕ)
static_text parts = all_joined literal parts

-- ---- what a command gives a value

-- whether a name is `export` or `unset`
abbrev pub is_giving : Option (List ℕ) → Bool
is_giving None = false
is_giving (Some name) = bytes_eq name (codes "export") || bytes_eq name (codes "unset")

-- the words behind the first, where that is static and `export` or `unset`
abbrev pub giving : List (List SeenPart) → List (List SeenPart)
giving [] = []
giving (first ∷ operands) = if is_giving (static_text first) then operands else []

-- where the first `=` of a text stands
abbrev pub first_equals : List ℕ → Option ℕ
first_equals text = position (λ b. b == equals) text

-- what stands before a place in a text, or the whole text
abbrev pub before : List ℕ → Option ℕ → List ℕ
before text None = text
before text (Some at) = take at text

-- an operand of `export` or `unset`, NAME or NAME=VALUE: the name; none where the word is not static
abbrev pub operand_name : Option (List ℕ) → List (List ℕ)
operand_name None = []
operand_name (Some text) = before text (first_equals text) ∷ []

-- the names of the variables that a command gives a value
abbrev pub names_given : SeenCommand → List (List ℕ)
names_given command = command.assigned ++ flat_map (λ word. operand_name (static_text word)) (giving command.words)

-- whether a part is an expansion
abbrev pub is_expansion : SeenPart → Bool
is_expansion part = is_none (literal part)

-- whether a word has an expansion, so that it is not static
abbrev pub is_expanded : List SeenPart → Bool
is_expanded word = list_any is_expansion word

-- whether an operand of `export` or `unset` is not static, so that it may name any variable
abbrev pub gives_any : SeenCommand → Bool
gives_any command = list_any is_expanded (giving command.words)

-- whether the commands of a script give a variable a value
abbrev pub is_given : Seen → List ℕ → Bool
is_given commands name =
    list_any gives_any commands || list_any (λ given. bytes_eq given name) (flat_map names_given commands)

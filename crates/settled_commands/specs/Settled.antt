-- The simple commands of a script whose words are all settled: each word comes to one field, and to the same in every
-- run.
use Rattle.std.specs.Prelude.{ℕ, Bool, true, false, not, ◌&&◌, ◌||◌, List, [], ◌∷◌, codes}
use Rattle.std.specs.Prelude.{Option, Some, None, if◌then◌else◌}
use Rattle.std.specs.List.{list_any, flat_map}
use Rattle.std.specs.Option.{option_map}
use Rattle.std.specs.Str.{bytes_eq}
use Rattle.shell_syntax.specs.declared.syntax.Command.{Command}
use Rattle.shell_rules.specs.OwnNames.{is_shells_own}
use Rattle.settled_commands.specs.declared.seen.SeenCommand.{SeenCommand}
use Rattle.settled_commands.specs.declared.seen.SeenPart.{SeenPart}
use Rattle.settled_commands.specs.declared.seen.SeenPart.TheVariants.{Literal, Variable, Unknown}
use Rattle.settled_commands.specs.Seen.{Seen, commands_in}
use Rattle.settled_commands.specs.Given.{is_given}
use Rattle.settled_commands.specs.Joined.{all_joined}

-- the name of the script that runs, which dpkg gives a value
abbrev pub script_name : List ℕ
script_name = codes "DPKG_MAINTSCRIPT_NAME"

-- whether a variable has no value in a script of these commands: it is no shell's own, dpkg gives it none, and neither
-- does the script
abbrev pub has_no_value : Seen → List ℕ → Bool
has_no_value commands name =
    not (is_shells_own name) && (not (bytes_eq name script_name) && not (is_given commands name))

-- whether a text has no bytes
abbrev pub is_empty : List ℕ → Bool
is_empty [] = true
is_empty (b ∷ bs) = false

-- The text of a part, by which variables have no value. One without a value stands for its default where it is quoted,
-- and else for nothing; a default that is not quoted is split into fields, so with a byte it is not settled.
abbrev pub settled_part : (List ℕ → Bool) → SeenPart → Option (List ℕ)
settled_part unset (Literal bytes quoted) = Some bytes
settled_part unset (Variable name default quoted) =
    if unset name && (quoted || is_empty default) then Some default else None
settled_part unset Unknown = None

-- the text of a word, where its parts are settled
abbrev pub settled_text : (List ℕ → Bool) → List SeenPart → Option (List ℕ)
settled_text unset parts = all_joined (settled_part unset) parts

-- whether a part is quoted
abbrev pub is_quoted : SeenPart → Bool
is_quoted (Literal bytes quoted) = quoted
is_quoted (Variable name default quoted) = quoted
is_quoted Unknown = false

-- the field of a word: one without a byte is a field only where a part of it is quoted
abbrev pub one_field : Bool → Option (List ℕ) → Option (List ℕ)
one_field quoted None = None
one_field quoted (Some text) = if is_empty text && not quoted then None else Some text

-- the field of a settled word
abbrev pub settled_field : (List ℕ → Bool) → List SeenPart → Option (List ℕ)
settled_field unset parts = one_field (list_any is_quoted parts) (settled_text unset parts)

-- the fields of words, where all are settled
abbrev pub settled_fields : (List ℕ → Bool) → List (List SeenPart) → Option (List (List ℕ))
settled_fields unset words = all_joined (λ word. option_map (λ field. field ∷ []) (settled_field unset word)) words

-- what is there, as a list
abbrev pub listed : Option (List (List ℕ)) → List (List (List ℕ))
listed None = []
listed (Some fields) = fields ∷ []

-- the fields of a command, where all of its words are settled
abbrev pub settled : (List ℕ → Bool) → SeenCommand → List (List (List ℕ))
settled unset command = listed (settled_fields unset command.words)

-- the fields of each simple command whose words are all settled, in the script of this body
abbrev pub settled_commands : Command → List (List (List ℕ))
settled_commands body = flat_map (settled (has_no_value (commands_in body))) (commands_in body)

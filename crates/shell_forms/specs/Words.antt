-- What the rules on forms see of a word: what it says before any expansion.
use Rattle.std.specs.Prelude.{ℕ, Bool, false, List, [], ◌∷◌, ◌++◌, Option, Some, None}
use Rattle.std.specs.List.{list_any, flat_map}
use Rattle.shell_forms.specs.Names.{Text}

-- What a part of a word says before any expansion; `A` is what is said of the command of a substitution.
pub record PartSays (A : Type 0) : Type 0 where
  -- its bytes, where it stands for bytes, quoted or not
  pub bytes : Option Text
  -- whether it is an expansion outside quotes
  pub unquoted : Bool
  -- whether it is `"$@"`
  pub is_all : Bool
  -- its command, where it is a substitution
  pub runs : Option A

-- the bytes of two neighbours, where both stand for bytes
abbrev pub both_bytes : Option Text → Option Text → Option Text
both_bytes None more = None
both_bytes (Some bytes) None = None
both_bytes (Some bytes) (Some more) = Some (bytes ++ more)

-- The bytes of a word without any expansion in it; such a word is static.
abbrev pub static : {A : Type 0} → List (PartSays A) → Option Text
static [] = Some []
static (part ∷ parts) = both_bytes part.bytes (static parts)

-- whether some part is an expansion outside quotes
abbrev pub has_unquoted : {A : Type 0} → List (PartSays A) → Bool
has_unquoted parts = list_any (λ part. part.unquoted) parts

-- the command of a substitution
abbrev pub command_of : {A : Type 0} → Option A → List A
command_of None = []
command_of (Some command) = command ∷ []

-- the commands of the substitutions in a word, in order
abbrev pub commands_of : {A : Type 0} → List (PartSays A) → List A
commands_of parts = flat_map (λ part. command_of part.runs) parts

-- whether a word is `"$@"` and nothing else
abbrev pub is_all_alone : {A : Type 0} → List (PartSays A) → Bool
is_all_alone [] = false
is_all_alone (part ∷ []) = part.is_all
is_all_alone (part ∷ other ∷ parts) = false

-- What a word says before any expansion: the byte offset of its first byte, and its parts.
pub record WordSays (A : Type 0) : Type 0 where
  pub at : ℕ
  pub parts : List (PartSays A)

-- What an assignment says: the variable's name, and the word behind the `=`.
pub record AssignSays (A : Type 0) : Type 0 where
  pub name : Text
  pub value : WordSays A
